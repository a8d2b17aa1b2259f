-- The rows of a tree that lies in the work area, and what writing them leaves.
use Rattle.std.specs.Prelude.{ℕ, ◌+◌, ◌*◌, ◌≤◌, List, ◌≡◌, ℤ, pos, length, replicate}
use Rattle.std.proofs.lemmas.List.Edits.{sets}
use Rattle.rules.specs.Form.{Form}
use Rattle.rules.specs.TreeRows.{rows_in, rows_from}
use Rattle.moves.specs.Moves.{most_words}
use Rattle.normal.specs.Prefix.{Lies}

-- there is room for the rows of the tree at `at`
abbrev pub Fits : List ℤ → ℕ → List ℤ → ℕ → Type 0
Fits w at out row = (T : Form) × Lies w at T × ((row + rows_in T) * 3 ≤ length out) × (row + rows_in T ≤ most_words)

pub record Rowed (out done : List ℤ) (row : ℕ) (T : Form) (r : ℕ) : Type 0 where
  pub ends : r ≡ row + rows_in T
  pub written : done ≡ sets out (row * 3) (rows_from row T)

abbrev pub Emitted : List ℤ → ℕ → List ℤ → List ℤ → ℕ → ℕ → Type 0
Emitted w at out done row r = (T : Form) → Lies w at T → Rowed out done row T r

-- so many words that are 0
unfoldable pub zeros : ℕ → List ℤ
zeros n = replicate n (pos 0)
