-- What a row of a table is in its tree of numbers, and that tree in prefix form.
use Rattle.std.specs.Prelude.{ℕ, ◌+◌, ◌<◌, List, ◌∷◌, ◌++◌, ◌≡◌, ℤ}
use Rattle.std.proofs.lemmas.List.Edits.{sets}
use Rattle.rules.specs.Form.{Form, form_of}
use Rattle.rules.specs.Tree.{tree_at}
use Rattle.rules.specs.TreeRows.{rows_in}
use Rattle.moves.specs.Moves.{node}
use Rattle.normal.specs.Prefix.{flat}

abbrev pub form_at : List ℤ → ℕ → Form
form_at t row = form_of (tree_at t row)

-- a node's operation, and the rows of its parts, which are earlier ones
pub record Branches (t : List ℤ) (row k a b : ℕ) : Type 0 where
  pub operation : k < 32
  pub words : flat (form_at t row) ≡ node k (rows_in (form_at t a)) ∷ (flat (form_at t a) ++ flat (form_at t b))
  pub long : rows_in (form_at t row) ≡ 1 + rows_in (form_at t a) + rows_in (form_at t b)
  pub first : a < row
  pub second : b < row

-- the tree of a row stands in prefix form from `at` on
pub record Laid (t : List ℤ) (row at : ℕ) (before after : List ℤ) (r : ℕ) : Type 0 where
  pub ends : r ≡ at + rows_in (form_at t row)
  pub words : after ≡ sets before at (flat (form_at t row))
