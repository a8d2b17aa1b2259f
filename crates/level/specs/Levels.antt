-- Stretches of a line, each with a mark. Which marks a place has; and down to where that does not change. Nothing here speaks of zones.
use Rattle.std.specs.Prelude.{ℕ, ◌≤◌, Bool, List, ◌≡◌, if◌then◌else◌}
use Rattle.std.specs.Int.Bits.{bit_or}
use Rattle.std.specs.List.{fold}
use Rattle.span.specs.Along.{between}
use Rattle.level.specs.declared.Shelf.{Shelf}
use Rattle.level.specs.declared.Entry.{Entry}

-- an entry's mark where its stretch has the place
abbrev pub mark_at : Entry → ℕ → ℕ
mark_at e v = if between e.stretch v then e.mark else 0

-- the marks of the entries that a place has, as one set
unfoldable pub set_at : List Entry → ℕ → ℕ
set_at entries v = fold (λ set e. bit_or set (mark_at e v)) 0 entries

-- from `least`, which is at least `floor`, up to v a test says one thing
pub record Steady (test : ℕ → Bool) (v floor least : ℕ) : Type 0 where
  pub low : floor ≤ least
  pub under : least ≤ v
  pub same : (w : ℕ) → least ≤ w → w ≤ v → test w ≡ test v

-- the set at v, and a floor down to which it does not change
pub record Levels (entries : List Entry) (v from : ℕ) (r : Shelf) : Type 0 where
  pub set : r.set ≡ set_at entries v
  pub low : from ≤ r.floor
  pub under : r.floor ≤ v
  pub same : (w : ℕ) → r.floor ≤ w → w ≤ v → set_at entries w ≡ set_at entries v
