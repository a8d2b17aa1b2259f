-- What a zone holds of a line of places: the highest place inside; and what its primitives hold of the line, as entries.
use Rattle.std.specs.Prelude.{ℕ, ◌-◌, ◌≤◌, ◌<◌, Bool, true, false, List, ◌≡◌, length}
use Rattle.rules.specs.declared.Point.{Point}
use Rattle.rules.specs.declared.Primitive.{Primitive}
use Rattle.laws.specs.Held.{held}
use Rattle.level.specs.declared.Entry.{Entry}
use Rattle.level.specs.Levels.{set_at}

-- one past the highest of the places from .. to - 1 at which a test holds; `from` where it holds at none
pub record Highest (test : ℕ → Bool) (from to r : ℕ) : Type 0 where
  pub low : from ≤ r
  pub up : r ≤ to
  pub above : (w : ℕ) → r ≤ w → w < to → test w ≡ false
  pub there : from < r → test (r - 1) ≡ true

-- so many primitives were met, and of those that hold a place of from .. to - 1 the entries tell at which
pub record Lining (line : ℕ → Point) (solids : List Primitive) (from to : ℕ) (entries : List Entry) (met : ℕ) : Type 0 where
  pub number : met ≡ length solids
  pub few : length entries ≤ met
  pub each : (v : ℕ) → from ≤ v → v < to → held solids (line v) ≡ set_at entries v

-- all of some primitives
pub record LinedUp (line : ℕ → Point) (solids : List Primitive) (from to : ℕ) (entries : List Entry) : Type 0 where
  pub each : (v : ℕ) → from ≤ v → v < to → held solids (line v) ≡ set_at entries v
