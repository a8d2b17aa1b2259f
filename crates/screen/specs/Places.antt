-- Places that no search tells apart.
use Rattle.std.specs.Prelude.{false, ◌≡◌}
use Rattle.rules.specs.declared.Place.{Place}
use Rattle.rules.specs.Ranges.{within, frames}

-- one and the same; or at one column, and both with a number out of range
pub data Alike (a b : Place) : Type 0 where
  same : a ≡ b → Alike a b
  beyond : a.first ≡ b.first → within frames a.frame ≡ false → within frames b.frame ≡ false → Alike a b
