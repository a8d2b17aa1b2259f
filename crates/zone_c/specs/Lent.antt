-- A point and a place by the numbers that C lends.
use Rattle.std.specs.Prelude.{ℤ}
use Rattle.rules.specs.declared.Place.{Place}
use Rattle.rules.specs.declared.Point.{Point}

abbrev pub point : ℤ → ℤ → ℤ → Point
point x y z = record { x = x; y = y; z = z }

abbrev pub place : ℤ → ℤ → Place
place first frame = record { first = first; frame = frame }
