-- How far around a point a primitive's answer stays as it is. Columns and codes are places.
use Rattle.std.specs.Prelude.{ℕ, ◌+◌, ◌≤◌, true, ◌≡◌, ℤ}
use Rattle.rules.specs.declared.Axis.TheVariants.{Frame}
use Rattle.rules.specs.declared.Point.{Point}
use Rattle.rules.specs.declared.Primitive.{Primitive}
use Rattle.rules.specs.Boxes.{holds}
use Rattle.rules.specs.Inside.{inside_solid}
use Rattle.rules.specs.ListWords.{raised}
use Rattle.rules.specs.Products.{box_of}
use Rattle.span.specs.Along.{value}

-- the point of a frame at two places
abbrev pub spot : ℤ → ℕ → ℕ → Point
spot z x v = record { x = value x; y = value v; z = z }

-- column a and code b are no further than m from x and v; columns count from x on
pub record Close (m x v a b : ℕ) : Type 0 where
  pub from : x ≤ a
  pub until : a ≤ x + m
  pub low : v ≤ b + m
  pub high : b ≤ v + m

-- in its box a primitive says of every point that close what it says of this one
pub record Margin (s : Primitive) (p : Point) (m : ℕ) : Type 0 where
  pub same : (a b : ℕ) → Close m (raised Frame p.x) (raised Frame p.y) a b → holds (box_of s) p ≡ true → holds (box_of s) (spot p.z a b) ≡ true
      → inside_solid s (spot p.z a b) ≡ inside_solid s p
