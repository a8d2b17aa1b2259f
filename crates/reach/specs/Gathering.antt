-- Spans apart, and sets of primitives while they are gathered row by row.
use Rattle.std.specs.Prelude.{◌+◌, ◌^◌, Bool, List, ◌≡◌, length, if◌then◌else◌}
use Rattle.std.specs.Int.Bits.{bit_or}
use Rattle.std.specs.Int.Signed.{lt_z}
use Rattle.ground.specs.Bits.{places_of}
use Rattle.rules.specs.declared.Primitive.{Primitive}
use Rattle.rules.specs.Ranges.{Span}
use Rattle.rules.specs.Boxes.{Box, common, share}
use Rattle.rules.specs.Products.{box_of}
use Rattle.reach.specs.declared.Gathered.{Gathered}

-- two spans have nothing in common
abbrev pub apart : Span → Span → Bool
apart a b = lt_z (common a b).hi (common a b).lo

-- one primitive more, of which the test holds or does not
abbrev pub with_one : Gathered → Bool → Gathered
with_one g passes = record { set = bit_or g.set (if passes then 2 ^ g.count else 0); count = g.count + 1 }

-- of these primitives, those of which a test holds; and how many these are
pub record Gathers (solids : List Primitive) (test : Primitive → Bool) (g : Gathered) : Type 0 where
  pub set : g.set ≡ places_of test solids
  pub count : g.count ≡ length solids

-- a box shares a point with the primitive's box
abbrev pub meeting : Box → Primitive → Bool
meeting box s = share (box_of s) box
