-- Boxes as sets of primitives: which boxes share a point with each box and with the window. Boxes have a common point as soon as each two
-- have, so these sets decide whether a product's box is empty and which cuts share a point with it.
use Rattle.std.specs.Prelude.{ℕ, ◌/◌, Bool, List, [], ◌∷◌, map, eqb, if◌then◌else◌}
use Rattle.std.specs.Int.Bits.{bit_and}
use Rattle.ground.specs.Bits.{odd, places_of}
use Rattle.rules.specs.declared.Primitive.{Primitive}
use Rattle.rules.specs.declared.Window.{Window}
use Rattle.rules.specs.Boxes.{Box, window_box, share}
use Rattle.rules.specs.Products.{box_of}

-- the primitives whose boxes share a point with a box
abbrev pub sharing : List Primitive → Box → ℕ
sharing solids box = places_of (λ s. share (box_of s) box) solids

-- for each primitive, those whose boxes share a point with its own
abbrev pub meetings : List Primitive → List ℕ
meetings solids = map (λ s. sharing solids (box_of s)) solids

-- what is left of a set after each chosen primitive has cut it; bit i of `chosen` stands for element i
unfoldable pub cut_down : List ℕ → ℕ → ℕ → ℕ
cut_down [] chosen set = set
cut_down (m ∷ ms) chosen set = cut_down ms (chosen / 2) (if odd chosen then bit_and m set else set)

abbrev pub reach_in : Window → List Primitive → ℕ → ℕ
reach_in w solids chosen = cut_down (meetings solids) chosen (sharing solids (window_box w))

abbrev pub alive_in : Window → List Primitive → ℕ → Bool
alive_in w solids chosen = eqb (bit_and chosen (reach_in w solids chosen)) chosen
