-- What becomes of a way of choosing in a window, from the rules' box and cuts of its product.
use mathlib.Core.List.{List, foldr}
use Rattle.std.specs.Int.Signed.{lt_z}
use Rattle.ground.specs.Bits.{selected}
use Rattle.std.specs.Prelude.{Result, Ok, Err, if◌then◌else◌}
use Rattle.rules.specs.declared.Axis.{Axis}
use Rattle.rules.specs.declared.Axis.TheVariants.{Column, Code, Frame}
use Rattle.rules.specs.declared.Primitive.{Primitive}
use Rattle.rules.specs.declared.Product.{Product}
use Rattle.rules.specs.declared.Window.{Window}
use Rattle.rules.specs.Boxes.{Box, common_box}
use Rattle.rules.specs.Products.{box_of, product_box, trimmed}

-- kept as this product, or dropped on the first axis on which the box is empty
abbrev pub Fate : Type 0
Fate = Result Product Axis

-- a box, cut with those of the primitives of these that a product is in
abbrev pub cut_by : Product → List Primitive → Box → Box
cut_by c solids b = foldr (λ s rest. common_box (box_of s) rest) b (selected c.plain solids)

-- a product with this box is dropped on the first axis on which the box is empty
abbrev pub fate_by : Box → Product → Fate
fate_by b kept =
    if lt_z b.x.hi b.x.lo then Err Column
    else (if lt_z b.y.hi b.y.lo then Err Code else (if lt_z b.z.hi b.z.lo then Err Frame else Ok kept))

abbrev pub fate_in : Window → List Primitive → Product → Fate
fate_in w solids c = fate_by (product_box w solids c) (trimmed w solids c)
