-- Section 7 of docs/RULES.md: pruning. What stays of the choices in a window: the products of a zone there.
use Rattle.std.specs.Prelude.{Bool, not, ◌&&◌, eqb, ◌+ℤ◌, ◌-ℤ◌}
use mathlib.Core.List.{List, [], ◌∷◌, map, foldr}
use Rattle.ground.specs.Bits.{selected, places_where}
use Rattle.ground.specs.Lists.{keep_if}
use Rattle.rules.specs.declared.Primitive.{Primitive}
use Rattle.rules.specs.declared.Primitive.TheVariants as primitive
use Rattle.rules.specs.declared.Product.{Product}
use Rattle.rules.specs.declared.Window.{Window}
use Rattle.rules.specs.Ranges.{around}
use Rattle.rules.specs.Boxes.{Box, window_box, common_box, empty, share}
use Rattle.rules.specs.Inside.{bounds}
use Rattle.rules.specs.Tree.{Tree}
use Rattle.rules.specs.Choices.{choices, in_of}

-- a primitive's box: the six bounds; of a drum, centre plus and minus radii and its frames; of a triangle, what lies around its corners and its frames
abbrev pub box_of : Primitive → Box
box_of (primitive.Box b) = bounds b
box_of (primitive.Wedge w) = bounds w.bounds
box_of (primitive.Drum d) = record {
  x = record { lo = d.cx -ℤ d.rx; hi = d.cx +ℤ d.rx };
  y = record { lo = d.cy -ℤ d.ry; hi = d.cy +ℤ d.ry };
  z = record { lo = d.zlo; hi = d.zhi };
}
box_of (primitive.Triangle t) = record {
  x = around t.first.x t.second.x t.third.x;
  y = around t.first.y t.second.y t.third.y;
  z = record { lo = t.zlo; hi = t.zhi };
}

-- in a window, of a zone with these primitives
module _ (w : Window) (solids : List Primitive) where
  -- the window cut with the boxes of the uncomplemented primitives
  abbrev pub product_box : Product → Box
  product_box c = foldr (λ s b. common_box (box_of s) b) (window_box w) (selected c.plain solids)

  -- a product whose box is empty is dropped
  abbrev pub stays : Product → Bool
  stays c = not (empty (product_box c))

  -- one that stays keeps those of its cuts whose boxes share a point with its box
  abbrev pub trimmed : Product → Product
  trimmed c = record { plain = c.plain; cuts = places_where (λ s. share (box_of s) (product_box c)) c.cuts solids }

abbrev pub same : Product → Product → Bool
same a b = eqb a.plain b.plain && eqb a.cuts b.cuts

-- of products that are equal only the first stays
unfoldable pub firsts : List Product → List Product
firsts [] = []
firsts (c ∷ cs) = c ∷ keep_if (λ later. not (same c later)) (firsts cs)

unfoldable pub products : Window → List Primitive → Tree → List Product
products w solids tree = firsts (map (trimmed w solids) (keep_if (stays w solids) (choices in_of tree)))
