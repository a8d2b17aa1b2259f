-- Section 5 of docs/RULES.md: when a point is inside a primitive, and inside a tree, by the set operations of document 000.
use Rattle.std.specs.Prelude.{Bool, not, ◌&&◌, ◌||◌, ℤ, pos, ◌+ℤ◌, ◌-ℤ◌, ◌*ℤ◌}
use Rattle.std.specs.Int.Signed.{le_z}
use Rattle.rules.specs.declared.Point.{Point}
use Rattle.rules.specs.declared.BoxShape.{BoxShape}
use Rattle.rules.specs.declared.WedgeShape.{WedgeShape}
use Rattle.rules.specs.declared.DrumShape.{DrumShape}
use Rattle.rules.specs.declared.TriangleShape.{TriangleShape}
use Rattle.rules.specs.declared.Primitive.{Primitive}
use Rattle.rules.specs.declared.Primitive.TheVariants as primitive
use Rattle.rules.specs.Ranges.{within}
use Rattle.rules.specs.Boxes.{Box, holds}
use Rattle.rules.specs.Sides.{side}
use Rattle.rules.specs.Tree.{Tree, solid, union, inter, diff}

-- the six bounds as a box
abbrev pub bounds : BoxShape → Box
bounds b = record {
  x = record { lo = b.xlo; hi = b.xhi };
  y = record { lo = b.ylo; hi = b.yhi };
  z = record { lo = b.zlo; hi = b.zhi };
}

-- ax + by + cz <= d
abbrev pub half_space : ℤ → ℤ → ℤ → ℤ → ℤ → ℤ → ℤ → Bool
half_space a b c d x y z = le_z (a *ℤ x +ℤ b *ℤ y +ℤ c *ℤ z) d

abbrev pub square : ℤ → ℤ
square v = v *ℤ v

-- ry²(x-cx)² + rx²(y-cy)² <= rx²ry²
abbrev pub in_ellipse : ℤ → ℤ → ℤ → ℤ → ℤ → ℤ → Bool
in_ellipse cx cy rx ry x y = le_z (square ry *ℤ square (x -ℤ cx) +ℤ square rx *ℤ square (y -ℤ cy)) (square rx *ℤ square ry)

abbrev pub inside_wedge : WedgeShape → Point → Bool
inside_wedge w p = holds (bounds w.bounds) p && half_space w.a w.b w.c w.d p.x p.y p.z

abbrev pub inside_drum : DrumShape → Point → Bool
inside_drum d p =
    within (record { lo = d.zlo; hi = d.zhi }) p.z && in_ellipse d.cx d.cy d.rx d.ry p.x p.y

-- on no edge's wrong side: the sides of the three edges are all >= 0 or all <= 0
abbrev pub one_sided : ℤ → ℤ → ℤ → Bool
one_sided u v w = (le_z (pos 0) u && (le_z (pos 0) v && le_z (pos 0) w)) || (le_z u (pos 0) && (le_z v (pos 0) && le_z w (pos 0)))

abbrev pub inside_triangle : TriangleShape → Point → Bool
inside_triangle t p =
    within (record { lo = t.zlo; hi = t.zhi }) p.z
    && one_sided (side t.first t.second p.x p.y) (side t.second t.third p.x p.y) (side t.third t.first p.x p.y)

abbrev pub inside_solid : Primitive → Point → Bool
inside_solid (primitive.Box b) p = holds (bounds b) p
inside_solid (primitive.Wedge w) p = inside_wedge w p
inside_solid (primitive.Drum d) p = inside_drum d p
inside_solid (primitive.Triangle t) p = inside_triangle t p

unfoldable pub inside : Tree → Point → Bool
inside (solid number s) p = inside_solid s p
inside (union left right) p = inside left p || inside right p
inside (inter left right) p = inside left p && inside right p
inside (diff left right) p = inside left p && not (inside right p)
