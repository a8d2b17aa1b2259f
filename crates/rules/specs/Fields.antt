-- Section 2 of docs/RULES.md: what a row's fields, spare words and children must be.
use Rattle.std.specs.Prelude.{ℕ, ◌+◌, Bool, true, false, not, ◌&&◌, ◌||◌, ltb, ℤ, pos, negsuc, ◌+ℤ◌, ◌-ℤ◌}
use Rattle.std.specs.Int.Signed.{le_z}
use Rattle.ground.specs.Tests.{eq_z}
use Rattle.ground.specs.Lists.{rest, all_of}
use Rattle.rules.specs.declared.BoxShape.{BoxShape}
use Rattle.rules.specs.declared.WedgeShape.{WedgeShape}
use Rattle.rules.specs.declared.DrumShape.{DrumShape}
use Rattle.rules.specs.declared.Corner.{Corner}
use Rattle.rules.specs.declared.TriangleShape.{TriangleShape}
use Rattle.rules.specs.declared.Kind.{Kind}
use Rattle.rules.specs.declared.Kind.TheVariants.{Box, Wedge, Drum, Union, Inter, Diff, Triangle}
use Rattle.rules.specs.Ranges.{Span, within, columns, codes, frames}
use Rattle.rules.specs.Kinds.{is_primitive, named_words}
use Rattle.rules.specs.Table.{row_words, box_shape, wedge_shape, drum_shape, triangle_shape}
use Rattle.rules.specs.Sides.{twice_area}

abbrev pub slopes : Span
slopes = record { lo = negsuc 32767; hi = pos 32767 }

abbrev pub radii : Span
radii = record { lo = pos 1; hi = pos 4096 }

-- both ends are coordinates, and lo <= hi
abbrev pub ends_right : Span → ℤ → ℤ → Bool
ends_right range lo hi = within range lo && (within range hi && le_z lo hi)

abbrev pub box_right : BoxShape → Bool
box_right b = ends_right columns b.xlo b.xhi && (ends_right codes b.ylo b.yhi && ends_right frames b.zlo b.zhi)

-- not all three are 0
abbrev pub slopes_right : ℤ → ℤ → ℤ → Bool
slopes_right a b c =
    within slopes a && (within slopes b && (within slopes c && not (eq_z a (pos 0) && (eq_z b (pos 0) && eq_z c (pos 0)))))

-- d is any 32-bit value
abbrev pub wedge_right : WedgeShape → Bool
wedge_right w = box_right w.bounds && slopes_right w.a w.b w.c

-- the centre plus and minus a radius is in range
abbrev pub reach_right : Span → ℤ → ℤ → Bool
reach_right range centre radius = within radii radius && (within range (centre -ℤ radius) && within range (centre +ℤ radius))

abbrev pub drum_right : DrumShape → Bool
drum_right d = reach_right columns d.cx d.rx && (reach_right codes d.cy d.ry && ends_right frames d.zlo d.zhi)

abbrev pub corner_right : Corner → Bool
corner_right c = within columns c.x && within codes c.y

abbrev pub corners_right : TriangleShape → Bool
corners_right t = corner_right t.first && (corner_right t.second && corner_right t.third)

-- the corners are in range, and do not lie on one line
abbrev pub triangle_right : TriangleShape → Bool
triangle_right t = corners_right t && (ends_right frames t.zlo t.zhi && not (eq_z (twice_area t) (pos 0)))

abbrev pub fields_right : Kind → (ℕ → ℤ) → Bool
fields_right Box w = box_right (box_shape w)
fields_right Wedge w = wedge_right (wedge_shape w)
fields_right Drum w = drum_right (drum_shape w)
fields_right Union w = true
fields_right Inter w = true
fields_right Diff w = true
fields_right Triangle w = triangle_right (triangle_shape w)

-- the words that a kind does not name are 0
abbrev pub spare_right : Kind → (ℕ → ℤ) → Bool
spare_right k w = all_of (λ i. eq_z (w i) (pos 0)) (rest (1 + named_words k) row_words)

-- a child is an earlier row
abbrev pub is_earlier : ℕ → ℤ → Bool
is_earlier row (pos child) = ltb child row
is_earlier row (negsuc child) = false

-- an operation has two
abbrev pub children_right : Kind → (ℕ → ℤ) → ℕ → Bool
children_right k w row = is_primitive k || (is_earlier row (w 1) && is_earlier row (w 2))
