-- Section 2 of docs/RULES.md: the side of an edge that a point is on, and the area of a triangle.
use Rattle.std.specs.Prelude.{ℤ, ◌-ℤ◌, ◌*ℤ◌}
use Rattle.rules.specs.declared.Corner.{Corner}
use Rattle.rules.specs.declared.TriangleShape.{TriangleShape}

-- 0 on the line through a and b; above 0 on one side of it, below 0 on the other
abbrev pub side : Corner → Corner → ℤ → ℤ → ℤ
side a b x y = (a.x -ℤ x) *ℤ (b.y -ℤ y) -ℤ (b.x -ℤ x) *ℤ (a.y -ℤ y)

-- twice the area: the side of its first edge that the third corner is on; its sign says which way round the corners run
abbrev pub twice_area : TriangleShape → ℤ
twice_area t = side t.first t.second t.third.x t.third.y
