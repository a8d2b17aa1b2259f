-- A line of codes, or of frames, counted in places: a place stands for the value that a header's word stands for on the axis of frames, which has
-- room for codes too. What a primitive holds of such a line is one stretch of places.
use Rattle.std.specs.Prelude.{ℕ, suc, ◌<◌, ◌≤◌, ◌*◌, ◌+◌, ◌-◌, max, min, Bool, ◌&&◌, ◌≡◌, leb, ℤ, pos, ◌+ℤ◌, ◌-ℤ◌, ◌*ℤ◌}
use Rattle.std.specs.Int.Signed.{le_z}
use Rattle.rules.specs.declared.Axis.TheVariants.{Frame}
use Rattle.rules.specs.declared.BoxShape.{BoxShape}
use Rattle.rules.specs.declared.Corner.{Corner}
use Rattle.rules.specs.declared.Point.{Point}
use Rattle.rules.specs.declared.WedgeShape.{WedgeShape}
use Rattle.rules.specs.Boxes.{Box}
use Rattle.rules.specs.Inside.{square}
use Rattle.rules.specs.ListWords.{most_word, lowered}
use Rattle.rules.specs.Ranges.{within}
use Rattle.rules.specs.Sides.{side}
use Rattle.solid.specs.declared.Range.{Range}
use Rattle.span.specs.declared.Line.{Line}
use Rattle.span.specs.declared.Line.TheVariants.{Codes, Frames}
use Rattle.span.specs.declared.Stretch.{Stretch}

-- how many places a line has
abbrev pub places : ℕ
places = suc (most_word Frame)

-- the value at a place
abbrev pub value : ℕ → ℤ
value v = lowered Frame v

-- a place is one of a stretch's
abbrev pub between : Stretch → ℕ → Bool
between s v = leb s.lo v && leb v s.hi

-- the places of a line at which a test holds are those of a stretch, which is empty when lo exceeds hi
pub record Along (test : ℕ → Bool) (s : Stretch) : Type 0 where
  pub each : (v : ℕ) → v < places → test v ≡ between s v

-- what two stretches have in common
abbrev pub shared : Stretch → Stretch → Stretch
shared a b = record { lo = max a.lo b.lo; hi = min a.hi b.hi }

-- the places at most m from place c
abbrev pub near : ℕ → ℕ → Stretch
near c m = record { lo = c - m; hi = c + m }

-- the points of a point's column, code by code
abbrev pub code_point : Point → ℕ → Point
code_point p v = record { x = p.x; y = value v; z = p.z }

-- the points of a point's column and code, frame by frame
abbrev pub frame_point : Point → ℕ → Point
frame_point p v = record { x = p.x; y = p.y; z = value v }

-- the points of a line through a point
abbrev pub point_at : Line → Point → ℕ → Point
point_at Codes p v = code_point p v
point_at Frames p v = frame_point p v

-- a point's column and frame are a box's
abbrev pub beside : Box → Point → Bool
beside b p = within b.x p.x && within b.z p.z

-- a point's column and code are a box's
abbrev pub over : Box → Point → Bool
over b p = within b.x p.x && within b.y p.y

-- the coordinates that a line's points share are a box's
abbrev pub meets : Line → Box → Point → Bool
meets Codes b p = beside b p
meets Frames b p = over b p

-- what a box has of the axis that a line runs along
abbrev pub range_along : Line → BoxShape → Range
range_along Codes b = record { lo = b.ylo; hi = b.yhi }
range_along Frames b = record { lo = b.zlo; hi = b.zhi }

-- what is left of a half space's inequality for the part of the code, or of the frame, by the two other parts
abbrev pub plane_left : ℤ → ℤ → ℤ → ℤ → ℤ → ℤ
plane_left a x c z d = d -ℤ (a *ℤ x +ℤ c *ℤ z)

-- the slope of a wedge's plane along a line, what it adds for the axis across, and what is left of its inequality beside the slope
abbrev pub slope_along : Line → WedgeShape → ℤ
slope_along Codes w = w.b
slope_along Frames w = w.c

abbrev pub across : Line → WedgeShape → Point → ℤ
across Codes w p = w.c *ℤ p.z
across Frames w p = w.b *ℤ p.y

abbrev pub left_along : Line → WedgeShape → Point → ℤ
left_along line w p = w.d -ℤ (w.a *ℤ p.x +ℤ across line w p)

-- what is left of an ellipse's inequality for the code's part
abbrev pub ellipse_left : ℤ → ℤ → ℤ → ℤ → ℤ
ellipse_left cx rx ry x = square rx *ℤ square ry -ℤ square ry *ℤ square (x -ℤ cx)

-- m is the greatest number with r2 m² <= room
pub record Root (r2 room m : ℕ) : Type 0 where
  pub fits : r2 * (m * m) ≤ room
  pub over : room < r2 * ((m + 1) * (m + 1))

-- a point is on the side >= 0 of each edge
abbrev pub ahead : Corner → Corner → Corner → ℤ → ℤ → Bool
ahead a b c x y = le_z (pos 0) (side a b x y) && (le_z (pos 0) (side b c x y) && le_z (pos 0) (side c a x y))
