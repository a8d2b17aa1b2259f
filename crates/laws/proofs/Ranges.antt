-- What the rules of a box, a wedge, a drum and a triangle, and the range of points, say of each number. Assumes nothing.
use Prim.Native.Nat.{ℕ, zero, suc, ◌+◌, ◌≤◌}
use native.Mathlib.Omega.{arith}
use mathlib.Core.Bool.{Bool, true, false, not, ◌&&◌}
use mathlib.Core.Path.{◌≡◌}
use borrow.Author.Tests.{leb-true, le-leb, not-true}
use lib.Dec.{leb}
use lib.IntN.{ℤ, pos, negsuc, ◌+ℤ◌, ◌-ℤ◌}
use lib.Signed.{le_z}
use Rattle.ground.specs.Tests.{eq_z}
use Rattle.ground.proofs.Branches.{false_true, and_left, and_right}
use Rattle.rules.specs.declared.BoxShape.{BoxShape}
use Rattle.rules.specs.declared.Point.{Point}
use Rattle.rules.specs.declared.WedgeShape.{WedgeShape}
use Rattle.rules.specs.declared.DrumShape.{DrumShape}
use Rattle.rules.specs.declared.Corner.{Corner}
use Rattle.rules.specs.declared.TriangleShape.{TriangleShape}
use Rattle.rules.specs.Ranges.{Span, within, columns, codes, frames}
use Rattle.rules.specs.Boxes.{holds, everywhere}
use Rattle.rules.specs.Fields.{slopes, radii, box_right, slopes_right, wedge_right, ends_right, reach_right, drum_right, corner_right, corners_right, triangle_right}
use Rattle.rules.specs.Sides.{twice_area}

-- the second and the third of a chain of tests
pub second : (p q r : Bool) → (p && (q && r)) ≡ true → q ≡ true
second p q r h = and_left q r (and_right p (q && r) h)

pub third : (p q r : Bool) → (p && (q && r)) ≡ true → r ≡ true
third p q r h = and_right q r (and_right p (q && r) h)

module _ (p : Point) (h : holds everywhere p ≡ true) where
  pub x_in : within columns p.x ≡ true
  x_in = and_left (within columns p.x) (within codes p.y && within frames p.z) h

  pub y_in : within codes p.y ≡ true
  y_in = second (within columns p.x) (within codes p.y) (within frames p.z) h

  pub z_in : within frames p.z ≡ true
  z_in = third (within columns p.x) (within codes p.y) (within frames p.z) h

pub ends_in : (s : Span) (lo hi : ℤ) → ends_right s lo hi ≡ true → (within s lo ≡ true) × (within s hi ≡ true)
ends_in s lo hi h = (and_left (within s lo) (within s hi && le_z lo hi) h, second (within s lo) (within s hi) (le_z lo hi) h)

-- columns and codes are among the numbers of frames
pub framed : (c : ℤ) → within columns c ≡ true → within frames c ≡ true
framed (pos m) h = le-leb m 1048575 (omega (arith, leb-true m 32767 h))
framed (negsuc m) h = rw (le-leb m 1048575 (omega (arith, leb-true m 32767 (and_left (leb m 32767) true h))))

module _ (b : BoxShape) (h : box_right b ≡ true) where
  abbrev x_right : Bool
  x_right = ends_right columns b.xlo b.xhi

  abbrev y_right : Bool
  y_right = ends_right codes b.ylo b.yhi

  abbrev z_right : Bool
  z_right = ends_right frames b.zlo b.zhi

  pub box_columns_in : (within columns b.xlo ≡ true) × (within columns b.xhi ≡ true)
  box_columns_in = ends_in columns b.xlo b.xhi (and_left x_right (y_right && z_right) h)

  pub box_codes_in : (within codes b.ylo ≡ true) × (within codes b.yhi ≡ true)
  box_codes_in = ends_in codes b.ylo b.yhi (second x_right y_right z_right h)

  pub frames_of_box : ends_right frames b.zlo b.zhi ≡ true
  frames_of_box = third x_right y_right z_right h

module _ (w : WedgeShape) (h : wedge_right w ≡ true) where
  pub bounds_right : box_right w.bounds ≡ true
  bounds_right = and_left (box_right w.bounds) (slopes_right w.a w.b w.c) h

  slopes_in : slopes_right w.a w.b w.c ≡ true
  slopes_in = and_right (box_right w.bounds) (slopes_right w.a w.b w.c) h

  abbrev slanted : Bool
  slanted = not (eq_z w.a (pos 0) && (eq_z w.b (pos 0) && eq_z w.c (pos 0)))

  pub a_in : within slopes w.a ≡ true
  a_in = and_left (within slopes w.a) (within slopes w.b && (within slopes w.c && slanted)) slopes_in

  pub b_in : within slopes w.b ≡ true
  b_in = second (within slopes w.a) (within slopes w.b) (within slopes w.c && slanted) slopes_in

  pub c_in : within slopes w.c ≡ true
  c_in = and_left (within slopes w.c) slanted (third (within slopes w.a) (within slopes w.b) (within slopes w.c && slanted) slopes_in)

-- a centre whose reach is in a span is in it
module _ (n : ℕ) where
  abbrev span : Span
  span = record { lo = negsuc n; hi = pos n }

  centre_in : (c r : ℤ) → reach_right span c r ≡ true → within span c ≡ true
  centre_in (pos m) (pos k) h =
      let l : m + k ≤ n = leb-true (m + k) n (third (within radii (pos k)) (within span (pos m -ℤ pos k)) (leb (m + k) n) h) in le-leb m n (omega arith)
  centre_in (negsuc m) (pos zero) h = false_true h
  centre_in (negsuc m) (pos (suc k)) h =
      let low = second (within radii (pos (suc k))) (within span (negsuc m -ℤ pos (suc k))) (within span (negsuc m +ℤ pos (suc k))) h in
      let l : suc (m + k) ≤ n = leb-true (suc (m + k)) n (and_left (leb (suc (m + k)) n) true low) in
      rw (le-leb m n (omega arith))
  centre_in c (negsuc k) h = false_true h

module _ (d : DrumShape) (h : drum_right d ≡ true) where
  pub x_reach : reach_right columns d.cx d.rx ≡ true
  x_reach = and_left (reach_right columns d.cx d.rx) (reach_right codes d.cy d.ry && ends_right frames d.zlo d.zhi) h

  pub y_reach : reach_right codes d.cy d.ry ≡ true
  y_reach = second (reach_right columns d.cx d.rx) (reach_right codes d.cy d.ry) (ends_right frames d.zlo d.zhi) h

  pub frames_of_drum : ends_right frames d.zlo d.zhi ≡ true
  frames_of_drum = third (reach_right columns d.cx d.rx) (reach_right codes d.cy d.ry) (ends_right frames d.zlo d.zhi) h

  pub cx_in : within columns d.cx ≡ true
  cx_in = centre_in 32767 d.cx d.rx x_reach

  pub cy_in : within codes d.cy ≡ true
  cy_in = centre_in 32767 d.cy d.ry y_reach

  pub rx_in : within radii d.rx ≡ true
  rx_in = and_left (within radii d.rx) (within columns (d.cx -ℤ d.rx) && within columns (d.cx +ℤ d.rx)) x_reach

  pub ry_in : within radii d.ry ≡ true
  ry_in = and_left (within radii d.ry) (within codes (d.cy -ℤ d.ry) && within codes (d.cy +ℤ d.ry)) y_reach

module _ (c : Corner) (h : corner_right c ≡ true) where
  pub corner_x_in : within columns c.x ≡ true
  corner_x_in = and_left (within columns c.x) (within codes c.y) h

  pub corner_y_in : within codes c.y ≡ true
  corner_y_in = and_right (within columns c.x) (within codes c.y) h

module _ (t : TriangleShape) (h : corners_right t ≡ true) where
  pub first_right : corner_right t.first ≡ true
  first_right = and_left (corner_right t.first) (corner_right t.second && corner_right t.third) h

  pub second_right : corner_right t.second ≡ true
  second_right = second (corner_right t.first) (corner_right t.second) (corner_right t.third) h

  pub third_right : corner_right t.third ≡ true
  third_right = third (corner_right t.first) (corner_right t.second) (corner_right t.third) h

module _ (t : TriangleShape) (h : triangle_right t ≡ true) where
  abbrev ends : Bool
  ends = ends_right frames t.zlo t.zhi

  abbrev spread : Bool
  spread = not (eq_z (twice_area t) (pos 0))

  pub triangle_corners_right : corners_right t ≡ true
  triangle_corners_right = and_left (corners_right t) (ends && spread) h

  pub frames_of_triangle : ends_right frames t.zlo t.zhi ≡ true
  frames_of_triangle = second (corners_right t) ends spread h

  pub not_flat : eq_z (twice_area t) (pos 0) ≡ false
  not_flat = not-true (eq_z (twice_area t) (pos 0)) (third (corners_right t) ends spread h)
