-- A box and a wedge along either line: nothing where the line does not meet the box, else what the line's own range, and the plane, let through.
-- Assumes nothing.
use Prim.Native.Nat.{◌≤◌}
use native.Mathlib.Omega.{arith}
use mathlib.Core.Bool.{true, false, ◌&&◌}
use mathlib.Core.Path.{◌≡◌}
use lib.IntN.{ℤ, nat_abs, ◌*ℤ◌}
use lib.Signed.{le_z, nat_abs-le}
use mir.Syntax.{w32}
use mir.Val.{to_z, of_z}
use Rattle.rules.specs.declared.BoxShape.{BoxShape}
use Rattle.rules.specs.declared.Point.{Point}
use Rattle.rules.specs.declared.Primitive.TheVariants as primitive
use Rattle.rules.specs.declared.WedgeShape.{WedgeShape}
use Rattle.rules.specs.Boxes.{holds}
use Rattle.rules.specs.Fields.{ends_right, box_right, wedge_right}
use Rattle.rules.specs.Inside.{bounds, inside_wedge}
use Rattle.rules.specs.Ranges.{within, frames}
use Rattle.solid.specs.declared.Range.{Range}
use Rattle.laws.proofs.Ranges.{framed, box_codes_in, frames_of_box, ends_in, b_in, c_in}
use Rattle.laws.proofs.Spans.{even_span}
use Rattle.solid.proofs.Numbers.{even}
use Rattle.span.specs.declared.Line.{Line}
use Rattle.span.specs.declared.Line.TheVariants.{Codes, Frames}
use Rattle.span.specs.declared.Stretch.{Stretch}
use Rattle.span.specs.Along.{value, Along, point_at, over, meets, range_along, slope_along, left_along}
use Rattle.span.proofs.Shapes.{out_of_reach, box_meets, wedge_meets}
use Rattle.span.proofs.Frames.{held_frames, no_frames, over_frames, wedge_frames_meet, wedge_frames_miss}

-- both ends of a range have places
abbrev pub Ranged : Range → Type 0
Ranged r = (within frames r.lo ≡ true) × (within frames r.hi ≡ true)

pub range_in : (line : Line) (b : BoxShape) → box_right b ≡ true → Ranged (range_along line b)
range_in Codes b h = (framed b.ylo (box_codes_in b h).0, framed b.yhi (box_codes_in b h).1)
range_in Frames b h = ends_in frames b.zlo b.zhi (frames_of_box b h)

module _ (b : BoxShape) (p : Point) {r : Stretch} where
  pub box_missed : (line : Line) → box_right b ≡ true → meets line (bounds b) p ≡ false → Along (λ v. false) r → Along (λ v. holds (bounds b) (point_at line p v)) r
  box_missed Codes right h A = out_of_reach (primitive.Box b) p right h A
  box_missed Frames right h A = over_frames b p (no_frames (bounds b).z (over (bounds b) p) h A)

  pub box_met : (line : Line) → meets line (bounds b) p ≡ true
      → Along (λ v. within (record { lo = (range_along line b).lo; hi = (range_along line b).hi }) (value v)) r → Along (λ v. holds (bounds b) (point_at line p v)) r
  box_met Codes h A = box_meets b p h A
  box_met Frames h A = over_frames b p (held_frames (bounds b).z (over (bounds b) p) h A)

module _ (w : WedgeShape) (p : Point) {r : Stretch} where
  pub wedge_missed : (line : Line) → wedge_right w ≡ true → meets line (bounds w.bounds) p ≡ false → Along (λ v. false) r → Along (λ v. inside_wedge w (point_at line p v)) r
  wedge_missed Codes right h A = out_of_reach (primitive.Wedge w) p right h A
  wedge_missed Frames right h A = wedge_frames_miss w p h A

  pub wedge_met : (line : Line) → meets line (bounds w.bounds) p ≡ true
      → Along (λ v. within (record { lo = (range_along line w.bounds).lo; hi = (range_along line w.bounds).hi }) (value v) && le_z (slope_along line w *ℤ value v) (left_along line w p)) r
      → Along (λ v. inside_wedge w (point_at line p v)) r
  wedge_met Codes h A = wedge_meets w p h A
  wedge_met Frames h A = wedge_frames_meet w p h A

pub slope_size : (line : Line) (w : WedgeShape) → wedge_right w ≡ true → nat_abs (slope_along line w) ≤ 65536
slope_size Codes w h = omega (arith, nat_abs-le w.b (even_span 32767 w.b (b_in w h)))
slope_size Frames w h = omega (arith, nat_abs-le w.c (even_span 32767 w.c (c_in w h)))

-- ends that are written in a range are read as they are
pub ends_read : (lo hi : ℤ) → ends_right frames lo hi ≡ true → (within frames (to_z w32 (of_z w32 lo)) ≡ true) × (within frames (to_z w32 (of_z w32 hi)) ≡ true)
ends_read lo hi h = let (e, f) = ends_in frames lo hi h in (rw (even 1048575 e tt).reads e, rw (even 1048575 f tt).reads f)
