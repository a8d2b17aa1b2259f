-- The numbers of a point, a wedge, a drum and a corner as code reads them, in 32 bits and in 64: exact, each with the most that it is from 0.
-- Assumes nothing.
use Prim.Native.Nat.{ℕ, suc, ◌^◌, ◌<◌}
use native.Mathlib.Nat.{lt_trans}
use mathlib.Core.Bool.{true}
use mathlib.Core.Path.{◌≡◌}
use lib.Dec.{ltb→lt}
use lib.IntN.{ℤ, pos, negsuc, ◌-ℤ◌, ◌*ℤ◌}
use lib.Signed.{mag}
use mir.Syntax.{w32, w64}
use mir.Val.{of_z, to_z, hbits}
use Rattle.ground.proofs.Num.{Num, Fit, known, cast_num, mul_num, sub_num}
use Rattle.rules.specs.declared.Corner.{Corner}
use Rattle.rules.specs.declared.DrumShape.{DrumShape}
use Rattle.rules.specs.declared.Point.{Point}
use Rattle.rules.specs.declared.WedgeShape.{WedgeShape}
use Rattle.rules.specs.Boxes.{holds, everywhere}
use Rattle.rules.specs.Fields.{radii, wedge_right, drum_right, corner_right}
use Rattle.rules.specs.Inside.{square}
use Rattle.rules.specs.Ranges.{within, columns}
use Rattle.laws.proofs.Ranges.{x_in, y_in, z_in, a_in, b_in, c_in, cx_in, cy_in, rx_in, ry_in, corner_x_in, corner_y_in}
use Rattle.laws.proofs.Spans.{even_span, upper_span}

-- a number of 32 bits, at most n from 0; and read in 64
abbrev pub Narrow : ℤ → ℕ → Type 0
Narrow v n = Num w32 (of_z w32 v) v n

abbrev pub wide_bits : ℤ → ℕ
wide_bits v = of_z w64 (to_z w32 (of_z w32 v))

abbrev pub Wide : ℤ → ℕ → Type 0
Wide v n = Num w64 (wide_bits v) v n

known_by : {n : ℕ} {v : ℤ} → mag v < n → Fit n w32 → Narrow v n
known_by {n} h t = known (record { sfits = lt_trans h (ltb→lt n (2 ^ hbits w32) t) }) h

pub even : (n : ℕ) {v : ℤ} → within (record { lo = negsuc n; hi = pos n }) v ≡ true → Fit (suc n) w32 → Narrow v (suc n)
even n {v} h t = known_by (even_span n v h) t

pub upper : (n : ℕ) {v : ℤ} → within (record { lo = pos 1; hi = pos n }) v ≡ true → Fit (suc n) w32 → Narrow v (suc n)
upper n {v} h t = known_by (upper_span n v h) t

module _ (p : Point) (h : holds everywhere p ≡ true) where
  pub x_num : Narrow p.x 32768
  x_num = even 32767 (x_in p h) tt

  pub y_num : Narrow p.y 32768
  y_num = even 32767 (y_in p h) tt

  pub z_num : Narrow p.z 1048576
  z_num = even 1048575 (z_in p h) tt

  pub x_wide : Wide p.x 32768
  x_wide = cast_num x_num tt

  pub y_wide : Wide p.y 32768
  y_wide = cast_num y_num tt

  pub z_wide : Wide p.z 1048576
  z_wide = cast_num z_num tt

module _ (w : WedgeShape) (h : wedge_right w ≡ true) where
  pub a_num : Narrow w.a 32768
  a_num = even 32767 (a_in w h) tt

  pub b_num : Narrow w.b 32768
  b_num = even 32767 (b_in w h) tt

  pub a_wide : Wide w.a 32768
  a_wide = cast_num a_num tt

  pub b_wide : Wide w.b 32768
  b_wide = cast_num b_num tt

  pub c_wide : Wide w.c 32768
  c_wide = cast_num (even 32767 (c_in w h) tt) tt

module _ (d : DrumShape) (h : drum_right d ≡ true) where
  pub cx_num : Narrow d.cx 32768
  cx_num = even 32767 (cx_in d h) tt

  pub cy_num : Narrow d.cy 32768
  cy_num = even 32767 (cy_in d h) tt

  pub rx_num : Narrow d.rx 4097
  rx_num = upper 4096 (rx_in d h) tt

  pub ry_num : Narrow d.ry 4097
  ry_num = upper 4096 (ry_in d h) tt

-- what an ellipse's inequality is made of: how far a point is from its centre on an axis, and the square of a radius
pub apart_wide : (v o : ℤ) → within columns v ≡ true → within columns o ≡ true
    → Num w64 (of_z w64 (to_z w64 (wide_bits v) -ℤ to_z w64 (wide_bits o))) (v -ℤ o) 65536
apart_wide v o h k =
    let here : Wide v 32768 = cast_num (even 32767 h tt) tt in
    let there : Wide o 32768 = cast_num (even 32767 k tt) tt in
    sub_num here there tt

pub radius_square : (r : ℤ) → within radii r ≡ true → Num w64 (of_z w64 (to_z w64 (wide_bits r) *ℤ to_z w64 (wide_bits r))) (square r) 16785409
radius_square r h = let wide : Wide r 4097 = cast_num (upper 4096 h tt) tt in mul_num wide wide tt

module _ (c : Corner) (h : corner_right c ≡ true) where
  pub corner_x : Narrow c.x 32768
  corner_x = even 32767 (corner_x_in c h) tt

  pub corner_y : Narrow c.y 32768
  corner_y = even 32767 (corner_y_in c h) tt
