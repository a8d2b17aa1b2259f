-- A distance is at most 2 ^ 16 and a radius 2 ^ 12, so that each product is below 2 ^ 57 and the sum is exact in 64 bits.
use Prim.Native.Nat.{ℕ, ◌*◌}
use native.Mathlib.Omega.{arith}
use mathlib.Core.Bool.{true}
use mathlib.Core.Path.{◌≡◌}
use lib.IntN.{ℤ, ◌-ℤ◌, ◌*ℤ◌}
use mir.Syntax.{w64}
use mir.Val.{to_z, of_z}
use Rattle.ground.proofs.Num.{Num, mul_fits, mul_num, add_fits, add_num, sub_fits, sub_num}
use Rattle.rules.specs.Fields.{radii}
use Rattle.rules.specs.Inside.{square}
use Rattle.rules.specs.Ranges.{within, columns}
use Rattle.solid.proofs.Numbers.{wide_bits, apart_wide, radius_square}
use Rattle.solid.proofs.past_ellipse.Goals as goal

-- a radius's square times a distance's, as they are taken
abbrev part : ℤ → ℤ → ℤ → ℕ
part r v o =
    let u = of_z w64 (to_z w64 (wide_bits r) *ℤ to_z w64 (wide_bits r)) in
    let d = of_z w64 (to_z w64 (wide_bits v) -ℤ to_z w64 (wide_bits o)) in
    of_z w64 (to_z w64 u *ℤ to_z w64 (of_z w64 (to_z w64 d *ℤ to_z w64 d)))

part_num : (r v o : ℤ) → within radii r ≡ true → within columns v ≡ true → within columns o ≡ true
    → Num w64 (part r v o) (square r *ℤ square (v -ℤ o)) (16785409 * 4294967296)
part_num r v o round place centre = let d = apart_wide v o place centre in mul_num (radius_square r round) (mul_num d d tt) tt

pub overflow_mul-result : goal.overflow_mul-result
overflow_mul-result c = let x = apart_wide c.args.p.x c.args.d.cx c.requires.place_value.0 c.requires.centre_value.0 in mul_fits x x tt

pub overflow_mul-result-2 : goal.overflow_mul-result-2
overflow_mul-result-2 c =
    let x = apart_wide c.args.p.x c.args.d.cx c.requires.place_value.0 c.requires.centre_value.0 in
    mul_fits (radius_square c.args.d.ry c.requires.radii_value.1) (mul_num x x tt) tt

pub overflow_mul-result-3 : goal.overflow_mul-result-3
overflow_mul-result-3 c = let y = apart_wide c.args.p.y c.args.d.cy c.requires.place_value.1 c.requires.centre_value.1 in mul_fits y y tt

pub overflow_mul-result-4 : goal.overflow_mul-result-4
overflow_mul-result-4 c =
    let y = apart_wide c.args.p.y c.args.d.cy c.requires.place_value.1 c.requires.centre_value.1 in
    mul_fits (radius_square c.args.d.rx c.requires.radii_value.0) (mul_num y y tt) tt

pub overflow_add-result : goal.overflow_add-result
overflow_add-result c =
    let x = part_num c.args.d.ry c.args.p.x c.args.d.cx c.requires.radii_value.1 c.requires.place_value.0 c.requires.centre_value.0 in
    add_fits x (part_num c.args.d.rx c.args.p.y c.args.d.cy c.requires.radii_value.0 c.requires.place_value.1 c.requires.centre_value.1) tt

pub overflow_mul-result-5 : goal.overflow_mul-result-5
overflow_mul-result-5 c = mul_fits (radius_square c.args.d.rx c.requires.radii_value.0) (radius_square c.args.d.ry c.requires.radii_value.1) tt

pub overflow_sub-result : goal.overflow_sub-result
overflow_sub-result c =
    let x = part_num c.args.d.ry c.args.p.x c.args.d.cx c.requires.radii_value.1 c.requires.place_value.0 c.requires.centre_value.0 in
    let y = part_num c.args.d.rx c.args.p.y c.args.d.cy c.requires.radii_value.0 c.requires.place_value.1 c.requires.centre_value.1 in
    sub_fits (add_num x y tt) (mul_num (radius_square c.args.d.rx c.requires.radii_value.0) (radius_square c.args.d.ry c.requires.radii_value.1) tt) tt

pub returns : goal.returns
returns c =
    let x = part_num c.args.d.ry c.args.p.x c.args.d.cx c.requires.radii_value.1 c.requires.place_value.0 c.requires.centre_value.0 in
    let y = part_num c.args.d.rx c.args.p.y c.args.d.cy c.requires.radii_value.0 c.requires.place_value.1 c.requires.centre_value.1 in
    let n = sub_num (add_num x y tt) (mul_num (radius_square c.args.d.rx c.requires.radii_value.0) (radius_square c.args.d.ry c.requires.radii_value.1) tt) tt in
    record { value = n.reads; bounded = rw n.reads (omega (arith, n.bound)) }
