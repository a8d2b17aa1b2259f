-- A distance is at most 2 ^ 16 and a radius 2 ^ 12, so that each product is below 2 ^ 57 and the difference exact in 64 bits.
use native.Mathlib.Omega.{arith}
use Rattle.ground.proofs.Num.{mul_fits, mul_num, sub_fits, sub_num}
use Rattle.laws.proofs.Ranges.{x_in, cx_in, rx_in, ry_in}
use Rattle.solid.proofs.Numbers.{apart_wide, radius_square}
use Rattle.span.proofs.ellipse_left.Goals as goal

pub overflow_mul-result : goal.overflow_mul-result
overflow_mul-result c = mul_fits (radius_square c.args.d.rx (rx_in c.args.d c.requires.d_value)) (radius_square c.args.d.ry (ry_in c.args.d c.requires.d_value)) tt

pub overflow_mul-result-2 : goal.overflow_mul-result-2
overflow_mul-result-2 c = let x = apart_wide c.args.p.x c.args.d.cx (x_in c.args.p c.requires.p_value) (cx_in c.args.d c.requires.d_value) in mul_fits x x tt

pub overflow_mul-result-3 : goal.overflow_mul-result-3
overflow_mul-result-3 c =
    let x = apart_wide c.args.p.x c.args.d.cx (x_in c.args.p c.requires.p_value) (cx_in c.args.d c.requires.d_value) in
    mul_fits (radius_square c.args.d.ry (ry_in c.args.d c.requires.d_value)) (mul_num x x tt) tt

pub overflow_sub-result : goal.overflow_sub-result
overflow_sub-result c =
    let x = apart_wide c.args.p.x c.args.d.cx (x_in c.args.p c.requires.p_value) (cx_in c.args.d c.requires.d_value) in
    let u = radius_square c.args.d.rx (rx_in c.args.d c.requires.d_value) in
    let v = radius_square c.args.d.ry (ry_in c.args.d c.requires.d_value) in
    sub_fits (mul_num u v tt) (mul_num v (mul_num x x tt) tt) tt

pub returns : goal.returns
returns c =
    let x = apart_wide c.args.p.x c.args.d.cx (x_in c.args.p c.requires.p_value) (cx_in c.args.d c.requires.d_value) in
    let u = radius_square c.args.d.rx (rx_in c.args.d c.requires.d_value) in
    let v = radius_square c.args.d.ry (ry_in c.args.d c.requires.d_value) in
    let n = sub_num (mul_num u v tt) (mul_num v (mul_num x x tt) tt) tt in
    record { value = n.reads; bounded = rw n.reads (omega (arith, n.bound)) }
