-- d is below 2 ^ 31 and each product below 2 ^ 36, so that what is left is exact in 64 bits.
use Prim.Native.Nat.{◌<◌, ◌≤◌, ◌*◌, ◌^◌}
use native.Mathlib.Omega.{arith}
use mathlib.Core.Bool.{true}
use mathlib.Core.Path.{◌≡◌, sym}
use borrow.Author.Rules.{rules}
use lib.IntN.{ℤ, nat_abs, ◌*ℤ◌}
use lib.Signed.{mag}
use mir.Syntax.{w32, w64}
use mir.Val.{SFits, to_z, of_z, hbits}
use Rattle.ground.proofs.Num.{Num, wide, mul_num, add_fits, add_num, sub_fits, sub_num}
use Rattle.ground.proofs.Signed.{read}
use Rattle.rules.specs.declared.Point.{Point}
use Rattle.rules.specs.declared.WedgeShape.{WedgeShape}
use Rattle.rules.specs.Boxes.{holds, everywhere}
use Rattle.rules.specs.Fields.{wedge_right}
use Rattle.solid.proofs.Numbers.{wide_bits, x_wide, a_wide}
use Rattle.span.proofs.plane_left.Goals as goal

-- a number that a call answered, of which its value and a bound are known
answered : {r z : ℤ} → mag r < 2 ^ hbits w64 → r ≡ z → nat_abs r ≤ 34359738368 → Num w64 (of_z w64 r) z 34359738368
answered h e b = record { reads = read w64 h e; bound = rw (sym e) b }

module _ (w : WedgeShape) (p : Point) (right : wedge_right w ≡ true) (range : holds everywhere p ≡ true) where
  ax : Num w64 (of_z w64 (to_z w64 (wide_bits w.a) *ℤ to_z w64 (wide_bits p.x))) (w.a *ℤ p.x) (32768 * 32768)
  ax = mul_num (a_wide w right) (x_wide p range) tt

pub overflow_add-result : goal.overflow_add-result
overflow_add-result c =
    let over = c.across.ensures in
    add_fits (ax c.args.w c.args.p c.requires.w_value c.requires.p_value) (answered c.across.type_inv over.value over.bounded) tt

pub overflow_sub-result : goal.overflow_sub-result
overflow_sub-result c =
    let over = c.across.ensures in
    let d : SFits w32 c.args.w.d = search rules in
    let sum = add_num (ax c.args.w c.args.p c.requires.w_value c.requires.p_value) (answered c.across.type_inv over.value over.bounded) tt in
    sub_fits (wide d d.sfits tt) sum tt

pub returns : goal.returns
returns c =
    let over = c.across.ensures in
    let d : SFits w32 c.args.w.d = search rules in
    let sum = add_num (ax c.args.w c.args.p c.requires.w_value c.requires.p_value) (answered c.across.type_inv over.value over.bounded) tt in
    let n = sub_num (wide d d.sfits tt) sum tt in
    record { value = n.reads; bounded = rw n.reads (omega (arith, n.bound)) }
