-- Each product is below 2 ^ 36 and d below 2 ^ 31, so that the sum is exact in 64 bits.
use Prim.Native.Nat.{ℕ, ◌*◌}
use mathlib.Core.Bool.{true}
use mathlib.Core.Path.{◌≡◌}
use borrow.Author.Rules.{rules}
use lib.IntN.{ℤ, ◌*ℤ◌}
use mir.Syntax.{w32, w64}
use mir.Val.{SFits, to_z, of_z}
use Rattle.ground.proofs.Num.{Num, wide, mul_fits, mul_num, add_fits, add_num, le_num}
use Rattle.rules.specs.declared.Point.{Point}
use Rattle.rules.specs.declared.WedgeShape.{WedgeShape}
use Rattle.rules.specs.Boxes.{holds, everywhere}
use Rattle.rules.specs.Fields.{wedge_right}
use Rattle.solid.proofs.Numbers.{x_wide, y_wide, z_wide, a_wide, b_wide, c_wide}
use Rattle.solid.proofs.half_space.Goals as goal

-- two numbers of 32 bits, multiplied in 64
abbrev product : ℤ → ℤ → ℕ
product s v = of_z w64 (to_z w64 (of_z w64 (to_z w32 (of_z w32 s))) *ℤ to_z w64 (of_z w64 (to_z w32 (of_z w32 v))))

module _ (w : WedgeShape) (p : Point) (right : wedge_right w ≡ true) (range : holds everywhere p ≡ true) where
  ax : Num w64 (product w.a p.x) (w.a *ℤ p.x) (32768 * 32768)
  ax = mul_num (a_wide w right) (x_wide p range) tt

  by : Num w64 (product w.b p.y) (w.b *ℤ p.y) (32768 * 32768)
  by = mul_num (b_wide w right) (y_wide p range) tt

  cz : Num w64 (product w.c p.z) (w.c *ℤ p.z) (32768 * 1048576)
  cz = mul_num (c_wide w right) (z_wide p range) tt

pub overflow_mul-result : goal.overflow_mul-result
overflow_mul-result c = mul_fits (a_wide c.args.w c.requires.w_value) (x_wide c.args.p c.requires.p_value) tt

pub overflow_mul-result-2 : goal.overflow_mul-result-2
overflow_mul-result-2 c = mul_fits (b_wide c.args.w c.requires.w_value) (y_wide c.args.p c.requires.p_value) tt

pub overflow_mul-result-3 : goal.overflow_mul-result-3
overflow_mul-result-3 c = mul_fits (c_wide c.args.w c.requires.w_value) (z_wide c.args.p c.requires.p_value) tt

pub overflow_add-result : goal.overflow_add-result
overflow_add-result c =
    let right = c.requires.w_value in
    let range = c.requires.p_value in
    add_fits (ax c.args.w c.args.p right range) (by c.args.w c.args.p right range) tt

pub overflow_add-result-2 : goal.overflow_add-result-2
overflow_add-result-2 c =
    let right = c.requires.w_value in
    let range = c.requires.p_value in
    add_fits (add_num (ax c.args.w c.args.p right range) (by c.args.w c.args.p right range) tt) (cz c.args.w c.args.p right range) tt

pub returns : goal.returns
returns c =
    let right = c.requires.w_value in
    let range = c.requires.p_value in
    let d : SFits w32 c.args.w.d = search rules in
    le_num (add_num (add_num (ax c.args.w c.args.p right range) (by c.args.w c.args.p right range) tt) (cz c.args.w c.args.p right range) tt) (wide d d.sfits tt)
