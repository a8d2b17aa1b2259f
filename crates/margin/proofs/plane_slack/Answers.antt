-- d is below 2 ^ 31 and each product below 2 ^ 36, so that the sum is exact in 64 bits.
use Prim.Native.Nat.{ℕ, ◌+◌, ◌*◌}
use native.Mathlib.Nat.{le_refl}
use native.Mathlib.Omega.{arith}
use mathlib.Core.Bool.{true}
use mathlib.Core.Path.{◌≡◌, ap, ap₂, ◌∙◌}
use borrow.Author.Rules.{rules}
use lib.IntN.{ℤ, nat_abs, ◌+ℤ◌, ◌-ℤ◌, ◌*ℤ◌}
use mir.Syntax.{w32, w64}
use mir.Val.{SFits, to_z, of_z}
use Rattle.ground.proofs.Num.{Num, wide, mul_num, add_fits, add_num, sub_fits, sub_num}
use Rattle.rules.specs.declared.Point.{Point}
use Rattle.rules.specs.declared.WedgeShape.{WedgeShape}
use Rattle.rules.specs.Boxes.{holds, everywhere}
use Rattle.rules.specs.Fields.{wedge_right}
use Rattle.solid.proofs.Numbers.{wide_bits, x_wide, y_wide, z_wide, a_num, b_num, a_wide, b_wide, c_wide}
use Rattle.margin.specs.Edges.{past_plane}
use Rattle.margin.proofs.Signs.{slack_as}
use Rattle.margin.proofs.plane_slack.Goals as goal

abbrev product : ℤ → ℤ → ℕ
product u v = of_z w64 (to_z w64 (wide_bits u) *ℤ to_z w64 (wide_bits v))

module _ (w : WedgeShape) (p : Point) (right : wedge_right w ≡ true) (range : holds everywhere p ≡ true) where
  ax : Num w64 (product w.a p.x) (w.a *ℤ p.x) (32768 * 32768)
  ax = mul_num (a_wide w right) (x_wide p range) tt

  by : Num w64 (product w.b p.y) (w.b *ℤ p.y) (32768 * 32768)
  by = mul_num (b_wide w right) (y_wide p range) tt

  cz : Num w64 (product w.c p.z) (w.c *ℤ p.z) (32768 * 1048576)
  cz = mul_num (c_wide w right) (z_wide p range) tt

  module _ (d : SFits w32 w.d) where
    limit : Num w64 (of_z w64 (to_z w64 (wide_bits w.d) -ℤ to_z w64 (product w.c p.z))) (w.d -ℤ w.c *ℤ p.z) 36507222016
    limit = sub_num (wide d d.sfits tt) cz tt

    past : Num w64 (of_z w64 (to_z w64 (of_z w64 (to_z w64 (product w.a p.x) +ℤ to_z w64 (product w.b p.y))) -ℤ to_z w64 (of_z w64 (to_z w64 (wide_bits w.d) -ℤ to_z w64 (product w.c p.z))))) (past_plane w.a w.b w.c w.d p.x p.y p.z) 38654705664
    past = sub_num (add_num ax by tt) limit tt

pub overflow_sub-limit : goal.overflow_sub-limit
overflow_sub-limit c =
    let d : SFits w32 c.args.w.d = search rules in
    sub_fits (wide d d.sfits tt) (cz c.args.w c.args.p c.requires.w_value c.requires.p_value) tt

pub overflow_add-past : goal.overflow_add-past
overflow_add-past c =
    let x = ax c.args.w c.args.p c.requires.w_value c.requires.p_value in
    add_fits x (by c.args.w c.args.p c.requires.w_value c.requires.p_value) tt

pub overflow_sub-past : goal.overflow_sub-past
overflow_sub-past c =
    let x = ax c.args.w c.args.p c.requires.w_value c.requires.p_value in
    let y = by c.args.w c.args.p c.requires.w_value c.requires.p_value in
    sub_fits (add_num x y tt) (limit c.args.w c.args.p c.requires.w_value c.requires.p_value (search rules)) tt

pub overflow_add-weight : goal.overflow_add-weight
overflow_add-weight c =
    let a = a_num c.args.w c.requires.w_value in
    let b = b_num c.args.w c.requires.w_value in
    record { fits = omega (arith, c.unsigned_abs.ensures.value ∙ ap nat_abs a.reads, a.bound, c.unsigned_abs-2.ensures.value ∙ ap nat_abs b.reads, b.bound) }

pub returns-clause-slack : goal.returns-clause-slack
returns-clause-slack c =
    let a = c.unsigned_abs.ensures.value ∙ ap nat_abs (a_num c.args.w c.requires.w_value).reads in
    let b = c.unsigned_abs-2.ensures.value ∙ ap nat_abs (b_num c.args.w c.requires.w_value).reads in
    let n = past c.args.w c.args.p c.requires.w_value c.requires.p_value (search rules) in
    slack_as (le_refl c.slack.result) n.reads (ap₂ ◌+◌ a b) c.slack.ensures.slack
