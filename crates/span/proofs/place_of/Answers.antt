-- A value and the offset are what it is raised to, which is not below 0.
use Prim.Native.Nat.{◌^◌, ◌<◌}
use native.Mathlib.Nat.{le_refl}
use native.Mathlib.Omega.{arith}
use mathlib.Core.Bool.{true}
use mathlib.Core.Path.{◌≡◌, sym, ap, subst, ◌∙◌}
use lib.Dec.{T}
use lib.IntN.{ℤ, pos, nat_abs, ◌+ℤ◌}
use lib.Signed.{non_neg}
use mir.Syntax.{w64}
use mir.Val.{to_z, of_z}
use Rattle.ground.proofs.Num.{Num, cast_num, unsigned, add_fits, add_num}
use Rattle.rules.specs.declared.Axis.TheVariants.{Frame}
use Rattle.rules.specs.ListWords.{raised}
use Rattle.rules.specs.Ranges.{within, frames}
use Rattle.solid.proofs.Numbers.{Wide, wide_bits, even}
use Rattle.span.specs.Along.{places}
use Rattle.span.proofs.Order.{place_below, value_raised}
use Rattle.span.proofs.place_of.Goals as goal

-- the coordinate and the offset in 64 bits, and their sum
offset : Num w64 1048576 (pos 1048576) 1048576
offset = unsigned (le_refl 1048576) tt

module _ (v : ℤ) (h : within frames v ≡ true) where
  coordinate : Wide v 1048576
  coordinate = cast_num (even 1048575 h tt) tt

  is_raised : to_z w64 (of_z w64 (to_z w64 (wide_bits v) +ℤ to_z w64 1048576)) ≡ pos (raised Frame v)
  is_raised = (add_num coordinate offset tt).reads ∙ sym (value_raised v h)

pub overflow_add-result : goal.overflow_add-result
overflow_add-result c = add_fits (coordinate c.args.coordinate c.requires) offset tt

pub overflow_cast-result-2 : goal.overflow_cast-result-2
overflow_cast-result-2 c =
    let is = sym (is_raised c.args.coordinate c.requires) in
    (subst (λ (z : ℤ). T (non_neg z)) is tt, record { fits = subst (λ (z : ℤ). nat_abs z < 2 ^ 64) is (omega (arith, place_below c.args.coordinate c.requires)) })

pub returns : goal.returns
returns c =
    let is = is_raised c.args.coordinate c.requires in
    record { value = ap nat_abs is; bounded = subst (λ (z : ℤ). nat_abs z < places) (sym is) (place_below c.args.coordinate c.requires) }
