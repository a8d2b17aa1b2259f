use Prim.Native.Nat.{◌+◌, ◌^◌, ◌<◌}
use native.Mathlib.Omega.{arith}
use mathlib.Core.Path.{◌≡◌, sym, ap, subst, ◌∙◌}
use borrow.Author.Tests.{ltb-true}
use lib.Dec.{T}
use lib.IntN.{ℤ, pos, nat_abs, ◌-ℤ◌}
use lib.Signed.{lt_z, non_neg}
use mir.Syntax.{w32, w64}
use mir.Val.{to_z, of_z}
use mir.ValLaws.{to_z-of_z}
use Rattle.ground.proofs.Signed.{read}
use Rattle.rules.specs.Waterfall.{most_side}
use Rattle.laws.proofs.SpanNumbers.{rises_by}
use Rattle.waterfall.proofs.size.Lts as lts
use Rattle.waterfall.proofs.size.Tie as tie
use Rattle.waterfall.proofs.size.Reads as reads
use Rattle.waterfall.proofs.size.Goals as goal

abbrev After-above : Type 0
After-above = lts.After-above tie.the-claims reads.Pre reads.Post tie.handed_clauses

-- how far hi is above lo, as a natural number
module _ (c : After-above) where
  abbrev lo : ℤ
  lo = c.args.lo

  abbrev hi : ℤ
  hi = c.args.hi

  is : to_z w64 (of_z w64 c.above.result) ≡ pos (nat_abs (hi -ℤ lo))
  is =
      read w64 c.above.type_inv c.above.ensures
      ∙ (λ i. to_z-of_z w32 hi c.ranges.hi i -ℤ to_z-of_z w32 lo c.ranges.lo i)
      ∙ rises_by lo hi c.requires.rises

  few : nat_abs (hi -ℤ lo) < most_side
  few = ltb-true (nat_abs (hi -ℤ lo)) most_side (ap (λ (z : ℤ). lt_z z (pos most_side)) (sym (rises_by lo hi c.requires.rises)) ∙ c.requires.short)

pub overflow_cast-result : goal.overflow_cast-result
overflow_cast-result c = (subst (λ (z : ℤ). T (non_neg z)) (sym (is c)) tt, record { fits = subst (λ (z : ℤ). nat_abs z < 2 ^ 64) (sym (is c)) (omega (arith, few c)) })

pub overflow_add-result : goal.overflow_add-result
overflow_add-result c = record { fits = subst (λ (z : ℤ). nat_abs z + 1 < 2 ^ 64) (sym (is c)) (omega (arith, few c)) }

pub returns : goal.returns
returns c = record { value = omega (arith, ap nat_abs (is c)); bounded = omega (arith, ap nat_abs (is c), few c) }
