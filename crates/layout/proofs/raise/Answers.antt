use Prim.Native.Nat.{ℕ, ◌^◌, ◌<◌}
use native.Mathlib.Omega.{arith}
use mathlib.Core.Path.{◌≡◌, sym, ap, subst, ◌∙◌}
use lib.Dec.{T}
use lib.IntN.{ℤ, pos, nat_abs, ◌+ℤ◌}
use lib.Signed.{non_neg}
use mir.Syntax.{w32, w64}
use mir.Val.{to_z, of_z}
use Rattle.ground.proofs.Num.{Num, widens, wide, unsigned, add_fits, add_num}
use Rattle.rules.specs.ListWords.{raised}
use Rattle.laws.proofs.Axes.{greatest_small, raised_adds, raised_most}
use Rattle.layout.proofs.raise.Lts as lts
use Rattle.layout.proofs.raise.Tie as tie
use Rattle.layout.proofs.raise.Reads as reads
use Rattle.layout.proofs.raise.Goals as goal

abbrev Start : Type 0
Start = lts.Start tie.the-claims reads.Pre reads.Post

abbrev After-offset : Type 0
After-offset = lts.After-offset tie.the-claims reads.Pre reads.Post

-- the bound and the offset in 64 bits, and their sum
bound : (s : Start) → Num w64 (of_z w64 (to_z w32 (of_z w32 s.args.bound))) s.args.bound 2147483648
bound s = wide s.ranges.bound s.ranges.bound.sfits tt

module _ (c : After-offset) where
  above : Num w64 c.offset-above.result (pos c.offset-above.result) 2147483648
  above = unsigned (omega (arith, c.offset-above.ensures, greatest_small c.args.axis)) tt

  sum : Num w64 (of_z w64 (to_z w64 (of_z w64 (to_z w32 (of_z w32 c.args.bound))) +ℤ to_z w64 c.offset-above.result))
      (c.args.bound +ℤ pos c.offset-above.result) 4294967296
  sum = add_num (bound c.before) above tt

  -- which is the raised bound
  is_raised : to_z w64 (of_z w64 (to_z w64 (of_z w64 (to_z w32 (of_z w32 c.args.bound))) +ℤ to_z w64 c.offset-above.result))
      ≡ pos (raised c.args.axis c.args.bound)
  is_raised =
      let s = c.before in
      sum.reads ∙ ap (λ (n : ℕ). s.args.bound +ℤ pos n) c.offset-above.ensures ∙ sym (raised_adds s.args.axis s.args.bound s.requires)

pub overflow_cast-above : goal.overflow_cast-above
overflow_cast-above c = omega (arith, c.offset-above.ensures, greatest_small c.args.axis)

pub overflow_cast-result : goal.overflow_cast-result
overflow_cast-result c = widens c.ranges.bound c.ranges.bound.sfits tt

pub overflow_add-result : goal.overflow_add-result
overflow_add-result c = add_fits (bound c.before) (above c) tt

pub overflow_cast-result-2 : goal.overflow_cast-result-2
overflow_cast-result-2 c =
    let s = c.before in (
      subst (λ (z : ℤ). T (non_neg z)) (sym (is_raised c)) tt,
      record { fits = subst (λ (z : ℤ). nat_abs z < 2 ^ 64) (sym (is_raised c)) (omega (arith, raised_most s.args.axis s.args.bound s.requires, greatest_small s.args.axis)) },
    )

pub returns : goal.returns
returns c = ap nat_abs (is_raised c)
