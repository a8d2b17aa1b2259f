use Prim.Native.Nat.{ℕ}
use native.Mathlib.Omega.{arith}
use mathlib.Core.Path.{ap, ◌∙◌}
use lib.IntN.{pos, ◌-ℤ◌}
use mir.Syntax.{w64}
use mir.Val.{to_z, of_z}
use Rattle.ground.proofs.Num.{Num, cast_fits, cast_num, unsigned, sub_fits, sub_num}
use Rattle.laws.proofs.Axes.{greatest_small}
use Rattle.layout.proofs.lower.Lts as lts
use Rattle.layout.proofs.lower.Tie as tie
use Rattle.layout.proofs.lower.Reads as reads
use Rattle.layout.proofs.lower.Goals as goal

abbrev After-offset : Type 0
After-offset = lts.After-offset tie.the-claims reads.Pre reads.Post

-- the word and the offset in 64 bits, and their difference
module _ (c : After-offset) where
  word : Num w64 c.args.word (pos c.args.word) 1073741823
  word = unsigned (omega (arith, c.requires, greatest_small c.args.axis)) tt

  above : Num w64 c.offset-above.result (pos c.offset-above.result) 536870912
  above = unsigned (omega (arith, c.offset-above.ensures, greatest_small c.args.axis)) tt

  lowered_num : Num w64 (of_z w64 (to_z w64 c.args.word -ℤ to_z w64 c.offset-above.result)) (pos c.args.word -ℤ pos c.offset-above.result) 1610612735
  lowered_num = sub_num word above tt

pub overflow_cast-above : goal.overflow_cast-above
overflow_cast-above c = omega (arith, c.offset-above.ensures, greatest_small c.args.axis)

pub overflow_cast-result : goal.overflow_cast-result
overflow_cast-result c = omega (arith, c.requires, greatest_small c.args.axis)

pub overflow_sub-result : goal.overflow_sub-result
overflow_sub-result c = sub_fits (word c) (above c) tt

pub overflow_cast-result-2 : goal.overflow_cast-result-2
overflow_cast-result-2 c = cast_fits (lowered_num c) tt
