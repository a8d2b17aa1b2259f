use Prim.Native.Nat.{ℕ}
use lib.IntN.{ℤ}
use mir.Syntax.{w32, w64}
use mir.Val.{to_z, of_z}
use Rattle.ground.proofs.Num.{Num, widens, wide, sub_fits, sub_num}
use Rattle.waterfall.proofs.above.Lts as lts
use Rattle.waterfall.proofs.above.Reads as reads
use Rattle.waterfall.proofs.above.Goals as goal

abbrev Start : Type 0
Start = lts.Start reads.Pre reads.Post

abbrev bits : ℤ → ℕ
bits v = of_z w64 (to_z w32 (of_z w32 v))

module _ (s : Start) where
  lo : Num w64 (bits s.args.lo) s.args.lo 2147483648
  lo = wide s.ranges.lo s.ranges.lo.sfits tt

  hi : Num w64 (bits s.args.hi) s.args.hi 2147483648
  hi = wide s.ranges.hi s.ranges.hi.sfits tt

pub overflow_cast-result : goal.overflow_cast-result
overflow_cast-result c = widens c.ranges.hi c.ranges.hi.sfits tt

pub overflow_cast-result-2 : goal.overflow_cast-result-2
overflow_cast-result-2 c = widens c.ranges.lo c.ranges.lo.sfits tt

pub overflow_sub-result : goal.overflow_sub-result
overflow_sub-result c = sub_fits (hi c) (lo c) tt

pub returns : goal.returns
returns c = (sub_num (hi c) (lo c) tt).reads
