use Prim.Native.Nat.{◌-◌}
use native.Mathlib.Omega.{arith}
use mathlib.Core.Bool.{◌&&◌}
use lib.IntN.{pos, negsuc}
use lib.Signed.{le_z}
use mir.Syntax.{w32, w64}
use mir.Val.{to_z, of_z}
use mir.ValLaws.{to_z-of_z}
use Rattle.ground.proofs.Num.{Num, widens, wide, unsigned, add_fits, add_num}
use Rattle.frame.proofs.columns_right.Lts as lts
use Rattle.frame.proofs.columns_right.Reads as reads
use Rattle.frame.proofs.columns_right.Goals as goal

abbrev Start : Type 0
Start = lts.Start reads.Pre reads.Post

module _ (c : Start) where
  column : Num w64 (of_z w64 (to_z w32 (of_z w32 c.args.first))) c.args.first 2147483648
  column = wide c.ranges.first c.ranges.first.sfits tt

  more : Num w64 (c.args.samples - 1) (pos (c.args.samples - 1)) 65536
  more = unsigned (omega arith) tt

pub overflow_cast-last : goal.overflow_cast-last
overflow_cast-last c = widens c.ranges.first c.ranges.first.sfits tt

pub overflow_add-last : goal.overflow_add-last
overflow_add-last c = add_fits (column c) (more c) tt

pub returns : goal.returns
returns c =
    let first = to_z-of_z w32 c.args.first c.ranges.first in
    λ i. (le_z (negsuc 32767) (first i) && le_z (first i) (pos 32767)) && le_z ((add_num (column c) (more c) tt).reads i) (pos 32767)
