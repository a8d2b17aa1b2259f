use Rattle.number.proofs.Writing.{Spelling}
use Rattle.number.proofs.put_decimal.Given as goal

abbrev pub invariant-loop-power : goal.invariant-loop-power
invariant-loop-power l = Spelling l.n l.initial.text l.at l.text l.i l.power l.left

abbrev pub decreases-loop-power : goal.decreases-loop-power
decreases-loop-power l = l.power
