use Rattle.number.proofs.Writing.{Copying}
use Rattle.number.proofs.put_bytes.Given as goal

abbrev pub invariant-loop-i : goal.invariant-loop-i
invariant-loop-i l = Copying l.initial.text l.at l.bytes l.text l.i
