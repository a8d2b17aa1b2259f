use Rattle.laying.specs.Laying.{Laying}
use Rattle.laying.proofs.lay.Given as goal

abbrev pub invariant-loop-at : goal.invariant-loop-at
invariant-loop-at l = Laying l.table l.seen l.rows l.at
