use Rattle.rules.specs.Table.{primitives_before}
use Rattle.holding.specs.Holding.{Holding}
use Rattle.holding.proofs.hold_at.Given as goal

abbrev pub invariant-loop-row : goal.invariant-loop-row
invariant-loop-row l = Holding (primitives_before l.table l.row) l.p l.h
