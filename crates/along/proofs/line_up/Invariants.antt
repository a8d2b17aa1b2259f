use Rattle.rules.specs.Table.{primitives_before}
use Rattle.span.specs.Along.{point_at}
use Rattle.along.specs.Lines.{Lining}
use Rattle.along.proofs.line_up.Given as goal

abbrev pub invariant-loop-row : goal.invariant-loop-row
invariant-loop-row l = Lining (point_at l.line l.p) (primitives_before l.table l.row) l.from l.to l.entries l.met
