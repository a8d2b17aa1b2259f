use Rattle.rules.specs.Inside.{bounds}
use Rattle.rules.specs.Table.{primitives_before}
use Rattle.reach.specs.Gathering.{Gathers, meeting}
use Rattle.reach.proofs.sharing_with.Given as goal

abbrev pub invariant-loop-row : goal.invariant-loop-row
invariant-loop-row l = Gathers (primitives_before l.table l.row) (meeting (bounds l.b)) l.g
