use Rattle.choice.proofs.Steps.{nothing_remembered}
use Rattle.telling.proofs.tell_ways.Goals as goal

pub ways-ways-requires-clause-remembered : goal.ways-ways-requires-clause-remembered
ways-ways-requires-clause-remembered g c = nothing_remembered c.args.table.now
