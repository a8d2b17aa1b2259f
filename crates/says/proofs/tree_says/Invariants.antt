use Rattle.says.specs.Saids.{Said}
use Rattle.says.proofs.tree_says.Given as goal

abbrev pub invariant-loop-row : goal.invariant-loop-row
invariant-loop-row l = Said l.table l.set l.row l.left l.answers
