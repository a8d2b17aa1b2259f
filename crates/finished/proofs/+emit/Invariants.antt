use Rattle.rules.specs.TreeRows.{rows_in}
use Rattle.normal.proofs.Reading.{tree_at}
use Rattle.finished.proofs.+emit.Given as goal

abbrev pub decreases-emit : goal.decreases-emit
decreases-emit l = rows_in (tree_at l.w.now l.at)
