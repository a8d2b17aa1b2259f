use Rattle.filling.proofs.Filling.{Filling}
use Rattle.filling.proofs.fill.Given as goal

abbrev pub invariant-loop-row : goal.invariant-loop-row
invariant-loop-row l = Filling l.initial.rows l.rows l.holes l.end l.row
