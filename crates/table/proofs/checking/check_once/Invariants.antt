use mathlib.Core.Path.{◌≡◌}
use Rattle.ground.specs.Lists.{rulings}
use Rattle.table.specs.Reading.{once_rule}
use Rattle.table.proofs.checking.check_once.Given as goal

abbrev pub invariant-loop-row : goal.invariant-loop-row
invariant-loop-row l = rulings (once_rule l.times) 0 l.last ≡ rulings (once_rule l.times) l.row l.last
