use mathlib.Core.Path.{◌≡◌}
use Rattle.ground.specs.Lists.{rulings}
use Rattle.rules.specs.Verdict.{row_refusal}
use Rattle.table.proofs.checking.check_rows.Given as goal

abbrev pub invariant-loop-row : goal.invariant-loop-row
invariant-loop-row l = rulings (row_refusal l.table) 0 l.rows ≡ rulings (row_refusal l.table) l.row l.rows
