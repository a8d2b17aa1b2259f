use mathlib.Core.Path.{◌≡◌}
use lib.ListN.{length}
use Rattle.writing.specs.Writing.{lines_to}
use Rattle.writing.proofs.rows_length.Given as goal

abbrev pub invariant-loop-row : goal.invariant-loop-row
invariant-loop-row l = l.size ≡ length (lines_to l.table l.row)
