use Rattle.number.specs.Writing.{Put}
use Rattle.writing.specs.Writing.{lines_to}
use Rattle.writing.proofs.put_rows.Given as goal

abbrev pub invariant-loop-row : goal.invariant-loop-row
invariant-loop-row l = Put l.initial.text l.at (lines_to l.table l.row) l.text l.next
