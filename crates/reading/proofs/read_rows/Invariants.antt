use Rattle.reading.specs.Reading.{Begun}
use Rattle.reading.proofs.read_rows.Given as goal

abbrev pub invariant-loop-row : goal.invariant-loop-row
invariant-loop-row l = Begun l.text l.rows l.at l.row l.table
