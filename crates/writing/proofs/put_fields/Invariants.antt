use Rattle.number.specs.Writing.{Put}
use Rattle.writing.specs.Writing.{fields_to}
use Rattle.writing.proofs.put_fields.Given as goal

abbrev pub invariant-loop-k : goal.invariant-loop-k
invariant-loop-k l = Put l.initial.text l.at (fields_to l.table l.row l.k) l.text l.next
