use mathlib.Core.Path.{◌≡◌}
use lib.ListN.{length}
use Rattle.writing.specs.Writing.{fields_to}
use Rattle.writing.proofs.fields_length.Given as goal

abbrev pub invariant-loop-k : goal.invariant-loop-k
invariant-loop-k l = l.size ≡ length (fields_to l.table l.row l.k)
