use mathlib.Core.Path.{◌≡◌}
use lib.Seq.{paste}
use Rattle.reading.proofs.copy.Given as goal

abbrev pub invariant-loop-i : goal.invariant-loop-i
invariant-loop-i l = l.table ≡ paste l.initial.table 0 l.words l.i
