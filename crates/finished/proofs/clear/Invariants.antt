use mathlib.Core.Path.{◌≡◌}
use lib.Seq.{sets}
use Rattle.finished.specs.Rows.{zeros}
use Rattle.finished.proofs.clear.Given as goal

abbrev pub invariant-loop-i : goal.invariant-loop-i
invariant-loop-i l = l.w ≡ sets l.initial.w 0 (zeros l.i)
