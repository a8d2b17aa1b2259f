use mathlib.Core.Path.{◌≡◌}
use lib.ListN.{drop}
use lib.Seq.{paste}
use Rattle.moves.proofs.copy.Given as goal

abbrev pub invariant-loop-i : goal.invariant-loop-i
invariant-loop-i l = l.w ≡ paste l.initial.w l.to (drop l.from l.initial.w) l.i
