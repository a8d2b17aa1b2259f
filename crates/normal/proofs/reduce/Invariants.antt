use mathlib.Core.Bool.{true}
use mathlib.Core.Path.{◌≡◌}
use mathlib.Core.List.{List}
use lib.IntN.{ℤ}
use lib.ListN.{length}
use Rattle.rules.specs.Form.{Form}
use Rattle.paper.specs.Measures.{weight}
use Rattle.normal.specs.Held.{Ready}
use Rattle.normal.proofs.Reading.{tree_at}
use Rattle.normal.proofs.Turns.{Going}
use Rattle.normal.proofs.reduce.Given as goal

abbrev pub invariant-loop-m : goal.invariant-loop-m
invariant-loop-m l = (length l.w ≡ length l.initial.w) × ((a : List ℤ) (T : Form) (c : List ℤ) → Ready l.initial.w l.at l.used a T c → Going l.w l.at l.n a T c)

abbrev pub decreases-loop-m : goal.decreases-loop-m
decreases-loop-m l = weight (tree_at l.w l.at) true
