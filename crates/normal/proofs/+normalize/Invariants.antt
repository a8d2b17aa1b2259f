use Prim.Native.Nat.{◌≤◌}
use mathlib.Core.Bool.{true}
use mathlib.Core.List.{List}
use mathlib.Core.Path.{◌≡◌}
use lib.IntN.{ℤ}
use lib.ListN.{length}
use Rattle.rules.specs.Form.{Form}
use Rattle.paper.specs.Measures.{high}
use Rattle.normal.specs.Prefix.{head}
use Rattle.normal.specs.Held.{Ready}
use Rattle.normal.proofs.Reading.{tree_at}
use Rattle.normal.proofs.Whole.{Onward, urge}
use Rattle.normal.proofs.+normalize.Given as goal

abbrev pub decreases-normalize : goal.decreases-normalize
decreases-normalize l = high (tree_at l.w.now l.at) true

abbrev pub invariant-loop-start : goal.invariant-loop-start
invariant-loop-start l =
    (length l.w ≡ length l.initial.w) × ((a : List ℤ) (T : Form) (c : List ℤ) → Ready l.initial.w l.at l.used a T c → 16 ≤ head T → Onward l.w l.at l.n a T c true)

abbrev pub decreases-loop-start : goal.decreases-loop-start
decreases-loop-start l = urge (tree_at l.w l.at)
