use Prim.Native.Nat.{◌-◌}
use mathlib.Core.List.{◌∷◌}
use Rattle.walk.specs.Tracks.{Goes}
use Rattle.walk.proofs.steps.run.Given as goal

abbrev pub invariant-loop-aside : goal.invariant-loop-aside
invariant-loop-aside l = Goes l.plan.rows.now l.plan.end (l.initial.at ∷ l.initial.aside) (l.at ∷ l.aside)

abbrev pub decreases-loop-aside : goal.decreases-loop-aside
decreases-loop-aside l = l.plan.end - l.at.row
