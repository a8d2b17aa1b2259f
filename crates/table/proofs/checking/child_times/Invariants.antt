use mathlib.Core.Path.{◌≡◌}
use Rattle.table.specs.Reading.{times_to}
use Rattle.table.proofs.checking.child_times.Given as goal

abbrev pub invariant-loop-parent : goal.invariant-loop-parent
invariant-loop-parent l = l.times ≡ times_to l.table l.parent
