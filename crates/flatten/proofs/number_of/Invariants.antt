use mathlib.Core.Path.{◌≡◌}
use lib.ListN.{length}
use Rattle.rules.specs.Table.{primitives_before}
use Rattle.flatten.proofs.number_of.Given as goal

abbrev pub invariant-loop-r : goal.invariant-loop-r
invariant-loop-r l = l.n ≡ length (primitives_before l.table l.r)
