use mathlib.Core.Path.{◌≡◌}
use lib.ListN.{length}
use Rattle.rules.specs.Table.{primitives_before}
use Rattle.choice.specs.Steps.{NumberedTo}
use Rattle.choice.proofs.number_rows.Given as goal

abbrev pub invariant-loop-row : goal.invariant-loop-row
invariant-loop-row l = (l.n ≡ length (primitives_before l.table l.row)) × NumberedTo l.table l.bits l.row
