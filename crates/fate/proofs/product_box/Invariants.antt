use mathlib.Core.Path.{◌≡◌}
use Rattle.rules.specs.Inside.{bounds}
use Rattle.rules.specs.Table.{primitives_before}
use Rattle.fate.specs.Fates.{cut_by}
use Rattle.fate.proofs.product_box.Given as goal

-- what the rows before this one make of the box is what those before the first one make of the window
abbrev pub invariant-loop-row : goal.invariant-loop-row
invariant-loop-row l =
    cut_by l.c (primitives_before l.table l.row) (bounds l.b) ≡ cut_by l.c (primitives_before l.table l.initial.row) (bounds l.initial.b)
