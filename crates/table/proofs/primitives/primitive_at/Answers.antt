use mathlib.Core.Option.{some}
use mathlib.Core.Path.{sym, ap, ◌∙◌}
use Rattle.laws.proofs.Trees.{read_right}
use Rattle.table.proofs.primitives.primitive_at.Goals as goal

pub returns-in-Solid : goal.returns-in-Solid
returns-in-Solid c =
    (sym c.read_row.ensures ∙ ap some c.in-Solid.is, read_right c.requires.sound c.requires.row_bound c.read_row.ensures c.in-Solid.is)
