use mathlib.Core.Path.{ap, ◌∙◌}
use Rattle.rules.specs.Fields.{box_right, wedge_right, drum_right, triangle_right}
use Rattle.table.proofs.fields.fields_right.Goals as goal

pub returns-in-Box : goal.returns-in-Box
returns-in-Box c = rw c.in-Box.is (c.box_right.ensures ∙ ap box_right c.box_at.ensures)

pub returns-in-Wedge : goal.returns-in-Wedge
returns-in-Wedge c = rw c.in-Wedge.is (c.wedge_right.ensures ∙ ap wedge_right c.wedge_at.ensures)

pub returns-in-Drum : goal.returns-in-Drum
returns-in-Drum c = rw c.in-Drum.is (c.drum_right.ensures ∙ ap drum_right c.drum_at.ensures)

pub returns-in-Triangle : goal.returns-in-Triangle
returns-in-Triangle c = rw c.in-Triangle.is (c.triangle_right.ensures ∙ ap triangle_right c.triangle_at.ensures)
