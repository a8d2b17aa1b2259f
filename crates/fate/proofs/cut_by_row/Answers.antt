use mathlib.Core.Path.{ap, ◌∙◌}
use Rattle.rules.specs.Boxes.{Box, common_box}
use Rattle.rules.specs.Inside.{bounds}
use Rattle.fate.proofs.Cuts.{passes, not_chosen, chosen}
use Rattle.fate.proofs.cut_by_row.Goals as goal

pub returns-in-Some : goal.returns-in-Some
returns-in-Some c =
    let bit = c.requires.numbered.bit c.args.row c.requires.row_bound _ c.in-Some.ensures.0 in
    let cut = c.cut_box.ensures ∙ ap (λ (a : Box). common_box a (bounds c.args.b)) c.box_of.ensures in
    chosen c.args.table.now c.args.row c.args.c (bounds c.args.b) c.in-Some.ensures.0 bit c.if-bits-row-ne0.true cut

pub returns-in_default : goal.returns-in_default
returns-in_default c =
    let bit = c.requires.numbered.bit c.args.row c.requires.row_bound _ c.in-Some.ensures.0 in
    not_chosen c.args.table.now c.args.row c.args.c (bounds c.args.b) c.in-Some.ensures.0 bit c.if-bits-row-ne0.false

pub returns-in_default-2 : goal.returns-in_default-2
returns-in_default-2 c = passes c.args.table.now c.args.row c.args.c (bounds c.args.b) c.in_default.ensures
