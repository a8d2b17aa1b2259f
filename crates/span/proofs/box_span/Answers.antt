use mathlib.Core.Path.{sym, ◌∙◌}
use Rattle.span.proofs.Lines.{range_in, box_missed, box_met}
use Rattle.span.proofs.box_span.Goals as goal

pub returns-then-not-meets : goal.returns-then-not-meets
returns-then-not-meets c =
    box_missed c.args.b c.args.p c.args.line c.requires (sym c.meets.ensures ∙ c.if-not-meets.true) c.nothing.ensures

pub axis-requires : goal.axis-requires
axis-requires c = rw c.range.ensures (range_in c.args.line c.args.b c.requires)

pub returns : goal.returns
returns c =
    box_met c.args.b c.args.p c.args.line (sym c.meets.ensures ∙ c.if-not-meets.false) (rw c.range.ensures at c.axis.ensures.values)
