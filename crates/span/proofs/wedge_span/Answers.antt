-- What the box lets through along the line, and what the plane lets through of it.
use mathlib.Core.Path.{sym, ◌∙◌}
use mir.Syntax.{w32, w64}
use Rattle.ground.proofs.Signed.{read}
use Rattle.laws.proofs.Ranges.{bounds_right}
use Rattle.span.proofs.Along.{both_along}
use Rattle.span.proofs.Lines.{range_in, slope_size, wedge_missed, wedge_met}
use Rattle.span.proofs.wedge_span.Goals as goal

pub returns-then-not-meets : goal.returns-then-not-meets
returns-then-not-meets c =
    wedge_missed c.args.w c.args.p c.args.line c.requires.w_value (sym c.meets.ensures ∙ c.if-not-meets.true) c.nothing.ensures

pub axis-requires : goal.axis-requires
axis-requires c = rw c.range.ensures (range_in c.args.line c.args.w.bounds (bounds_right c.args.w c.requires.w_value))

pub half_values-requires : goal.half_values-requires
half_values-requires c =
    let slope = read w32 c.slope.type_inv c.slope.ensures in
    let left = read w64 c.plane_left.type_inv c.plane_left.ensures.value in
    (rw slope (slope_size c.args.line c.args.w c.requires.w_value), rw (left ∙ sym c.plane_left.ensures.value) c.plane_left.ensures.bounded)

pub returns : goal.returns
returns c =
    let slope = read w32 c.slope.type_inv c.slope.ensures in
    let left = read w64 c.plane_left.type_inv c.plane_left.ensures.value in
    let through = both_along (rw c.range.ensures at c.axis.ensures.values) (rw (slope, left) at c.half_values.ensures) in
    wedge_met c.args.w c.args.p c.args.line (sym c.meets.ensures ∙ c.if-not-meets.false) (rw c.shared.ensures through)
