-- By the signs of s and e; each is read as it was passed.
use mathlib.Core.Path.{ap, ◌∙◌}
use lib.IntN.{nat_abs}
use mir.Syntax.{w64}
use mir.ValLaws.{to_z-of_z}
use Rattle.span.proofs.Along.{rises_none, rises_to, falls_all, falls_from, flat_none, some_size, some_size_below}
use Rattle.span.proofs.half.Goals as goal

pub returns-then-e-lt0 : goal.returns-then-e-lt0
returns-then-e-lt0 c =
    let s = to_z-of_z w64 c.args.s c.ranges.s in
    let e = to_z-of_z w64 c.args.e c.ranges.e in
    rises_none c.args.s c.args.e (rw s at c.if-s-gt0.true) (rw e at c.if-e-lt0.true) c.nothing.ensures

pub nonzero_div-result : goal.nonzero_div-result
nonzero_div-result c =
    let s = to_z-of_z w64 c.args.s c.ranges.s in
    rw (c.unsigned_abs-then-s-gt0.ensures.value ∙ ap nat_abs s) (some_size c.args.s (rw s at c.if-s-gt0.true))

pub returns-then-s-gt0 : goal.returns-then-s-gt0
returns-then-s-gt0 c =
    let s = to_z-of_z w64 c.args.s c.ranges.s in
    let e = to_z-of_z w64 c.args.e c.ranges.e in
    rw (c.unsigned_abs-then-s-gt0.ensures.value ∙ ap nat_abs s, c.unsigned_abs.ensures.value ∙ ap nat_abs e)
    (rises_to c.args.s c.args.e (rw s at c.if-s-gt0.true) (rw e at c.if-e-lt0.false))

pub returns-then-e-ge0 : goal.returns-then-e-ge0
returns-then-e-ge0 c =
    let s = to_z-of_z w64 c.args.s c.ranges.s in
    let e = to_z-of_z w64 c.args.e c.ranges.e in
    falls_all c.args.s c.args.e (rw s at c.if-s-gt0.false) (rw e at c.if-e-ge0.true) c.everything.ensures

pub div_ceil-requires : goal.div_ceil-requires
div_ceil-requires c =
    let s = to_z-of_z w64 c.args.s c.ranges.s in
    rw (c.unsigned_abs-then-s-lt0-2.ensures.value ∙ ap nat_abs s) (some_size_below c.args.s (rw s at c.if-s-lt0.true))

pub returns-then-s-lt0 : goal.returns-then-s-lt0
returns-then-s-lt0 c =
    let s = to_z-of_z w64 c.args.s c.ranges.s in
    let e = to_z-of_z w64 c.args.e c.ranges.e in
    rw (c.div_ceil.ensures, c.unsigned_abs-then-s-lt0-2.ensures.value ∙ ap nat_abs s, c.unsigned_abs-then-s-lt0.ensures.value ∙ ap nat_abs e)
    (falls_from c.args.s c.args.e (rw s at c.if-s-lt0.true) (rw e at c.if-e-ge0.false))

pub returns : goal.returns
returns c =
    let s = to_z-of_z w64 c.args.s c.ranges.s in
    let e = to_z-of_z w64 c.args.e c.ranges.e in
    flat_none c.args.s c.args.e (rw s at c.if-s-gt0.false) (rw s at c.if-s-lt0.false) (rw e at c.if-e-ge0.false) c.nothing-2.ensures
