-- In reach are its columns and its frames, so that the ellipse tells of its codes.
use mathlib.Core.Path.{sym, ap, ◌∙◌}
use Rattle.ground.proofs.Branches.{and_left, and_right}
use Rattle.rules.specs.declared.Primitive.TheVariants as primitive
use Rattle.rules.specs.Boxes.{Box}
use Rattle.rules.specs.Inside.{in_ellipse}
use Rattle.rules.specs.Products.{box_of}
use Rattle.rules.specs.Ranges.{within}
use Rattle.span.specs.Along.{value, beside}
use Rattle.span.proofs.Along.{let_through}
use Rattle.span.proofs.Shapes.{out_of_reach}
use Rattle.span.proofs.drum_codes.Goals as goal

pub returns-then-not-meets : goal.returns-then-not-meets
returns-then-not-meets c =
    let d = c.args.d in
    let p = c.args.p in
    let h = sym (c.meets.ensures ∙ ap (λ (b : Box). beside b p) c.box_of-bounds.ensures) ∙ c.if-not-meets.true in
    out_of_reach (primitive.Drum d) p c.requires.d_value h c.nothing.ensures

pub ellipse-requires : goal.ellipse-requires
ellipse-requires c =
    let b = box_of (primitive.Drum c.args.d) in
    let p = c.args.p in
    let h = sym (c.meets.ensures ∙ ap (λ (b : Box). beside b p) c.box_of-bounds.ensures) ∙ c.if-not-meets.false in
    record { d_value = c.requires.d_value; p_value = c.requires.p_value; in_reach = and_left (within b.x p.x) (within b.z p.z) h }

pub returns : goal.returns
returns c =
    let d = c.args.d in
    let b = box_of (primitive.Drum d) in
    let p = c.args.p in
    let h = sym (c.meets.ensures ∙ ap (λ (b : Box). beside b p) c.box_of-bounds.ensures) ∙ c.if-not-meets.false in
    let_through (λ v. in_ellipse d.cx d.cy d.rx d.ry p.x (value v)) (within b.z p.z) (and_right (within b.x p.x) (within b.z p.z) h) c.ellipse.ensures
