-- Where the primitive has the frame, its edges bound its answers; else it has none of it, and the rectangle stays.
use mathlib.Core.Path.{sym, ap, ◌∙◌}
use Rattle.rules.specs.declared.Axis.TheVariants.{Frame}
use Rattle.rules.specs.Inside.{inside_solid}
use Rattle.rules.specs.ListWords.{raised}
use Rattle.rules.specs.Ranges.{within}
use Rattle.laws.proofs.Ranges.{framed, x_in, y_in}
use Rattle.solid.proofs.Numbers.{x_num, y_num, z_num}
use Rattle.span.proofs.Order.{place_below}
use Rattle.margin.specs.Margins.{spot}
use Rattle.calm.proofs.Bounding.{bounds_ranged, solid_off, solid_bounded}
use Rattle.calm.proofs.Rects.{by_none}
use Rattle.calm.proofs.narrow_by.Goals as goal

pub returns-then-not-contains : goal.returns-then-not-contains
returns-then-not-contains c =
    let s = c.args.s in
    let p = c.args.p in
    let h = c.requires.p_value in
    let is = c.contains.ensures ∙ (λ i. within (record { lo = (c.frames.ensures i).lo; hi = (c.frames.ensures i).hi }) ((z_num p h).reads i)) in
    let off = solid_off s c.requires.s_value c.box_of-b.result c.box_of-b.ensures p h (sym is ∙ c.if-not-contains.true) in
    record { here = c.requires.fact; part = λ a b J. J; same = by_none {test = λ a b. inside_solid s (spot p.z a b)} c.requires.fact (λ a b l J. off a b) }

pub edges_of-e-requires : goal.edges_of-e-requires
edges_of-e-requires c = bounds_ranged c.args.s c.requires.s_value c.box_of-b.result c.box_of-b.ensures

pub place_of-requires : goal.place_of-requires
place_of-requires c = let p = c.args.p in let h = c.requires.p_value in rw (x_num p h).reads (framed p.x (x_in p h))

pub place_of-requires-2 : goal.place_of-requires-2
place_of-requires-2 c = let p = c.args.p in let h = c.requires.p_value in rw (y_num p h).reads (framed p.y (y_in p h))

pub narrow-requires : goal.narrow-requires
narrow-requires c =
    let p = c.args.p in
    let h = c.requires.p_value in
    let b = c.box_of-b.result in
    let x = c.place_of.ensures.value ∙ ap (raised Frame) (x_num p h).reads in
    let y = c.place_of-2.ensures.value ∙ ap (raised Frame) (y_num p h).reads in
    let R = bounds_ranged c.args.s c.requires.s_value b c.box_of-b.ensures in record {
      here = rw (x, y) c.requires.fact;
      below_places = (c.place_of.ensures.bounded, (c.place_of-2.ensures.bounded, rw c.edges_of-e.ensures (place_below b.yhi R.yhi)));
      margin_bound = rw c.edges_of-e.ensures c.margin.ensures.bounded;
    }

pub returns : goal.returns
returns c =
    let s = c.args.s in
    let p = c.args.p in
    let h = c.requires.p_value in
    let b = c.box_of-b.result in
    let x = c.place_of.ensures.value ∙ ap (raised Frame) (x_num p h).reads in
    let y = c.place_of-2.ensures.value ∙ ap (raised Frame) (y_num p h).reads in
    let is = c.contains.ensures ∙ (λ i. within (record { lo = (c.frames.ensures i).lo; hi = (c.frames.ensures i).hi }) ((z_num p h).reads i)) in
    let N = rw (c.edges_of-e.ensures, x, y) at c.narrow.ensures in
    let bounded = solid_bounded s c.requires.s_value b c.box_of-b.ensures p h c.margin.result c.margin.ensures.margin in
    record { here = N.here; part = N.part; same = N.same (λ a b'. inside_solid s (spot p.z a b')) (bounded.on (sym is ∙ c.if-not-contains.false)) }
