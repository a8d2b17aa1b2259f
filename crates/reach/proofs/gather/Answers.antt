use native.Mathlib.Omega.{arith}
use mathlib.Core.Path.{sym, ap, subst, ◌∙◌}
use Prim.Native.Nat.{◌+◌}
use Rattle.rules.specs.Boxes.{Box, share}
use Rattle.rules.specs.Inside.{bounds}
use Rattle.rules.specs.Table.{primitives_before}
use Rattle.laws.proofs.Expansion.{number_fits}
use Rattle.reach.specs.Gathering.{with_one, Gathers, meeting}
use Rattle.reach.proofs.Gathering.{leaf_gathers, none_gathers}
use Rattle.reach.proofs.gather.Goals as goal

pub box_of-requires : goal.box_of-requires
box_of-requires c = c.in-Some.ensures.1

pub added-requires : goal.added-requires
added-requires c =
    omega (arith, c.requires.gathers.count, number_fits c.args.table.now c.requires.sound c.args.row c.requires.row_bound c.in-Some.ensures.0)

pub returns-in-Some : goal.returns-in-Some
returns-in-Some c =
    let box = bounds c.args.b in
    let shares = c.boxes_share.ensures ∙ ap (λ (a : Box). share a box) c.box_of.ensures in
    subst (Gathers (primitives_before c.args.table.now (c.args.row + 1)) (meeting box)) (sym (c.added.ensures ∙ ap (with_one c.args.g) shares))
    (leaf_gathers c.args.table.now c.args.row (meeting box) c.args.g c.requires.gathers c.in-Some.ensures.0)

pub returns-in-None : goal.returns-in-None
returns-in-None c = none_gathers c.args.table.now c.args.row (meeting (bounds c.args.b)) c.args.g c.requires.gathers c.in-None.ensures
