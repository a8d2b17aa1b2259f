-- The k-th way, by recursion on the row: k falls to one part of an `either`, and k's two digits to the parts of a `both`. Assumes nothing.
use mathlib.Core.Path.{◌∙◌}
use Rattle.choice.proofs.Parts.{right_fits, kth_left, kth_right, left_ways, low_fits, high_fits, kth_both, kth_in, kth_out}
use Rattle.choice.proofs.Steps.{as_step, asks}
use Rattle.choice.proofs.+choose.Goals as goal

pub returns-then-k-n : goal.returns-then-k-n
returns-then-k-n t c =
    let at_count_ways = c.before.before.before in
    let at_step3 = at_count_ways.before.before in
    let at_read_step = at_step3.before in
    let s = at_read_step.before in
    let i = as_step _ _ _ at_read_step.read_step-step.ensures at_step3.in-Either.is in
    let n = at_count_ways.count_ways-n.ensures in
    (c.choose.ensures.0 ∙ kth_left i.0 n.0 s.args.k c.if-k-n.true, c.choose.ensures.1)

pub nonzero_rem-k : goal.nonzero_rem-k
nonzero_rem-k t c =
    let at_step4 = c.before.before.before in
    let at_read_step = at_step4.before in
    let s = at_read_step.before in
    let i = as_step _ _ _ at_read_step.read_step-step.ensures at_step4.in-Both.is in
    left_ways i.0 c.count_ways-n-in-Both.ensures.0 s.args.k s.requires.k_bound

pub nonzero_div-k : goal.nonzero_div-k
nonzero_div-k t c =
    let at_count_ways2 = c.before.before.before in
    let at_step4 = at_count_ways2.before.before in
    let at_read_step = at_step4.before in
    let s = at_read_step.before in
    let i = as_step _ _ _ at_read_step.read_step-step.ensures at_step4.in-Both.is in
    left_ways i.0 at_count_ways2.count_ways-n-in-Both.ensures.0 s.args.k s.requires.k_bound

pub together-requires : goal.together-requires
together-requires t c = tt

pub returns-in-With : goal.returns-in-With
returns-in-With t c =
    let s = c.before.before in
    let i = as_step _ _ _ c.read_step-step.ensures c.in-With.is in
    (kth_in i.2 i.1 s.args.k, s.requires.remembered)

pub returns-in-Without : goal.returns-in-Without
returns-in-Without t c =
    let s = c.before.before in
    let i = as_step _ _ _ c.read_step-step.ensures c.in-Without.is in
    (kth_out i.2 i.1 s.args.k, s.requires.remembered)

pub returns-else-k-n : goal.returns-else-k-n
returns-else-k-n t c =
    let at_count_ways = c.before.before.before in
    let at_step3 = at_count_ways.before.before in
    let at_read_step = at_step3.before in
    let s = at_read_step.before in
    let i = as_step _ _ _ at_read_step.read_step-step.ensures at_step3.in-Either.is in
    let n = at_count_ways.count_ways-n.ensures in
    (c.choose-in-Either.ensures.0 ∙ kth_right i.0 n.0 s.args.k c.if-k-n.false, c.choose-in-Either.ensures.1)

pub returns-in-Both : goal.returns-in-Both
returns-in-Both t c =
    let at_choose3 = c.before.before.before in
    let at_count_ways2 = at_choose3.before.before in
    let at_step4 = at_count_ways2.before.before in
    let at_read_step = at_step4.before in
    let s = at_read_step.before in
    let i = as_step _ _ _ at_read_step.read_step-step.ensures at_step4.in-Both.is in
    let n = at_count_ways2.count_ways-n-in-Both.ensures in
    (c.together.ensures ∙ kth_both i.0 n.0 s.args.k at_choose3.choose-x.ensures.0 c.choose-y.ensures.0, c.choose-y.ensures.1)

pub choose-requires-in-Either : goal.choose-requires-in-Either
choose-requires-in-Either t c =
    let at_count_ways = c.before.before in
    let at_step3 = at_count_ways.before.before in
    let at_read_step = at_step3.before in
    let s = at_read_step.before in
    let i = as_step _ _ _ at_read_step.read_step-step.ensures at_step3.in-Either.is in
    let n = at_count_ways.count_ways-n.ensures in
    asks s.decreases s.requires.sound s.requires.row_bound i.2 (s.requires.numbered, (n.1, right_fits i.0 n.0 s.args.k s.requires.k_bound c.if-k-n.false))

pub choose-x-requires : goal.choose-x-requires
choose-x-requires t c =
    let at_step4 = c.before.before.before in
    let at_read_step = at_step4.before in
    let s = at_read_step.before in
    let i = as_step _ _ _ at_read_step.read_step-step.ensures at_step4.in-Both.is in
    let n = c.count_ways-n-in-Both.ensures in
    asks s.decreases s.requires.sound s.requires.row_bound i.1 (s.requires.numbered, (n.1, low_fits i.0 n.0 s.args.k s.requires.k_bound))

pub choose-y-requires : goal.choose-y-requires
choose-y-requires t c =
    let at_count_ways2 = c.before.before.before in
    let at_step4 = at_count_ways2.before.before in
    let at_read_step = at_step4.before in
    let s = at_read_step.before in
    let i = as_step _ _ _ at_read_step.read_step-step.ensures at_step4.in-Both.is in
    let n = at_count_ways2.count_ways-n-in-Both.ensures in
    asks s.decreases s.requires.sound s.requires.row_bound i.2 (s.requires.numbered, (c.choose-x.ensures.1, high_fits i.0 n.0 s.args.k s.requires.k_bound))
