-- Rewrites at the node until none fits: each lowers the weight of the tree. Assumes nothing.
use mathlib.Core.Path.{◌∙◌}
use Rattle.normal.proofs.Words.{held_lies}
use Rattle.normal.proofs.Turns.{ready_on, turn_on, turn_falls}
use Rattle.normal.proofs.reduce.Goals as goal

pub rewrite-requires : goal.rewrite-requires
rewrite-requires c =
    let p = c.requires in
    let g = c.loop-m.invariant.1 p.0 p.1 p.2 p.3 in (p.0, g.tree, p.2, ready_on p.3 g.leads g.held c.loop-m.invariant.0)

pub loop-m-smaller : goal.loop-m-smaller
loop-m-smaller c =
    let p = c.requires in
    let g = c.loop-m.invariant.1 p.0 p.1 p.2 p.3 in
    let r = ready_on p.3 g.leads g.held c.loop-m.invariant.0 in
    turn_falls c.rewrite.new.w c.in-Some.m p.0 p.2 (held_lies g.held) (c.in-Some.ensures p.0 g.tree p.2 r)

pub loop-m-preserved : goal.loop-m-preserved
loop-m-preserved c = (
  c.rewrite.auto.w ∙ c.loop-m.invariant.0,
  λ a T e r.
      let g = c.loop-m.invariant.1 a T e r in
      turn_on c.rewrite.new.w c.args.at c.in-Some.m a e g.leads (c.in-Some.ensures a g.tree e (ready_on r g.leads g.held c.loop-m.invariant.0)),
)

pub returns : goal.returns
returns c = λ a T e r.
    let g = c.loop-m.invariant.1 a T e r in
    let o = c.in_default.ensures a g.tree e (ready_on r g.leads g.held c.loop-m.invariant.0) in record { tree = g.tree; leads = g.leads; held = o.1; ends = o.0 }
