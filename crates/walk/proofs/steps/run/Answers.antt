-- Going on from a place as long as it can: an open place is at a row, and what is aside is two rows apart. Assumes nothing.
use Rattle.std.proofs.Common.{List, ◌∷◌, sym, ap, ap₂, subst, ◌∙◌, arith}
use Rattle.places.specs.declared.Place.{Place}
use Rattle.walk.specs.Tracks.{Held, Goes}
use Rattle.walk.proofs.Tracks.{onward_later, held_in, goes_on, goes_then}
use Rattle.walk.proofs.steps.run.Goals as goal

pub is_open-requires : goal.is_open-requires
unfolding Held
is_open-requires c = c.loop-aside.invariant.held.1.0

pub fork-requires : goal.fork-requires
fork-requires c =
    let s = c.args.plan.now.sound.linked in
    let l = c.loop-aside in
    let h = held_in s l.at l.aside l.invariant.held (sym c.is_open.ensures ∙ c.loop-aside-test.true) in
    (omega (arith, h.1, s.few), omega (arith, h.0, h.1, s.few))

pub onward-at-requires : goal.onward-at-requires
onward-at-requires c =
    let s = c.args.plan.now.sound.linked in
    let l = c.loop-aside in
    let h = held_in s l.at l.aside l.invariant.held (sym c.is_open.ensures ∙ c.loop-aside-test.true) in
    omega (arith, h.1, s.few)

pub loop-aside-smaller : goal.loop-aside-smaller
loop-aside-smaller c =
    let s = c.args.plan.now.sound.linked in
    let l = c.loop-aside in
    let h = held_in s l.at l.aside l.invariant.held (sym c.is_open.ensures ∙ c.loop-aside-test.true) in
    omega (arith, h.1, (onward_later s l.at h.1).0, ap (λ (p : Place). p.row) c.onward-at.ensures)

pub loop-aside-preserved : goal.loop-aside-preserved
loop-aside-preserved c =
    let s = c.args.plan.now.sound.linked in
    let l = c.loop-aside in
    let on = goes_on s l.at l.aside l.invariant.held (sym c.is_open.ensures ∙ c.loop-aside-test.true) in
    let to = ap₂ (λ (p : Place) (ps : List Place). p ∷ ps) (sym c.onward-at.ensures) (sym c.fork.ensures) in
    goes_then l.invariant (subst (Goes c.args.plan.now.rows.now c.args.plan.now.end (l.at ∷ l.aside)) to on)
