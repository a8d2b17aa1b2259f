-- The walk from stop to stop. Assumes nothing.
use Rattle.std.proofs.Common.{List, ◌∷◌, sym, ap, subst, ◌∙◌, arith}
use Rattle.places.specs.declared.Place.{Place}
use Rattle.walk.specs.Tracks.{walk_at, start_of}
use Rattle.walk.proofs.Tracks.{put_length}
use Rattle.walk.proofs.Walked.{Walked, walked_none, walked_all, end_fits, fewer, walked_more}
use Rattle.walk.proofs.steps.walk.Goals as goal

pub loop-from-init : goal.loop-from-init
loop-from-init c =
    let start = start_of c.args.seen in
    let e = c.push.ensures ∙ ap (λ (aside : List Place). start ∷ aside) c.new-aside.ensures in
    subst (λ (aside : List Place). Walked c.args.plan.now.rows.now c.args.plan.now.end (walk_at c.args.plan.now.rows.now c.args.plan.now.end start) c.args.keeps c.args.list.now c.args.list.now aside 0) (sym e)
    (walked_none c.args.plan.now.rows.now c.args.plan.now.end start c.args.keeps c.args.list.now (omega arith))

pub finish-count-requires-clause-few : goal.finish-count-requires-clause-few
finish-count-requires-clause-few c =
    omega (arith, c.requires.few, end_fits c.args.plan.now.sound.linked c.loop-from.invariant c.in-Some.ensures c.run-at.ensures.goes c.run-at.ensures.stops)

pub finish-count-requires-clause-room : goal.finish-count-requires-clause-room
finish-count-requires-clause-room c k =
    omega (
      arith,
      c.requires.room k,
      end_fits c.args.plan.now.sound.linked c.loop-from.invariant c.in-Some.ensures c.run-at.ensures.goes c.run-at.ensures.stops,
      put_length c.args.keeps c.loop-from.invariant.put,
    )

pub loop-from-smaller : goal.loop-from-smaller
loop-from-smaller c = fewer c.args.plan.now.sound.linked c.loop-from.invariant c.in-Some.ensures c.run-at.ensures.goes c.run-at.ensures.stops

pub loop-from-preserved : goal.loop-from-preserved
loop-from-preserved c = walked_more c.args.plan.now.sound.linked c.loop-from.invariant c.in-Some.ensures c.run-at.ensures.goes c.run-at.ensures.stops c.finish-count.ensures

pub returns : goal.returns
returns c = walked_all c.loop-from.invariant c.in_default.ensures.0
