use Rattle.walk.specs.Tracks.{walk_at, start_of, steps_left}
use Rattle.walk.proofs.Walked.{Walked}
use Rattle.walk.proofs.steps.walk.Given as goal

abbrev pub invariant-loop-from : goal.invariant-loop-from
invariant-loop-from l = Walked l.plan.rows.now l.plan.end (walk_at l.plan.rows.now l.plan.end (start_of l.seen)) l.keeps l.initial.list l.list l.aside l.count

abbrev pub decreases-loop-from : goal.decreases-loop-from
decreases-loop-from l = steps_left l.plan.end l.aside
