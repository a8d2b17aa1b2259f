use Prim.Native.Nat.{◌+◌}
use native.Mathlib.Omega.{arith}
use mathlib.Core.Path.{sym, subst}
use lib.ListN.{length}
use Rattle.laws.proofs.Columns.{frame_right}
use Rattle.frame.proofs.Tallies.{ends}
use Rattle.frame.specs.Tallies.{Tally, Running}
use Rattle.says.specs.Asking.{inside_by}
use Rattle.sweep.proofs.Traces.{hits, before_next, goes_next}
use Rattle.sweep.proofs.count_on.Goals as goal

pub loop-k-init : goal.loop-k-init
loop-k-init c =
    let is_inside = inside_by c.args.asked c.args.table.now c.args.list.now in
    let samples = c.args.samples.now in
    let place = c.args.place in
    let first = c.args.seen.sample in
    let begun = c.requires.begun in
    let own = c.code_place-before.ensures in
    record {
      preceded = before_next is_inside samples place first own.value own.ranged;
      running = subst (λ (t : Tally). Running (hits is_inside samples place) (length samples) (first + 1) t) (sym c.counted-found.ensures) begun.running;
      known = begun.known;
    }

pub counted-found-requires-in-loop-k : goal.counted-found-requires-in-loop-k
counted-found-requires-in-loop-k c =
    omega (arith, c.loop-k.invariant.running.few, c.loop-k-test.true, (frame_right c.args.samples.now c.args.place c.requires.place_value).not_over)

pub loop-k-preserved : goal.loop-k-preserved
loop-k-preserved c =
    let look = c.look_at-q.ensures in
    let own = c.code_place-before-in-loop-k.ensures in
    goes_next (inside_by c.args.asked c.args.table.now c.args.list.now) c.args.samples.now c.args.place c.loop-k-test.true c.loop-k.invariant
    look.told c.counted-found-in-loop-k.ensures own.value own.ranged look.known

pub returns : goal.returns
returns c =
    ends (hits (inside_by c.args.asked c.args.table.now c.args.list.now) c.args.samples.now c.args.place) c.loop-k-test.false c.loop-k.invariant.running
