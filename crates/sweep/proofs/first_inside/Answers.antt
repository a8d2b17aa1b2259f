use Prim.Native.Nat.{◌+◌}
use native.Mathlib.Omega.{arith}
use mathlib.Core.Bool.{Bool}
use mathlib.Core.Path.{refl, sym, subst, ◌∙◌}
use Rattle.std.specs.Prelude.{None}
use Rattle.laws.proofs.Columns.{frame_right}
use Rattle.frame.proofs.Tallies.{ends, goes_on}
use Rattle.frame.specs.Tallies.{stepped, Running}
use lib.ListN.{length}
use Rattle.says.specs.Asking.{inside_by}
use Rattle.sweep.proofs.Traces.{hits, goes_next}
use Rattle.sweep.proofs.first_inside.Goals as goal

pub code_place-before-requires-clause-k_in_bounds : goal.code_place-before-requires-clause-k_in_bounds
code_place-before-requires-clause-k_in_bounds c = omega (arith, (frame_right c.args.samples.now c.args.place c.requires.place_value).some_sample)

pub returns-then-q : goal.returns-then-q
returns-then-q c =
    let look = c.look_at-q.ensures in
    let test = hits (inside_by c.args.asked c.args.table.now c.args.list.now) c.args.samples.now c.args.place in
    let k = c.loop-k.k in
    record {
      in_frame = c.loop-k-test.true;
      running = subst (λ (b : Bool). Running test (length c.args.samples.now) (k + 1) (stepped None k b)) (sym look.told ∙ c.if-q.true) (goes_on test c.loop-k-test.true c.loop-k.invariant.running);
      known = look.known;
    }

pub loop-k-preserved : goal.loop-k-preserved
loop-k-preserved c =
    let look = c.look_at-q.ensures in
    let own = c.code_place-before-in-loop-k.ensures in
    goes_next (inside_by c.args.asked c.args.table.now c.args.list.now) c.args.samples.now c.args.place c.loop-k-test.true c.loop-k.invariant
    (sym c.if-q.false ∙ look.told) refl own.value own.ranged look.known

pub returns : goal.returns
returns c =
    ends (hits (inside_by c.args.asked c.args.table.now c.args.list.now) c.args.samples.now c.args.place) c.loop-k-test.false c.loop-k.invariant.running
