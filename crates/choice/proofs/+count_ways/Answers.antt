-- How many ways a row has on a side, by recursion on the row; what is remembered stays right. Assumes nothing.
use Prim.Native.Nat.{ℕ}
use native.Mathlib.Omega.{arith}
use mathlib.Core.Path.{sym, ap}
use lib.ListN.{get_or}
use Rattle.laws.specs.Plans.{count}
use Rattle.choice.proofs.Steps.{as_step, known_right, stored, count_either, count_both, count_fits_word}
use Rattle.choice.proofs.+count_ways.Goals as goal

pub slot-at-requires : goal.slot-at-requires
slot-at-requires t c = omega (arith, c.requires.sound.not_over, c.requires.row_bound)

pub returns-then-known-ne0 : goal.returns-then-known-ne0
returns-then-known-ne0 t c =
    let s = c.before.before.before.before.before in
    let d = c.before.before.before.before in
    (known_right s.requires.sound s.requires.remembered s.requires.row_bound s.args.within (ap (λ (j : ℕ). get_or s.args.counts.now j 0) (sym d.slot-at.ensures.0)) c.if-known-ne0.true, s.requires.remembered)

pub remember-requires : goal.remember-requires
remember-requires t c =
    let at_read_step = c.before.before in
    at_read_step.slot-at.ensures.1

pub remember-requires-in-Without : goal.remember-requires-in-Without
remember-requires-in-Without t c =
    let at_read_step = c.before.before in
    at_read_step.slot-at.ensures.1

pub overflow_add-x : goal.overflow_add-x
overflow_add-x t c =
    let at_count_ways = c.before.before.before in
    let at_step = at_count_ways.before.before in
    let at_read_step = at_step.before in
    let s = at_read_step.before.before.before.before.before in
    count_fits_word s.requires.sound s.requires.row_bound s.args.within (count_either (as_step _ _ _ at_read_step.read_step-step.ensures at_step.in-Either.is).0 at_count_ways.count_ways-x.ensures.0 c.count_ways-y.ensures.0)

pub remember-requires-in-Either : goal.remember-requires-in-Either
remember-requires-in-Either t c =
    let at_count_ways = c.before.before.before in
    let at_match3 = at_count_ways.before.before in
    let at_slot = at_match3.before.before.before.before.before in
    at_slot.slot-at.ensures.1

pub overflow_mul-x : goal.overflow_mul-x
overflow_mul-x t c =
    let at_count_ways3 = c.before.before.before in
    let at_step2 = at_count_ways3.before.before in
    let at_read_step = at_step2.before in
    let s = at_read_step.before.before.before.before.before in
    count_fits_word s.requires.sound s.requires.row_bound s.args.within (count_both (as_step _ _ _ at_read_step.read_step-step.ensures at_step2.in-Both.is).0 at_count_ways3.count_ways-x-in-Both.ensures.0 c.count_ways-y-in-Both.ensures.0)

pub remember-requires-in-Both : goal.remember-requires-in-Both
remember-requires-in-Both t c =
    let at_count_ways3 = c.before.before.before in
    let at_match4 = at_count_ways3.before.before in
    let at_slot = at_match4.before.before.before.before.before in
    at_slot.slot-at.ensures.1

pub returns-in-With : goal.returns-in-With
unfolding count
returns-in-With t c =
    let at_read_step = c.before.before.before in
    let at_slot = at_read_step.before.before.before.before in
    let s = at_slot.before in
    stored s.requires.sound s.requires.remembered s.requires.row_bound s.args.within at_slot.slot-at.ensures.0 (sym (ap count (as_step _ _ _ at_read_step.read_step-step.ensures c.in-With.is).1)) c.remember.ensures

pub returns-in-Without : goal.returns-in-Without
unfolding count
returns-in-Without t c =
    let at_read_step = c.before.before.before in
    let at_slot = at_read_step.before.before.before.before in
    let s = at_slot.before in
    stored s.requires.sound s.requires.remembered s.requires.row_bound s.args.within at_slot.slot-at.ensures.0 (sym (ap count (as_step _ _ _ at_read_step.read_step-step.ensures c.in-Without.is).1)) c.remember-in-Without.ensures

pub returns-in-Either : goal.returns-in-Either
returns-in-Either t c =
    let at_count_ways = c.before.before.before.before in
    let at_step = at_count_ways.before.before in
    let at_read_step = at_step.before in
    let at_slot = at_read_step.before.before.before.before in
    let s = at_slot.before in
    stored s.requires.sound c.count_ways-y.ensures.1 s.requires.row_bound s.args.within at_slot.slot-at.ensures.0 (count_either (as_step _ _ _ at_read_step.read_step-step.ensures at_step.in-Either.is).0 at_count_ways.count_ways-x.ensures.0 c.count_ways-y.ensures.0) c.remember-in-Either.ensures

pub returns-in-Both : goal.returns-in-Both
returns-in-Both t c =
    let at_count_ways3 = c.before.before.before.before in
    let at_step2 = at_count_ways3.before.before in
    let at_read_step = at_step2.before in
    let at_slot = at_read_step.before.before.before.before in
    let s = at_slot.before in
    stored s.requires.sound c.count_ways-y-in-Both.ensures.1 s.requires.row_bound s.args.within at_slot.slot-at.ensures.0 (count_both (as_step _ _ _ at_read_step.read_step-step.ensures at_step2.in-Both.is).0 at_count_ways3.count_ways-x-in-Both.ensures.0 c.count_ways-y-in-Both.ensures.0) c.remember-in-Both.ensures
