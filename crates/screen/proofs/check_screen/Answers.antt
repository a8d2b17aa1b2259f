use native.Mathlib.Omega.{arith}
use mathlib.Core.Path.{sym, ap, ◌∙◌}
use Rattle.ground.specs.Lists.{first_of}
use Rattle.laws.specs.Checking.{checked_by}
use Rattle.laws.proofs.Telling.{alone}
use Rattle.laws.proofs.Turns.{first_broken, first_kept_on}
use Rattle.screen.proofs.Frames.{one_frame, few_frames, count_wrong, count_right}
use Rattle.screen.proofs.check_screen.Goals as goal

pub returns-then-frames : goal.returns-then-frames
unfolding first_of
returns-then-frames c = rw (c.new.ensures, count_wrong c.args.codes.now c.args.frames c.if-frames.true)

pub overflow_mul-needed : goal.overflow_mul-needed
overflow_mul-needed c = record { fits = omega (arith, few_frames c.args.codes.now c.args.frames c.if-frames.false) }

pub nonzero_rem-codes : goal.nonzero_rem-codes
nonzero_rem-codes c = one_frame c.args.codes.now c.args.frames c.if-frames.false

pub returns-in_err-refuse_if : goal.returns-in_err-refuse_if
returns-in_err-refuse_if c =
    first_broken _ _ c.from_residual.ensures.1
    (c.in_err-refuse_if.ensures ∙ ap checked_by (sym (count_right c.args.codes.now c.args.frames c.if-frames.false)))

pub returns : goal.returns
returns c =
    first_kept_on _ _ (c.in_ok-refuse_if.ensures ∙ ap checked_by (sym (count_right c.args.codes.now c.args.frames c.if-frames.false)))
    (alone _ c.refuse_unless.ensures)
