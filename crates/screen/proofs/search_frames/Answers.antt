use native.Mathlib.Omega.{arith}
use lib.ListN.{length}
use Rattle.rules.specs.ListCalls.{ScreenSearched}
use Rattle.laws.proofs.Telling.{went_on, stopped}
use Rattle.laws.proofs.Turns.{on_exit}
use Rattle.screen.proofs.Frames.{frames_right}
use Rattle.screen.proofs.Calls.{shape_kept, shape_wrong, written}
use Rattle.screen.proofs.search_frames.Goals as goal

pub put_triples-requires : goal.put_triples-requires
put_triples-requires c =
    let kept = shape_kept c.args.codes.now c.args.frames (length c.args.triples.now) (went_on _ c.in_ok-check_screen.ensures) in record { accepted = c.requires; frames_value = kept.0; frames_in_bounds = kept.1 }

pub overflow_mul-result : goal.overflow_mul-result
overflow_mul-result c =
    let kept = shape_kept c.args.codes.now c.args.frames (length c.args.triples.now) (went_on _ c.in_ok-check_screen.ensures) in
    record { fits = omega (arith, (frames_right c.args.codes.now c.args.frames kept.0).not_over) }

pub returns-in_err-check_screen : goal.returns-in_err-check_screen
returns-in_err-check_screen c =
    on_exit (ScreenSearched c.args.table.now c.args.list.now c.args.codes.now c.args.frames c.args.place c.args.triples.now c.args.triples.now)
    c.from_residual.ensures.1
    (shape_wrong c.args.table.now c.args.list.now c.args.codes.now c.args.frames c.args.place c.args.triples.now c.requires
    (stopped _ c.in_err-check_screen.ensures))

pub returns : goal.returns
returns c =
    written c.args.table.now c.args.list.now c.args.codes.now c.args.frames c.args.place c.args.triples.now c.requires
    (went_on _ c.in_ok-check_screen.ensures) c.put_triples.ensures
