use Rattle.rules.specs.Told.{searched_of}
use Rattle.rules.specs.TreeCalls.{TreeSearched}
use Rattle.laws.proofs.Soundness.{table_sound}
use Rattle.laws.proofs.Telling.{went_on, stopped}
use Rattle.laws.proofs.Turns.{on_exit}
use Rattle.tree.proofs.Calls.{search_frame, search_fine}
use Rattle.tree.proofs.sound_search.Goals as goal

pub scan-requires : goal.scan-requires
scan-requires c = record { ready = table_sound c.args.table.now c.requires; place_value = went_on _ c.in_ok-check_frame.ensures }

pub returns-in_err-check_frame : goal.returns-in_err-check_frame
returns-in_err-check_frame c =
    on_exit (λ r. TreeSearched c.args.table.now c.args.samples.now c.args.place (searched_of r)) c.from_residual.ensures.1
    (search_frame c.args.table.now c.args.samples.now c.args.place c.requires (stopped _ c.in_err-check_frame.ensures))

pub returns : goal.returns
returns c =
    search_fine c.args.table.now c.args.samples.now c.args.place c.requires (went_on _ c.in_ok-check_frame.ensures) c.scan.ensures
