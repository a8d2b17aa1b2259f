use Rattle.rules.specs.ListCalls.{ListSearched}
use Rattle.rules.specs.Told.{searched_of}
use Rattle.laws.proofs.Telling.{went_on, stopped}
use Rattle.laws.proofs.Turns.{on_exit}
use Rattle.answer.proofs.Calls.{search_frame}
use Rattle.answer.proofs.accepted_search.Goals as goal

pub search_in-requires : goal.search_in-requires
search_in-requires c = record { accepted = c.requires; place_value = went_on _ c.in_ok-check_frame.ensures }

pub returns-in_err-check_frame : goal.returns-in_err-check_frame
returns-in_err-check_frame c =
    on_exit (λ r. ListSearched c.args.table.now c.args.list.now c.args.samples.now c.args.place (searched_of r)) c.from_residual.ensures.1
    (search_frame c.args.table.now c.args.list.now c.args.samples.now c.args.place c.requires (stopped _ c.in_err-check_frame.ensures))
