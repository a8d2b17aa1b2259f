use Rattle.rules.specs.ListCalls.{ListSearched}
use Rattle.rules.specs.Told.{searched_of}
use Rattle.laws.proofs.Telling.{went_on, stopped}
use Rattle.laws.proofs.Turns.{on_exit}
use Rattle.says.proofs.Asking.{accepted}
use Rattle.answer.proofs.Calls.{search_refused}
use Rattle.answer.proofs.checked_search.Goals as goal

pub accepted_search-requires : goal.accepted_search-requires
accepted_search-requires c = accepted c.args.table.now c.args.list.now (went_on _ c.in_ok-check_both.ensures)

pub returns-in_err-check_both : goal.returns-in_err-check_both
returns-in_err-check_both c =
    on_exit (λ r. ListSearched c.args.table.now c.args.list.now c.args.samples.now c.args.place (searched_of r)) c.from_residual.ensures.1
    (search_refused c.args.table.now c.args.list.now c.args.samples.now c.args.place (stopped _ c.in_err-check_both.ensures))
