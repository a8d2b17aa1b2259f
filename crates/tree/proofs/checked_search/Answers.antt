use Rattle.rules.specs.Told.{searched_of}
use Rattle.rules.specs.TreeCalls.{TreeSearched}
use Rattle.laws.proofs.Telling.{went_on, stopped}
use Rattle.laws.proofs.Turns.{on_exit}
use Rattle.tree.proofs.Calls.{search_table}
use Rattle.tree.proofs.checked_search.Goals as goal

pub sound_search-requires : goal.sound_search-requires
sound_search-requires c = went_on _ c.in_ok-check.ensures

pub returns-in_err-check : goal.returns-in_err-check
returns-in_err-check c =
    on_exit (λ r. TreeSearched c.args.table.now c.args.samples.now c.args.place (searched_of r)) c.from_residual.ensures.1
    (search_table c.args.table.now c.args.samples.now c.args.place (stopped _ c.in_err-check.ensures))
