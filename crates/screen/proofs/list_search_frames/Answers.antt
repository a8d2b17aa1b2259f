use Rattle.rules.specs.ListCalls.{ScreenSearched}
use Rattle.laws.proofs.Telling.{went_on, stopped}
use Rattle.laws.proofs.Turns.{on_exit}
use Rattle.says.proofs.Asking.{accepted}
use Rattle.screen.proofs.Calls.{not_accepted}
use Rattle.screen.proofs.list_search_frames.Goals as goal

pub search_frames-requires : goal.search_frames-requires
search_frames-requires c = accepted c.args.table.now c.args.list.now (went_on _ c.in_ok-check_both.ensures)

pub returns-in_err-check_both : goal.returns-in_err-check_both
returns-in_err-check_both c =
    on_exit (ScreenSearched c.args.table.now c.args.list.now c.args.codes.now c.args.frames c.args.place c.args.triples.now c.args.triples.now)
    c.from_residual.ensures.1
    (not_accepted c.args.table.now c.args.list.now c.args.codes.now c.args.frames c.args.place c.args.triples.now
    (stopped _ c.in_err-check_both.ensures))
