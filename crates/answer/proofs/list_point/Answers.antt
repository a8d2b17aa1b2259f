use Rattle.rules.specs.ListCalls.{ListLocated}
use Rattle.laws.proofs.Telling.{went_on, stopped}
use Rattle.laws.proofs.Turns.{on_exit}
use Rattle.says.proofs.Asking.{accepted}
use Rattle.answer.proofs.Calls.{point_refused}
use Rattle.answer.proofs.list_point.Goals as goal

pub point_in-requires : goal.point_in-requires
point_in-requires c = accepted c.args.table.now c.args.list.now (went_on _ c.in_ok-check_both.ensures)

pub returns-in_err-check_both : goal.returns-in_err-check_both
returns-in_err-check_both c =
    on_exit (ListLocated c.args.table.now c.args.list.now c.args.p) c.from_residual.ensures.1
    (point_refused c.args.table.now c.args.list.now c.args.p (stopped _ c.in_err-check_both.ensures))
