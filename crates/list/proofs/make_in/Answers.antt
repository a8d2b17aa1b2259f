use Rattle.rules.specs.ListCalls.{ListMade}
use Rattle.laws.proofs.Telling.{went_on, stopped}
use Rattle.laws.proofs.Turns.{on_exit}
use Rattle.list.proofs.Calls.{made_window}
use Rattle.list.proofs.make_in.Goals as goal

pub make_for-requires : goal.make_for-requires
make_for-requires c = (c.requires, went_on _ c.in_ok-check_window.ensures)

pub returns-in_err-check_window : goal.returns-in_err-check_window
returns-in_err-check_window c =
    on_exit (ListMade c.args.table.now c.args.w c.args.list.now c.args.list.now) c.from_residual.ensures.1
    (made_window c.args.table.now c.args.w c.args.list.now c.requires (stopped _ c.in_err-check_window.ensures))
