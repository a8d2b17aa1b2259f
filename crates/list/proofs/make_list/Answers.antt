use Rattle.rules.specs.ListCalls.{ListMade}
use Rattle.laws.proofs.Telling.{went_on, stopped}
use Rattle.laws.proofs.Turns.{on_exit}
use Rattle.list.proofs.Calls.{made_table}
use Rattle.list.proofs.make_list.Goals as goal

pub make_in-requires : goal.make_in-requires
make_in-requires c = went_on _ c.in_ok-check.ensures

pub returns-in_err-check : goal.returns-in_err-check
returns-in_err-check c =
    on_exit (ListMade c.args.table.now c.args.w c.args.list.now c.args.list.now) c.from_residual.ensures.1
    (made_table c.args.table.now c.args.w c.args.list.now (stopped _ c.in_err-check.ensures))
