use Rattle.rules.specs.TreeCalls.{TreeLocated}
use Rattle.laws.proofs.Telling.{went_on, stopped}
use Rattle.laws.proofs.Turns.{on_exit}
use Rattle.tree.proofs.Calls.{point_table}
use Rattle.tree.proofs.tree_point.Goals as goal

pub sound_point-requires : goal.sound_point-requires
sound_point-requires c = went_on _ c.in_ok-check.ensures

pub returns-in_err-check : goal.returns-in_err-check
returns-in_err-check c =
    on_exit (TreeLocated c.args.table.now c.args.p) c.from_residual.ensures.1 (point_table c.args.table.now c.args.p (stopped _ c.in_err-check.ensures))
