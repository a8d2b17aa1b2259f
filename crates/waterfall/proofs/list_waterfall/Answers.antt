use Rattle.rules.specs.ListCalls.{PictureDrawn}
use Rattle.laws.proofs.Telling.{went_on, stopped}
use Rattle.laws.proofs.Turns.{on_exit}
use Rattle.says.proofs.Asking.{accepted}
use Rattle.waterfall.proofs.Calls.{not_accepted}
use Rattle.waterfall.proofs.list_waterfall.Goals as goal

pub draw-requires : goal.draw-requires
draw-requires c = accepted c.args.table.now c.args.list.now (went_on _ c.in_ok-check_both.ensures)

pub returns-in_err-check_both : goal.returns-in_err-check_both
returns-in_err-check_both c =
    on_exit (PictureDrawn c.args.table.now c.args.list.now c.args.rectangle c.args.picture.now c.args.picture.now) c.from_residual.ensures.1
    (not_accepted c.args.table.now c.args.list.now c.args.rectangle c.args.picture.now (stopped _ c.in_err-check_both.ensures))
