use Rattle.laws.proofs.Telling.{went_on, stopped}
use Rattle.laws.proofs.Turns.{on_exit}
use Rattle.reading.specs.Reading.{Given}
use Rattle.reading.proofs.ReadCalls.{given_table}
use Rattle.reading.proofs.give.Goals as goal

pub give_sound-requires : goal.give_sound-requires
give_sound-requires c = went_on _ c.in_ok-check.ensures

pub returns-in_err-check : goal.returns-in_err-check
returns-in_err-check c =
    on_exit (Given c.args.words.now c.args.table.now c.args.table.now) c.from_residual.ensures.1
    (given_table c.args.words.now c.args.table.now (stopped _ c.in_err-check.ensures))
