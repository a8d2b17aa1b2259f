use Rattle.rules.specs.TextCalls.{TextWritten}
use Rattle.laws.proofs.Telling.{went_on, stopped}
use Rattle.laws.proofs.Turns.{on_exit}
use Rattle.writing.proofs.Written.{refused_table}
use Rattle.writing.proofs.write_text.Goals as goal

pub write_sound-requires : goal.write_sound-requires
write_sound-requires c = went_on _ c.in_ok-check.ensures

pub returns-in_err-check : goal.returns-in_err-check
returns-in_err-check c =
    on_exit (TextWritten c.args.table.now c.args.text.now c.args.text.now) c.from_residual.ensures.1
    (refused_table c.args.table.now c.args.text.now (stopped _ c.in_err-check.ensures))
