use Rattle.reading.proofs.ReadCalls.{read_long, read_faulty, read_spelt}
use Rattle.rules.specs.TextCalls.{TextRead}
use Rattle.laws.proofs.Turns.{on_exit}
use Rattle.reading.proofs.read_text.Goals as goal

pub returns-then-text-gt-MOST_BYTES : goal.returns-then-text-gt-MOST_BYTES
returns-then-text-gt-MOST_BYTES c = rw c.new.ensures (read_long c.args.table.now c.if-text-gt-MOST_BYTES.true)

pub returns-in_err-rows : goal.returns-in_err-rows
returns-in_err-rows c =
    on_exit (TextRead c.args.text.now c.args.table.now c.args.table.now) c.from_residual.ensures.1
    (read_faulty c.args.table.now c.if-text-gt-MOST_BYTES.false c.in_err-rows.ensures)

pub returns : goal.returns
returns c = read_spelt c.args.table.now c.if-text-gt-MOST_BYTES.false c.in_ok-rows.ensures c.give.ensures
