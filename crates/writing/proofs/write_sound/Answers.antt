use native.Mathlib.Omega.{arith}
use Rattle.writing.proofs.Written.{refused_room, text_written}
use Rattle.writing.proofs.write_sound.Goals as goal

pub returns-then-text-needed : goal.returns-then-text-needed
returns-then-text-needed c =
    rw c.new.ensures (refused_room c.args.table.now c.args.text.now c.requires c.text_length-needed.ensures c.if-text-needed.true)

pub returns : goal.returns
returns c =
    text_written c.args.table.now c.args.text.now c.requires (omega (arith, c.text_length-needed.ensures, c.if-text-needed.false)) c.put_text.ensures
