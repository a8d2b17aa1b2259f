use Rattle.reading.proofs.ReadCalls.{given_room, given_fine}
use Rattle.reading.proofs.give_sound.Goals as goal

pub returns-then-table-needed : goal.returns-then-table-needed
returns-then-table-needed c = rw c.new.ensures (given_room c.args.words.now c.args.table.now c.requires c.if-table-needed.true)

pub returns : goal.returns
returns c = given_fine c.args.words.now c.args.table.now c.requires c.if-table-needed.false c.copy.ensures
