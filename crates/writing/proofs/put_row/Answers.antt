use native.Mathlib.Omega.{arith}
use mathlib.Core.Path.{ap}
use lib.ListN.{length}
use Rattle.number.proofs.Writing.{put_same, put_none}
use Rattle.writing.proofs.Written.{line_known, line_unknown}
use Rattle.writing.proofs.put_row.Goals as goal

pub put_line-requires-clause-room : goal.put_line-requires-clause-room
put_line-requires-clause-room c =
    let line = line_known c.args.table.now c.args.row c.word.type_inv c.word.ensures c.in-Ok.ensures in
    omega (arith, c.requires.room, ap length line)

pub returns-in-Err : goal.returns-in-Err
returns-in-Err c =
    let line = line_unknown c.args.table.now c.args.row c.word.type_inv c.word.ensures c.in-Err.ensures in
    put_same line (put_none c.args.text.now c.args.at)

pub returns-in-Ok : goal.returns-in-Ok
returns-in-Ok c =
    let line = line_known c.args.table.now c.args.row c.word.type_inv c.word.ensures c.in-Ok.ensures in
    put_same line c.put_line.ensures
