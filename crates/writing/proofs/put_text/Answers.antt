use native.Mathlib.Omega.{arith}
use Rattle.laws.proofs.Soundness.{table_sound}
use Rattle.number.proofs.Writing.{put_same, put_size, put_join}
use Rattle.writing.proofs.Written.{text_parts, text_size}
use Rattle.writing.proofs.put_text.Goals as goal

pub put_header-header-requires-clause-rows_le_most_rows : goal.put_header-header-requires-clause-rows_le_most_rows
put_header-header-requires-clause-rows_le_most_rows c = (table_sound c.args.table.now c.requires.sound).not_over

pub put_header-header-requires-clause-room : goal.put_header-header-requires-clause-room
put_header-header-requires-clause-room c = omega (arith, c.requires.room, text_size c.args.table.now c.requires.sound)

pub put_rows-requires-clause-room : goal.put_rows-requires-clause-room
put_rows-requires-clause-room c =
    let header = c.put_header-header.ensures in
    omega (arith, c.requires.room, text_size c.args.table.now c.requires.sound, header.end, put_size header)

pub returns : goal.returns
returns c = put_same (text_parts c.args.table.now c.requires.sound) (put_join c.put_header-header.ensures c.put_rows.ensures)
