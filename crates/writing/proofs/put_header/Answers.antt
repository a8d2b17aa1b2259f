use native.Mathlib.Omega.{arith}
use mathlib.Core.Path.{sym}
use Rattle.number.proofs.Writing.{put_same, put_size, put_join}
use Rattle.writing.proofs.Written.{count_text, header_size}
use Rattle.writing.proofs.put_header.Goals as goal

pub put_decimal-count-requires : goal.put_decimal-count-requires
put_decimal-count-requires c =
    let name = c.put_bytes-name.ensures in
    omega (arith, c.requires.room, header_size c.args.rows c.requires.rows_le_most_rows, name.end, put_size name)

pub put_bytes-requires : goal.put_bytes-requires
put_bytes-requires c =
    let name = c.put_bytes-name.ensures in
    let digits = c.put_decimal-count.ensures in
    omega (arith, c.requires.room, header_size c.args.rows c.requires.rows_le_most_rows, name.end, put_size name, digits.end, put_size digits)

pub returns : goal.returns
returns c =
    let digits = put_same (sym (count_text c.args.rows c.requires.rows_le_most_rows)) c.put_decimal-count.ensures in
    put_join c.put_bytes-name.ensures (put_join digits c.put_bytes.ensures)
