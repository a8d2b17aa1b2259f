use native.Mathlib.Omega.{arith}
use mathlib.Core.List.{flat_map}
use Rattle.ground.specs.Lists.{from}
use Rattle.number.proofs.Writing.{put_none, put_size}
use Rattle.writing.specs.Writing.{line_at, lines_to}
use Rattle.writing.proofs.Writes.{piece_fits, put_next}
use Rattle.writing.proofs.Written.{lines_grow}
use Rattle.writing.proofs.put_rows.Goals as goal

pub loop-row-init : goal.loop-row-init
unfolding lines_to from flat_map
loop-row-init c = put_none c.args.text.now c.args.at

pub put_row-next-requires-clause-room : goal.put_row-next-requires-clause-room
put_row-next-requires-clause-room c =
    let t = c.args.table.now in
    let l = c.loop-row in
    let part = piece_fits (lines_to t) (line_at t) (lines_grow t) l.row c.args.rows (omega arith) in
    omega (arith, c.requires.room, l.invariant.end, put_size l.invariant)

pub loop-row-preserved : goal.loop-row-preserved
loop-row-preserved c =
    let t = c.args.table.now in
    put_next (lines_to t) (line_at t) (lines_grow t) c.loop-row.row c.loop-row.invariant c.put_row-next.ensures
