use native.Mathlib.Omega.{arith}
use mathlib.Core.List.{flat_map}
use mathlib.Core.Path.{refl, ap}
use Prim.Native.Nat.{ℕ}
use lib.ListN.{length}
use Rattle.ground.specs.Lists.{from}
use Rattle.laws.proofs.Texts.{text_short}
use Rattle.writing.specs.Writing.{line_at, lines_to}
use Rattle.writing.proofs.Writes.{longer, piece_fits}
use Rattle.writing.proofs.Written.{lines_grow, text_size}
use Rattle.writing.proofs.rows_length.Goals as goal

pub loop-row-init : goal.loop-row-init
unfolding lines_to from flat_map
loop-row-init c = refl

pub overflow_add-size : goal.overflow_add-size
overflow_add-size c =
    let t = c.args.table.now in
    let l = c.loop-row in
    let part = piece_fits (lines_to t) (line_at t) (lines_grow t) l.row c.args.rows (omega arith) in
    let all = ap (λ (n : ℕ). length (lines_to t n)) c.requires.1 in
    record { fits = omega (arith, l.invariant, c.row_length-size.ensures, part, all, text_size t c.requires.0, text_short t c.requires.0) }

pub loop-row-preserved : goal.loop-row-preserved
loop-row-preserved c =
    let t = c.args.table.now in
    omega (arith, c.loop-row.invariant, c.row_length-size.ensures, longer (lines_to t) (line_at t) (lines_grow t) c.loop-row.row)
