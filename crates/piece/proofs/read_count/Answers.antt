use native.Mathlib.Omega.{arith}
use mathlib.Core.Path.{◌≡◌, sym, ap, ◌∙◌}
use lib.IntN.{pos, nat_abs}
use mir.Syntax.{w32}
use mir.ValLaws.{to_z-of_z}
use Rattle.piece.proofs.ReadPieces.{no_count_field, no_count, count_read, size_refused, size_read, is_size}
use Rattle.piece.proofs.read_count.Goals as goal

pub returns-in_err-field : goal.returns-in_err-field
returns-in_err-field c = rw c.from_residual.ensures (no_count_field c.args.text.now c.args.at c.in_err-field.ensures)

pub returns-in_err-rows : goal.returns-in_err-rows
returns-in_err-rows c =
    let field = c.in_ok-field.ensures in
    let held = to_z-of_z w32 c.in_ok-field.field.value (record { sfits = field.proper.fits }) in
    let negative = size_refused _ c.try_from.result c.in_err-rows.ensures.value c.try_from.ensures in
    rw c.from_residual-in_err-rows.ensures (no_count c.args.text.now c.args.at field (λ n right is. negative (rw (held ∙ is) (omega (arith, right.not_over)))))

pub returns-then-rows-eq0 : goal.returns-then-rows-eq0
returns-then-rows-eq0 c =
    let field = c.in_ok-field.ensures in
    let held = to_z-of_z w32 c.in_ok-field.field.value (record { sfits = field.proper.fits }) in
    let size = (size_read c.try_from.result c.in_ok-rows.ensures.value c.try_from.ensures).1 in
    no_count c.args.text.now c.args.at field (λ n right is.
    let rows : c.in_ok-rows.rows ≡ n = size ∙ ap nat_abs (held ∙ is) in
    omega (arith, right.some_row, right.not_over, rows, c.then-rows-eq0.either))

pub returns : goal.returns
returns c =
    let field = c.in_ok-field.ensures in
    let held = to_z-of_z w32 c.in_ok-field.field.value (record { sfits = field.proper.fits }) in
    let size = size_read c.try_from.result c.in_ok-rows.ensures.value c.try_from.ensures in
    let is = sym held ∙ is_size _ size.0 ∙ ap pos (sym size.1) in
    count_read c.args.text.now c.args.at field is (record { some_row = omega arith; not_over = omega arith })
