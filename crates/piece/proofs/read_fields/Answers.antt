use native.Mathlib.Omega.{arith}
use lib.ListN.{length-set}
use mir.Syntax.{w32}
use mir.ValLaws.{to_z-of_z}
use Rattle.piece.proofs.ReadPieces.{none_begun, no_field, one_begun, all_begun}
use Rattle.piece.proofs.read_fields.Goals as goal

pub loop-place-init : goal.loop-place-init
loop-place-init c = none_begun c.args.text.now c.args.at c.args.places.now c.requires

pub returns-in_err-field : goal.returns-in_err-field
returns-in_err-field c =
    let l = c.loop-place in
    rw c.from_residual.ensures (simp length-set (no_field c.args.text.now c.args.at l.invariant (omega arith) c.in_err-field.ensures))

pub loop-place-preserved : goal.loop-place-preserved
loop-place-preserved c =
    let l = c.loop-place in
    let field = c.in_ok-field.ensures in
    let held = to_z-of_z w32 c.in_ok-field.field.value (record { sfits = field.proper.fits }) in
    rw held (one_begun c.args.text.now c.args.at l.invariant (omega arith) field)

pub returns : goal.returns
returns c = all_begun c.args.text.now c.args.at c.loop-place.invariant c.requires (omega arith)
