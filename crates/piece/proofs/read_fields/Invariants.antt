use Rattle.piece.proofs.ReadPieces.{FieldsBegun}
use Rattle.piece.proofs.read_fields.Given as goal

abbrev pub invariant-loop-place : goal.invariant-loop-place
invariant-loop-place l = FieldsBegun l.text l.at l.places l.place-index l.next
