use native.Mathlib.Omega.{arith}
use Rattle.piece.proofs.ReadPieces.{no_room, bytes_read}
use Rattle.piece.proofs.read_bytes.Goals as goal

pub returns-then-text-at : goal.returns-then-text-at
returns-then-text-at c = no_room c.args.text.now c.args.at c.requires c.if-text-at.true

pub returns : goal.returns
returns c = bytes_read c.args.text.now c.args.at c.args.bytes.now (omega arith) c.eq-right.ensures c.then_some.ensures
