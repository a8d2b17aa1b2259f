use Rattle.piece.proofs.ReadPieces.{no_zone, no_end}
use Rattle.piece.proofs.read_header.Goals as goal

pub returns-in_err-zone : goal.returns-in_err-zone
returns-in_err-zone c = rw c.from_residual.ensures (no_zone c.args.text.now 0 c.in_err-zone.ensures)

pub returns-in_err-next : goal.returns-in_err-next
returns-in_err-next c =
    rw c.from_residual-in_err-next.ensures (no_end c.args.text.now 0 c.in_ok-zone.ensures c.in_ok-count.ensures c.in_err-next.ensures)
