use Rattle.piece.proofs.ReadPieces.{no_tab, field_read}
use Rattle.piece.proofs.read_field.Goals as goal

pub returns-in_err-tab : goal.returns-in_err-tab
returns-in_err-tab c = rw c.from_residual.ensures (no_tab c.args.text.now c.args.at c.in_err-tab.ensures)

pub returns : goal.returns
returns c = field_read c.args.text.now c.args.at c.in_ok-tab.ensures c.read_number.ensures
