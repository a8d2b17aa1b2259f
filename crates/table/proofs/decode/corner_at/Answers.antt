use mir.Syntax.{w32}
use Rattle.ground.proofs.Signed.{read}
use Rattle.table.proofs.decode.corner_at.Goals as goal

pub returns : goal.returns
returns c = λ i. record { x = read w32 c.word.type_inv c.word.ensures i; y = read w32 c.word-2.type_inv c.word-2.ensures i }
