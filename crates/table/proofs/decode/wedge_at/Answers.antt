use mir.Syntax.{w32}
use Rattle.ground.proofs.Signed.{read}
use Rattle.table.proofs.decode.wedge_at.Goals as goal

pub returns : goal.returns
returns c =
    let c3 = c.before in
    let c2 = c3.before in
    let c1 = c2.before in
    λ i. record {
      bounds = c1.box_at.ensures i;
      a = read w32 c1.word.type_inv c1.word.ensures i;
      b = read w32 c2.word-2.type_inv c2.word-2.ensures i;
      c = read w32 c3.word-3.type_inv c3.word-3.ensures i;
      d = read w32 c.word-4.type_inv c.word-4.ensures i;
    }
