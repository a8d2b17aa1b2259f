use mir.Syntax.{w32}
use Rattle.ground.proofs.Signed.{read}
use Rattle.table.proofs.decode.triangle_at.Goals as goal

pub returns : goal.returns
returns c =
    let c4 = c.before in
    let c3 = c4.before in
    let c2 = c3.before in
    let c1 = c2.before in
    λ i. record {
      first = c1.corner_at.ensures i;
      second = c2.corner_at-2.ensures i;
      third = c3.corner_at-3.ensures i;
      zlo = read w32 c4.word.type_inv c4.word.ensures i;
      zhi = read w32 c.word-2.type_inv c.word-2.ensures i;
    }
