use mir.Syntax.{w32}
use Rattle.ground.proofs.Signed.{read}
use Rattle.table.proofs.decode.drum_at.Goals as goal

pub returns : goal.returns
returns c =
    let c5 = c.before in
    let c4 = c5.before in
    let c3 = c4.before in
    let c2 = c3.before in
    let c1 = c2.before in
    λ i. record {
      cx = read w32 c1.word.type_inv c1.word.ensures i;
      cy = read w32 c2.word-2.type_inv c2.word-2.ensures i;
      rx = read w32 c3.word-3.type_inv c3.word-3.ensures i;
      ry = read w32 c4.word-4.type_inv c4.word-4.ensures i;
      zlo = read w32 c5.word-5.type_inv c5.word-5.ensures i;
      zhi = read w32 c.word-6.type_inv c.word-6.ensures i;
    }
