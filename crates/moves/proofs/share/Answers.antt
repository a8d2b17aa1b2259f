use Prim.Native.Nat.{◌+◌, ◌-◌, ◌*◌}
use mathlib.Core.Path.{refl}
use lib.IntN.{pos}
use Rattle.moves.specs.Moves.{operation_number}
use Rattle.moves.proofs.Parts.{put_as, shared}
use Rattle.moves.proofs.share.Goals as goal

pub returns : goal.returns
returns c =
    let at = c.args.at in
    let first = c.args.first in
    let right = c.args.right in
    let place = at + 2 + first in
    let k = operation_number c.args.k in
    λ a x y e d h q is ha hx hy hu. (
      refl,
      shared k a x y e d h q (pos c.args.z) is ha hx hy hu c.make_room.ensures
          (put_as _ place c.args.z (k + 32 * (right - place)) refl c.word.ensures.value c.put.ensures)
          (put_as _ at (19 + 32 * (first + 2)) (k + 32 * first) c.word-2.ensures.value c.word-3.ensures.value c.put-2.ensures),
    )
