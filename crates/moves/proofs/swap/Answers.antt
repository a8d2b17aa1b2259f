use Prim.Native.Nat.{◌+◌, ◌*◌}
use mathlib.Core.List.{[], ◌∷◌}
use mathlib.Core.Path.{◌∙◌, ap}
use lib.IntN.{pos}
use lib.Seq.{sets}
use Rattle.moves.proofs.Parts.{put_as, swapped}
use Rattle.moves.proofs.swap.Goals as goal

pub returns : goal.returns
returns c =
    let at = c.args.at in
    let first = c.args.first in
    λ a x y e k q is ha hx hy.
    swapped a x y e k q (pos c.args.z) is ha hx hy c.make_room.ensures
    (put_as _ at (21 + 32 * (first + 2)) (20 + 32 * first) c.word.ensures.value c.word-2.ensures.value
    (c.put-2.ensures ∙ ap (λ l. sets l at (pos c.word.result ∷ pos c.word-2.result ∷ [])) c.put.ensures))
