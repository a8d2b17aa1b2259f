use Prim.Native.Nat.{◌+◌, ◌-◌, ◌*◌}
use Rattle.moves.specs.Moves.{operation_number}
use Rattle.moves.proofs.Parts.{put_as, leaned}
use Rattle.moves.proofs.lean.Goals as goal

pub returns : goal.returns
returns c =
    let at = c.args.at in
    let first = c.args.right - at - 1 in
    leaned c.args.middle (operation_number c.args.p) (operation_number c.args.r) c.make_room.ensures
    (put_as _ at (operation_number c.args.p + 32 * (first + c.args.middle + 1)) (operation_number c.args.r + 32 * first) c.word.ensures.value c.word-2.ensures.value c.put.ensures)
