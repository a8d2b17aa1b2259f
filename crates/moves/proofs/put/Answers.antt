-- One word more; it fits a word of the area, and so is written as it is. Assumes nothing.
use Prim.Native.Nat.{◌+◌, ◌<◌}
use mathlib.Core.List.{List}
use mathlib.Core.Path.{◌≡◌, ap, ◌∙◌}
use native.Mathlib.Omega.{arith}
use lib.IntN.{ℤ, pos}
use lib.ListN.{get_or, length, set}
use mir.Syntax.{w32}
use mir.Val.{to_z}
use mir.ValLaws.{to_z-of_z}
use Rattle.moves.specs.Moves.{IsWord}
use Rattle.moves.proofs.Moving.{put_more}
use Rattle.moves.proofs.put.Goals as goal

pub loop-i-preserved : goal.loop-i-preserved
loop-i-preserved c =
    let at = c.args.at in
    let xs = c.args.words.now in
    let i = c.loop-i.i in
    let h : i < length xs = omega arith in
    let k : IsWord (get_or xs i 0) = c.requires.are_words i h in
    let z : to_z w32 (get_or xs i 0) ≡ pos (get_or xs i 0) = to_z-of_z w32 (pos (get_or xs i 0)) (record { sfits = omega arith }) in
    ap (λ (y : ℤ). set c.loop-i.w (at + i) y) z
    ∙ ap (λ (l : List ℤ). set l (at + i) (pos (get_or xs i 0))) c.loop-i.invariant ∙ put_more c.args.w.now at i xs h
