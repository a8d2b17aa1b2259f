-- The words from i on have moved up, and one more moves: it was not written over. Assumes nothing.
use Prim.Native.Nat.{ℕ, ◌+◌, ◌-◌}
use mathlib.Core.List.{List}
use mathlib.Core.Path.{◌≡◌, ap, ◌∙◌}
use native.Mathlib.Omega.{arith}
use borrow.Author.Rules.{rules}
use lib.IntN.{ℤ, pos}
use lib.ListN.{get_or, set}
use mir.Syntax.{w32}
use mir.Val.{to_z, of_z}
use Rattle.std.specs.List.{copy_within}
use Rattle.moves.proofs.Moving.{moved_none, moved_more, opened}
use Rattle.moves.proofs.make_room.Goals as goal

pub loop-i-init : goal.loop-i-init
loop-i-init c = (omega arith, moved_none c.args.w.now c.args.k c.args.end)

pub loop-i-preserved : goal.loop-i-preserved
loop-i-preserved c =
    let w = c.args.w.now in
    let k = c.args.k in
    let i = c.loop-i.i - 1 in
    let on : c.loop-i.i ≡ i + 1 = omega arith in
    let so_far : c.loop-i.w ≡ copy_within w (i + 1) c.args.end (i + 1 + k) =
    c.loop-i.invariant.1 ∙ ap (λ (j : ℕ). copy_within w j c.args.end (j + k)) on in
    let word = get_or c.loop-i.w i (pos 0) in
    let read_back : to_z w32 (of_z w32 word) ≡ word = search rules in (
      omega arith,
      ap (set c.loop-i.w (i + k)) read_back ∙ ap (λ (l : List ℤ). set l (i + k) (get_or l i (pos 0))) so_far
          ∙ moved_more w i k c.args.end (omega arith) (omega arith) (omega arith),
    )

pub returns : goal.returns
returns c =
    let all : c.loop-i.i ≡ c.args.at = omega arith in
    opened c.args.at c.args.k c.args.end
    (c.loop-i.invariant.1 ∙ ap (λ (i : ℕ). copy_within c.args.w.now i c.args.end (i + c.args.k)) all) (omega arith)
