-- i words are copied, and one more is: what is written lies past it. Assumes nothing.
use Prim.Native.Nat.{◌+◌}
use mathlib.Core.List.{List}
use mathlib.Core.Path.{◌≡◌, ap, ◌∙◌}
use native.Mathlib.Omega.{arith}
use borrow.Author.Rules.{rules}
use lib.IntN.{ℤ, pos}
use lib.ListN.{get_or, set, drop}
use lib.Seq.{paste, paste-zero}
use mir.Syntax.{w32}
use mir.Val.{to_z, of_z}
use Rattle.moves.proofs.Moving.{copied_more, copies}
use Rattle.moves.proofs.copy.Goals as goal

pub loop-i-init : goal.loop-i-init
loop-i-init c = paste-zero c.args.w.now c.args.to (drop c.args.from c.args.w.now)

pub loop-i-preserved : goal.loop-i-preserved
loop-i-preserved c =
    let from = c.args.from in
    let i = c.loop-i.i in
    let word = get_or c.loop-i.w (from + i) (pos 0) in
    let read_back : to_z w32 (of_z w32 word) ≡ word = search rules in
    ap (set c.loop-i.w (c.args.to + i)) read_back
    ∙ ap (λ (l : List ℤ). set l (c.args.to + i) (get_or l (from + i) (pos 0))) c.loop-i.invariant
    ∙ copied_more c.args.w.now from c.args.to i (omega arith) (omega arith)

pub returns : goal.returns
returns c =
    let all : c.loop-i.i ≡ c.args.n = omega arith in
    copies c.args.from c.args.to c.args.n
    (c.loop-i.invariant ∙ ap (paste c.args.w.now c.args.to (drop c.args.from c.args.w.now)) all)
