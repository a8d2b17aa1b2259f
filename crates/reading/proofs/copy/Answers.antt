-- Words are pasted in, one by one. Assumes nothing.
use Prim.Native.Nat.{◌+◌}
use mathlib.Core.List.{◌++◌}
use mathlib.Core.Path.{◌≡◌, ap, ◌∙◌}
use native.Mathlib.Omega.{arith}
use borrow.Author.Rules.{rules}
use lib.IntN.{pos}
use lib.ListN.{length, get_or, set, drop}
use lib.Seq.{paste-zero}
use mir.Syntax.{w32}
use mir.Val.{to_z, of_z}
use Rattle.std.proofs.lemmas.List.Edits.{paste_more, paste_all}
use Rattle.reading.proofs.copy.Goals as goal

pub loop-i-init : goal.loop-i-init
loop-i-init c = paste-zero c.args.table.now 0 c.args.words.now

pub loop-i-preserved : goal.loop-i-preserved
loop-i-preserved c =
    let i = c.loop-i.i in
    let word = get_or c.args.words.now i (pos 0) in
    let read_back : to_z w32 (of_z w32 word) ≡ word = search rules in
    let place : i ≡ 0 + i = omega arith in
    (λ j. set (c.loop-i.invariant j) (place j) (read_back j)) ∙ paste_more c.args.table.now 0 c.args.words.now i (pos 0) (omega arith) (omega arith)

pub returns : goal.returns
returns c =
    let words = c.args.words.now in
    let all : 0 + c.loop-i.i ≡ length words = omega arith in
    c.loop-i.invariant ∙ paste_all c.args.table.now 0 words c.loop-i.i (omega arith) ∙ ap (λ n. words ++ drop n c.args.table.now) all
