-- Each word before i is 0. Assumes nothing.
use mathlib.Core.List.{List}
use mathlib.Core.Path.{◌≡◌, ap, ◌∙◌}
use native.Mathlib.Omega.{arith}
use lib.IntN.{ℤ, pos}
use lib.ListN.{set}
use lib.Seq.{sets}
use Rattle.finished.specs.Rows.{zeros}
use Rattle.finished.proofs.Laws.{no_zeros, clear_more}
use Rattle.finished.proofs.clear.Goals as goal

pub loop-i-init : goal.loop-i-init
loop-i-init c = no_zeros c.args.w.now

pub loop-i-preserved : goal.loop-i-preserved
loop-i-preserved c = ap (λ (l : List ℤ). set l c.loop-i.i (pos 0)) c.loop-i.invariant ∙ clear_more c.args.w.now c.loop-i.i

pub returns : goal.returns
returns c =
    let all : c.loop-i.i ≡ c.args.n = omega arith in
    c.loop-i.invariant ∙ ap (λ n. sets c.args.w.now 0 (zeros n)) all
