use mir.Syntax.{w32}
use Rattle.ground.proofs.Signed.{zero_yes, zero_no}
use mathlib.Core.Path.{sym, ◌∙◌}
use Rattle.ground.proofs.Counting.{all_yes, all_no, all_done}
use Rattle.table.proofs.fields.spare_right.Invariants.{is_zero}
use Rattle.table.proofs.fields.spare_right.Goals as goal

pub returns-then-word-ne0 : goal.returns-then-word-ne0
returns-then-word-ne0 c =
    sym (c.loop-k.invariant ∙ all_no (is_zero c.args.table.now c.args.row) _ 12 c.loop-k-test.true (zero_no w32 c.word.type_inv c.word.ensures c.if-word-ne0.true))

pub loop-k-preserved : goal.loop-k-preserved
loop-k-preserved c =
    c.loop-k.invariant ∙ all_yes (is_zero c.args.table.now c.args.row) _ 12 c.loop-k-test.true (zero_yes w32 c.word.type_inv c.word.ensures c.if-word-ne0.false)

pub returns : goal.returns
returns c = sym (c.loop-k.invariant ∙ all_done (is_zero c.args.table.now c.args.row) _ 12 c.loop-k-test.false)
