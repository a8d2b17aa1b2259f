use native.Mathlib.Omega.{arith}
use mathlib.Core.Path.{ap, ◌∙◌}
use lib.ListN.{length, length-set}
use Rattle.rules.specs.Text.{minus}
use Rattle.number.proofs.Signs.{with_minus, without_minus}
use Rattle.number.proofs.Writing.{put_same, put_join, put_one}
use Rattle.number.proofs.put_number.Goals as goal

pub put_decimal-requires : goal.put_decimal-requires
put_decimal-requires c =
    let text = with_minus c.args.v c.ranges.v (c.from-n.ensures ∙ c.unsigned_abs.ensures.value) c.if-v-lt0.true in
    simp length-set (omega (arith, c.requires, ap length text))

pub returns-then-v-lt0 : goal.returns-then-v-lt0
returns-then-v-lt0 c =
    let text = with_minus c.args.v c.ranges.v (c.from-n.ensures ∙ c.unsigned_abs.ensures.value) c.if-v-lt0.true in
    put_same text (put_join (put_one minus c.args.text.now c.args.at) c.put_decimal.ensures)

pub put_decimal-requires-2 : goal.put_decimal-requires-2
put_decimal-requires-2 c =
    let text = without_minus c.args.v c.ranges.v (c.from-n.ensures ∙ c.unsigned_abs.ensures.value) c.if-v-lt0.false in
    omega (arith, c.requires, ap length text)

pub returns : goal.returns
returns c =
    let text = without_minus c.args.v c.ranges.v (c.from-n.ensures ∙ c.unsigned_abs.ensures.value) c.if-v-lt0.false in
    put_same text c.put_decimal-2.ensures
