use native.Mathlib.Omega.{arith}
use mathlib.Core.Path.{sym, ap, ◌∙◌}
use lib.Seq.{length-take-le}
use mir.Syntax.{w32}
use mir.Val.{to_z, of_z}
use mir.ValLaws.{to_z-of_z}
use Rattle.rules.specs.Text.{number_text}
use Rattle.number.proofs.Digits.{few_bytes}
use Rattle.number.proofs.Reading.{confirmed}
use Rattle.number.proofs.Writing.{put_taken}
use Rattle.number.proofs.confirm.Goals as goal

pub put_number-size-requires : goal.put_number-size-requires
put_number-size-requires c = omega (arith, few_bytes (to_z w32 (of_z w32 c.args.value)))

pub slice_bounds-own-end : goal.slice_bounds-own-end
slice_bounds-own-end c = omega (arith, c.put_number-size.ensures.end, c.put_number-size.auto.text, few_bytes (to_z w32 (of_z w32 c.args.value)))

pub slice_bounds-same-end-2 : goal.slice_bounds-same-end-2
slice_bounds-same-end-2 c =
    let size = c.put_number-size in
    sym (length-take-le _ _ (omega (arith, size.ensures.end, size.auto.text, few_bytes (to_z w32 (of_z w32 c.args.value)))))

pub returns : goal.returns
returns c =
    let lent = to_z-of_z w32 c.args.value c.ranges.value in
    let own = put_taken (few_bytes (to_z w32 (of_z w32 c.args.value))) c.put_number-size.ensures in
    confirmed c.args.text.now c.args.at c.args.next (own ∙ ap number_text lent) lent c.same-right.ensures c.then_some.ensures
