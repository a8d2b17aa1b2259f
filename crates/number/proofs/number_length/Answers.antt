use native.Mathlib.Omega.{arith}
use mathlib.Core.Path.{◌∙◌}
use Rattle.number.proofs.Digits.{few_bytes}
use Rattle.number.proofs.Signs.{signed_size}
use Rattle.number.proofs.number_length.Goals as goal

pub overflow_add-result : goal.overflow_add-result
overflow_add-result c =
    record { fits = omega (arith, c.decimal_length.ensures, c.from-2.ensures, signed_size c.args.v c.ranges.v (c.from.ensures ∙ c.unsigned_abs.ensures.value), few_bytes c.args.v) }

pub returns : goal.returns
returns c = omega (arith, c.decimal_length.ensures, c.from-2.ensures, signed_size c.args.v c.ranges.v (c.from.ensures ∙ c.unsigned_abs.ensures.value))
