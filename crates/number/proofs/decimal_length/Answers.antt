use native.Mathlib.Omega.{arith}
use mathlib.Core.Path.{ap}
use lib.ListN.{length}
use Rattle.rules.proofs.Numbers.{few_digits}
use Rattle.number.proofs.Digits.{one_digit, more_digits}
use Rattle.number.proofs.decimal_length.Goals as goal

pub loop-left-init : goal.loop-left-init
loop-left-init c = omega arith

pub overflow_add-digits : goal.overflow_add-digits
overflow_add-digits c = omega (arith, few_digits 20 c.args.n)

pub loop-left-smaller : goal.loop-left-smaller
loop-left-smaller c = omega arith

pub loop-left-preserved : goal.loop-left-preserved
loop-left-preserved c = omega (arith, more_digits c.loop-left.left (omega arith) (omega arith))

pub returns : goal.returns
returns c = omega (arith, ap length (one_digit c.loop-left.left (omega arith)))
