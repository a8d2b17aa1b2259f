use native.Mathlib.Omega.{arith}
use Rattle.number.proofs.Writing.{none_spelt, one_spelt, nine_left, all_spelt}
use Rattle.number.proofs.put_decimal.Goals as goal

pub loop-power-init : goal.loop-power-init
loop-power-init c = none_spelt c.args.n (omega arith) c.highest_power-power.ensures c.args.text.now c.args.at

pub loop-power-preserved : goal.loop-power-preserved
loop-power-preserved c = one_spelt c.loop-power.invariant (omega arith) (omega arith) (omega arith)

pub overflow_cast-text-2 : goal.overflow_cast-text-2
overflow_cast-text-2 c = omega (arith, nine_left c.loop-power.invariant (omega arith))

pub overflow_add-text-2 : goal.overflow_add-text-2
overflow_add-text-2 c = omega (arith, nine_left c.loop-power.invariant (omega arith))

pub returns : goal.returns
returns c = all_spelt c.loop-power.invariant (omega arith) (omega arith)
