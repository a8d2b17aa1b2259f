use native.Mathlib.Omega.{arith}
use Rattle.rules.proofs.Told.{number_bounds}
use Rattle.screen.proofs.refused_state.Goals as goal

pub overflow_add-result : goal.overflow_add-result
overflow_add-result c = record { fits = omega (arith, c.number.ensures, number_bounds c.args.rule) }

pub overflow_cast-result : goal.overflow_cast-result
overflow_cast-result c = record { fits = omega (arith, c.number.ensures, number_bounds c.args.rule) }

pub returns : goal.returns
returns c = omega (arith, c.number.ensures)
