use native.Mathlib.Omega.{arith}
use Rattle.accept.proofs.Checks.{half_of}
use Rattle.accept.proofs.all_of.Goals as goal

pub overflow_sub-result : goal.overflow_sub-result
overflow_sub-result c = omega (arith, half_of c.args.primitives c.requires.0 c.requires.1)

pub overflow_add-result : goal.overflow_add-result
overflow_add-result c = record { fits = omega (arith, half_of c.args.primitives c.requires.0 c.requires.1) }

pub returns : goal.returns
returns c = omega (arith, half_of c.args.primitives c.requires.0 c.requires.1)
