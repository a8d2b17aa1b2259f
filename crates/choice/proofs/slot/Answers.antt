use native.Mathlib.Omega.{arith}
use mathlib.Core.Path.{refl}
use Rattle.choice.proofs.slot.Goals as goal

pub returns : goal.returns
returns c = rw c.if-within.false (refl, omega arith)
