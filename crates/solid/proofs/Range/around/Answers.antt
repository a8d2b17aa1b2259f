use native.Mathlib.Omega.{arith}
use mir.ValLaws.{to_z-of_z}
use Rattle.solid.proofs.Ends.{max_greater, min_lesser}
use Rattle.solid.proofs.Range.around.Goals as goal

pub returns-clause-least : goal.returns-clause-least
returns-clause-least c = grind (arith, to_z-of_z, min_lesser, c.min.ensures.value, c.min-2.ensures.value)

pub returns-clause-most : goal.returns-clause-most
returns-clause-most c = grind (arith, to_z-of_z, max_greater, c.max.ensures.value, c.max-2.ensures.value)
