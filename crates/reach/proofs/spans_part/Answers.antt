use native.Mathlib.Omega.{arith}
use mir.ValLaws.{to_z-of_z}
use Rattle.solid.proofs.Ends.{max_greater, min_lesser}
use Rattle.reach.proofs.spans_part.Goals as goal

pub returns : goal.returns
returns c =
    let lo = c.max-lo.ensures.value in
    let hi = c.min-hi.ensures.value in
    grind (arith, to_z-of_z, max_greater, min_lesser, lo, hi)
