use native.Mathlib.Omega.{arith}
use mir.ValLaws.{to_z-of_z}
use Rattle.solid.proofs.Ends.{max_greater, min_lesser}
use Rattle.fate.proofs.cut_box.Goals as goal

pub returns : goal.returns
returns c =
    let x = c.max.ensures.value in
    let x' = c.min.ensures.value in
    let y = c.max-2.ensures.value in
    let y' = c.min-2.ensures.value in
    let z = c.max-3.ensures.value in
    let z' = c.min-3.ensures.value in
    grind (arith, to_z-of_z, max_greater, min_lesser, x, x', y, y', z, z')
