use native.Mathlib.Omega.{arith}
use mir.ValLaws.{to_z-of_z}
use Rattle.solid.proofs.triangle_box.Goals as goal

pub returns : goal.returns
returns c =
    let x = c.around-columns.ensures in
    let y = c.around-codes.ensures in
    grind (arith, to_z-of_z, x.least, x.most, y.least, y.most)
