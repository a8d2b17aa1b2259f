use native.Mathlib.Omega.{arith}
use mir.ValLaws.{to_z-of_z}
use Rattle.span.proofs.beside_triangle.Goals as goal

pub returns : goal.returns
returns c =
    let x = c.around-columns.ensures in
    grind (arith, to_z-of_z, x.least, x.most, c.contains.ensures, c.contains-2.ensures)
