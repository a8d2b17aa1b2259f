use native.Mathlib.Omega.{arith}
use mir.ValLaws.{to_z-of_z}
use Rattle.laws.proofs.Ranges.{x_in, y_in, cx_in, cy_in, rx_in, ry_in}
use Rattle.solid.proofs.in_drum.Goals as goal

pub in_ellipse-requires : goal.in_ellipse-requires
in_ellipse-requires c =
    let d = c.args.d in
    let p = c.args.p in
    let h = c.requires.d_value in
    let k = c.requires.p_value in
    record {
      centre_value = grind (arith, to_z-of_z, cx_in d h, cy_in d h);
      radii_value = grind (arith, to_z-of_z, rx_in d h, ry_in d h);
      place_value = grind (arith, to_z-of_z, x_in p k, y_in p k);
    }

pub returns-then-contains : goal.returns-then-contains
returns-then-contains c = grind (arith, to_z-of_z, c.contains.ensures, c.in_ellipse.ensures)

pub returns-else-contains : goal.returns-else-contains
returns-else-contains c = grind (arith, to_z-of_z, c.contains.ensures)
