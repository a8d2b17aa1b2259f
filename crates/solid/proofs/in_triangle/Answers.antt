use native.Mathlib.Omega.{arith}
use mir.ValLaws.{to_z-of_z}
use Rattle.laws.proofs.Ranges.{x_in, y_in, triangle_corners_right}
use Rattle.solid.proofs.in_triangle.Goals as goal

pub in_corners-requires : goal.in_corners-requires
in_corners-requires c = record {
  t_value = triangle_corners_right c.args.t c.requires.t_value;
  place_value = (x_in c.args.p c.requires.p_value, y_in c.args.p c.requires.p_value);
}

pub returns-then-contains : goal.returns-then-contains
returns-then-contains c = grind (arith, to_z-of_z, c.contains.ensures, c.in_corners.ensures)

pub returns-else-contains : goal.returns-else-contains
returns-else-contains c = grind (arith, to_z-of_z, c.contains.ensures)
