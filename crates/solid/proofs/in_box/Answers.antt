use native.Mathlib.Omega.{arith}
use mir.ValLaws.{to_z-of_z}
use Rattle.solid.proofs.in_box.Goals as goal

pub returns : goal.returns
returns c = grind (arith, to_z-of_z, c.contains.ensures, c.contains-2.ensures, c.contains-3.ensures)
