use native.Mathlib.Omega.{arith}
use mir.ValLaws.{to_z-of_z}
use Rattle.span.proofs.Line.meets.Goals as goal

pub returns-in-Codes : goal.returns-in-Codes
returns-in-Codes c = grind (arith, to_z-of_z, c.in-Codes.is, c.contains-column.ensures, c.contains.ensures)

pub returns-in-Frames : goal.returns-in-Frames
returns-in-Frames c = grind (arith, to_z-of_z, c.in-Frames.is, c.contains-column.ensures, c.contains-in-Frames.ensures)
