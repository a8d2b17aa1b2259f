use native.Mathlib.Omega.{arith}
use mathlib.Core.Bool.{◌&&◌}
use mathlib.Core.Path.{◌∙◌}
use lib.IntN.{pos}
use lib.Signed.{le_z, lt_z}
use mir.Syntax.{w32}
use mir.ValLaws.{to_z-of_z, to_z_pos}
use Rattle.table.proofs.Rows.{earlier_read}
use Rattle.table.proofs.fields.is_earlier.Goals as goal

pub returns : goal.returns
returns c =
    let child = to_z-of_z w32 c.args.child c.ranges.child in
    let row = to_z_pos w32 c.args.row (omega (arith, c.requires)) in
    (λ i. le_z (pos 0) (child i) && lt_z (child i) (row i)) ∙ earlier_read c.args.row c.args.child
