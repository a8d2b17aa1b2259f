use Prim.Native.Nat.{◌*◌}
use native.Mathlib.Omega.{arith}
use mathlib.Core.Bool.{true}
use mathlib.Core.Path.{◌≡◌}
use lib.IntN.{◌*ℤ◌}
use mir.Syntax.{w64}
use mir.Val.{to_z, of_z}
use Rattle.ground.proofs.Num.{Num, mul_num}
use Rattle.rules.specs.declared.Point.{Point}
use Rattle.rules.specs.declared.WedgeShape.{WedgeShape}
use Rattle.rules.specs.Boxes.{holds, everywhere}
use Rattle.rules.specs.Fields.{wedge_right}
use Rattle.solid.proofs.Numbers.{wide_bits, y_wide, z_wide, b_wide, c_wide}
use Rattle.span.proofs.Line.across.Goals as goal

module _ (w : WedgeShape) (p : Point) (right : wedge_right w ≡ true) (range : holds everywhere p ≡ true) where
  by : Num w64 (of_z w64 (to_z w64 (wide_bits w.b) *ℤ to_z w64 (wide_bits p.y))) (w.b *ℤ p.y) (32768 * 32768)
  by = mul_num (b_wide w right) (y_wide p range) tt

  cz : Num w64 (of_z w64 (to_z w64 (wide_bits w.c) *ℤ to_z w64 (wide_bits p.z))) (w.c *ℤ p.z) (32768 * 1048576)
  cz = mul_num (c_wide w right) (z_wide p range) tt

pub returns-in-Codes : goal.returns-in-Codes
returns-in-Codes c =
    let n = cz c.args.w c.args.p c.requires.w_value c.requires.p_value in
    record { value = rw c.in-Codes.is n.reads; bounded = rw n.reads (omega (arith, n.bound)) }

pub returns-in-Frames : goal.returns-in-Frames
returns-in-Frames c =
    let n = by c.args.w c.args.p c.requires.w_value c.requires.p_value in
    record { value = rw c.in-Frames.is n.reads; bounded = rw n.reads (omega (arith, n.bound)) }
