use Prim.Native.Nat.{ℕ}
use mathlib.Core.Path.{◌≡◌, ◌∙◌}
use lib.IntN.{ℤ}
use mir.Syntax.{w32}
use mir.Val.{SFits, to_z, of_z}
use mir.ValLaws.{to_z-of_z}
use Rattle.std.proofs.Common.{rules}
use Rattle.ground.specs.Lists.{first_of}
use Rattle.rules.specs.Told.{Checked}
use Rattle.rules.specs.Waterfall.{side_refusals}
use Rattle.laws.specs.Checking.{checked_by}
use Rattle.laws.proofs.Turns.{part_broken, part_kept}
use Rattle.waterfall.proofs.check_rectangle.Goals as goal

-- bounds that are read back are those that were given
side : (least most lo hi : ℤ) (i : ℕ) → SFits w32 least → SFits w32 most → SFits w32 lo → SFits w32 hi → {r : Checked}
    → r ≡ checked_by (first_of (side_refusals (record { lo = to_z w32 (of_z w32 least); hi = to_z w32 (of_z w32 most) }) (record { lo = to_z w32 (of_z w32 lo); hi = to_z w32 (of_z w32 hi) }) i))
    → r ≡ checked_by (first_of (side_refusals (record { lo = least; hi = most }) (record { lo = lo; hi = hi }) i))
side least most lo hi i a b c d h = h ∙ rw (to_z-of_z w32 least a, to_z-of_z w32 most b, to_z-of_z w32 lo c, to_z-of_z w32 hi d)

pub returns-in_err-check_side : goal.returns-in_err-check_side
returns-in_err-check_side c =
    let w = c.args.w in
    let q = c.args.q in
    part_broken _ _ c.from_residual.ensures.1
    (side w.xlo w.xhi q.xlo q.xhi 0 (search rules) (search rules) (search rules) (search rules) c.in_err-check_side.ensures)

pub returns : goal.returns
returns c =
    let w = c.args.w in
    let q = c.args.q in
    part_kept _ _ (side w.xlo w.xhi q.xlo q.xhi 0 (search rules) (search rules) (search rules) (search rules) c.in_ok-check_side.ensures)
    (side w.ylo w.yhi q.ylo q.yhi 2 (search rules) (search rules) (search rules) (search rules) c.check_side-2.ensures)
