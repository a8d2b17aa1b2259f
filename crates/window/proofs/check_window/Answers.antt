use mathlib.Core.Path.{◌≡◌, ◌∙◌}
use lib.IntN.{ℤ}
use Prim.Native.Nat.{ℕ}
use mir.Syntax.{w32}
use mir.Val.{SFits, to_z, of_z}
use mir.ValLaws.{to_z-of_z}
use Rattle.std.proofs.Common.{rules}
use Rattle.ground.specs.Lists.{first_of}
use Rattle.rules.specs.declared.Axis.{Axis}
use Rattle.rules.specs.declared.Axis.TheVariants.{Column, Code, Frame}
use Rattle.rules.specs.ListCalls.{edges_refusals}
use Rattle.rules.specs.Told.{Checked}
use Rattle.laws.specs.Checking.{checked_by}
use Rattle.laws.proofs.Turns.{part_broken, part_kept}
use Rattle.window.proofs.check_window.Goals as goal

-- bounds that are read back are the window's own
edges : (axis : Axis) (i : ℕ) (lo hi : ℤ) → SFits w32 lo → SFits w32 hi → {r : Checked}
    → r ≡ checked_by (first_of (edges_refusals axis (to_z w32 (of_z w32 lo)) (to_z w32 (of_z w32 hi)) i)) → r ≡ checked_by (first_of (edges_refusals axis lo hi i))
edges axis i lo hi e f h = h ∙ rw (to_z-of_z w32 lo e, to_z-of_z w32 hi f)

pub returns-in_err-check_edges : goal.returns-in_err-check_edges
returns-in_err-check_edges c =
    part_broken (edges_refusals Column c.args.w.xlo c.args.w.xhi 0) _ c.from_residual.ensures.1
    (edges Column 0 c.args.w.xlo c.args.w.xhi (search rules) (search rules) c.in_err-check_edges.ensures)

pub returns-in_err-check_edges-2 : goal.returns-in_err-check_edges-2
returns-in_err-check_edges-2 c =
    part_kept (edges_refusals Column c.args.w.xlo c.args.w.xhi 0) _ (edges Column 0 c.args.w.xlo c.args.w.xhi (search rules) (search rules) c.in_ok-check_edges.ensures)
    (part_broken (edges_refusals Code c.args.w.ylo c.args.w.yhi 2) _ c.from_residual-in_err-check_edges-2.ensures.1
    (edges Code 2 c.args.w.ylo c.args.w.yhi (search rules) (search rules) c.in_err-check_edges-2.ensures))

pub returns : goal.returns
returns c =
    part_kept (edges_refusals Column c.args.w.xlo c.args.w.xhi 0) _ (edges Column 0 c.args.w.xlo c.args.w.xhi (search rules) (search rules) c.in_ok-check_edges.ensures)
    (part_kept (edges_refusals Code c.args.w.ylo c.args.w.yhi 2) _ (edges Code 2 c.args.w.ylo c.args.w.yhi (search rules) (search rules) c.in_ok-check_edges-2.ensures)
    (edges Frame 4 c.args.w.zlo c.args.w.zhi (search rules) (search rules) c.check_edges-3.ensures))
