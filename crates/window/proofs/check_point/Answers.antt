use mathlib.Core.Path.{◌≡◌, ◌∙◌}
use mathlib.Core.Bool.{Bool}
use lib.IntN.{ℤ}
use Prim.Native.Nat.{ℕ}
use mir.Syntax.{w32}
use mir.Val.{SFits}
use Rattle.std.proofs.Common.{rules}
use Rattle.rules.specs.declared.Rule.TheVariants.{Outside}
use Rattle.rules.specs.Ranges.{within}
use Rattle.rules.specs.Refusals.{refuse_unless}
use Rattle.rules.specs.Told.{Checked}
use Rattle.laws.specs.Checking.{checked_by}
use Rattle.laws.proofs.Telling.{alone}
use Rattle.laws.proofs.Turns.{first_broken, first_kept_on}
use Rattle.window.proofs.Reread.{between, axis}
use Rattle.window.proofs.check_point.Goals as goal

-- the rule of an axis, from the answer about the numbers as they are read back
ruled : (i : ℕ) (lo v hi : ℤ) → SFits w32 lo → SFits w32 v → SFits w32 hi → {t : Bool} → t ≡ between lo v hi → {r : Checked}
    → r ≡ checked_by (refuse_unless t Outside i) → r ≡ checked_by (refuse_unless (within (record { lo = lo; hi = hi }) v) Outside i)
ruled i lo v hi e f g h told = told ∙ rw (h, axis e f g)

pub returns-in_err-refuse_unless : goal.returns-in_err-refuse_unless
returns-in_err-refuse_unless c =
    first_broken _ _ c.from_residual.ensures.1 (ruled 0 c.args.w.xlo c.args.p.x c.args.w.xhi (search rules) (search rules) (search rules) c.between.ensures c.in_err-refuse_unless.ensures)

pub returns-in_err-refuse_unless-2 : goal.returns-in_err-refuse_unless-2
returns-in_err-refuse_unless-2 c =
    first_kept_on _ _ (ruled 0 c.args.w.xlo c.args.p.x c.args.w.xhi (search rules) (search rules) (search rules) c.between.ensures c.in_ok-refuse_unless.ensures)
    (first_broken _ _ c.from_residual-in_err-refuse_unless-2.ensures.1 (ruled 1 c.args.w.ylo c.args.p.y c.args.w.yhi (search rules) (search rules) (search rules) c.between-2.ensures c.in_err-refuse_unless-2.ensures))

pub returns : goal.returns
returns c =
    first_kept_on _ _ (ruled 0 c.args.w.xlo c.args.p.x c.args.w.xhi (search rules) (search rules) (search rules) c.between.ensures c.in_ok-refuse_unless.ensures)
    (first_kept_on _ _ (ruled 1 c.args.w.ylo c.args.p.y c.args.w.yhi (search rules) (search rules) (search rules) c.between-2.ensures c.in_ok-refuse_unless-2.ensures)
    (alone _ (ruled 2 c.args.w.zlo c.args.p.z c.args.w.zhi (search rules) (search rules) (search rules) c.between-3.ensures c.refuse_unless-3.ensures)))
