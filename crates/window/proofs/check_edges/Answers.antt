use mathlib.Core.Path.{◌∙◌}
use mir.Syntax.{w32}
use mir.ValLaws.{to_z-of_z}
use Rattle.laws.proofs.Telling.{alone}
use Rattle.laws.proofs.Turns.{first_broken, first_kept_on}
use Rattle.window.proofs.check_edges.Goals as goal

pub returns-in_err-refuse_unless : goal.returns-in_err-refuse_unless
returns-in_err-refuse_unless c =
    first_broken _ _ c.from_residual.ensures.1 (c.in_err-refuse_unless.ensures ∙ rw (c.contains.ensures, to_z-of_z w32 c.args.lo c.ranges.lo))

pub returns : goal.returns
returns c =
    first_kept_on _ _ (c.in_ok-refuse_unless.ensures ∙ rw (c.contains.ensures, to_z-of_z w32 c.args.lo c.ranges.lo))
    (alone _ (c.refuse_unless-2.ensures ∙ rw (c.contains-2.ensures, to_z-of_z w32 c.args.lo c.ranges.lo, to_z-of_z w32 c.args.hi c.ranges.hi)))
