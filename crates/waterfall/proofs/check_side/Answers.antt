use mathlib.Core.Path.{◌∙◌}
use mir.Syntax.{w32, w64}
use mir.ValLaws.{to_z-of_z}
use Rattle.ground.proofs.Signed.{read}
use Rattle.laws.proofs.Telling.{alone}
use Rattle.laws.proofs.Turns.{first_broken, first_kept_on}
use Rattle.waterfall.proofs.check_side.Goals as goal

pub returns-in_err-refuse_unless : goal.returns-in_err-refuse_unless
returns-in_err-refuse_unless c =
    let least = to_z-of_z w32 c.args.least c.ranges.least in
    let most = to_z-of_z w32 c.args.most c.ranges.most in
    let lo = to_z-of_z w32 c.args.lo c.ranges.lo in
    first_broken _ _ c.from_residual.ensures.1 (c.in_err-refuse_unless.ensures ∙ rw (c.between.ensures, least, lo, most))

pub returns : goal.returns
returns c =
    let least = to_z-of_z w32 c.args.least c.ranges.least in
    let most = to_z-of_z w32 c.args.most c.ranges.most in
    let lo = to_z-of_z w32 c.args.lo c.ranges.lo in
    let hi = to_z-of_z w32 c.args.hi c.ranges.hi in
    let over = read w64 c.above.type_inv c.above.ensures in
    first_kept_on _ _ (c.in_ok-refuse_unless.ensures ∙ rw (c.between.ensures, least, lo, most))
    (alone _ (c.refuse_unless-2.ensures ∙ rw (c.between-2.ensures, over, least, hi, most, lo)))
