use mathlib.Core.Path.{◌≡◌, ◌∙◌}
use mathlib.Core.Bool.{Bool, false}
use mathlib.Core.List.{List}
use lib.IntN.{ℤ}
use mir.Syntax.{w32}
use mir.Val.{SFits, to_z, of_z}
use mir.ValLaws.{to_z-of_z}
use lib.ListN.{length}
use Rattle.std.proofs.Common.{rules}
use Rattle.ground.specs.Lists.{all_of, below}
use Rattle.rules.specs.declared.Place.{Place}
use Rattle.rules.specs.declared.Rule.TheVariants as rule
use Rattle.rules.specs.Frame.{column}
use Rattle.rules.specs.Ranges.{within, columns}
use Rattle.rules.specs.Refusals.{refuse_unless}
use Rattle.rules.specs.Told.{Checked}
use Rattle.laws.proofs.Soundness.{if_kept}
use Rattle.laws.proofs.Telling.{alone, went_on}
use Rattle.laws.proofs.Turns.{first_broken, first_kept_on}
use Rattle.laws.specs.Checking.{checked_by}
use Rattle.frame.specs.Tallies.{columns_right}
use Rattle.frame.proofs.Frames.{wrong_length, by_ends}
use Rattle.frame.proofs.check_frame.Goals as goal

-- the columns were tested by their two ends, of the first as it is read back
all_columns : (samples : List ℤ) (place : Place) → SFits w32 place.first → wrong_length samples place ≡ false
    → {t : Bool} → t ≡ columns_right (to_z w32 (of_z w32 place.first)) (length samples) → {r : Checked} → r ≡ checked_by (refuse_unless t rule.Frame 1)
    → r ≡ checked_by (refuse_unless (all_of (λ k. within columns (column place k)) (below (length samples))) rule.Frame 1)
all_columns samples place f l h told = told ∙ rw (h, to_z-of_z w32 place.first f, by_ends samples place l)

pub returns-in_err-refuse_if : goal.returns-in_err-refuse_if
returns-in_err-refuse_if c = first_broken _ _ c.from_residual.ensures.1 c.in_err-refuse_if.ensures

pub returns-in_err-refuse_unless : goal.returns-in_err-refuse_unless
returns-in_err-refuse_unless c =
    let l = if_kept _ _ _ (went_on _ c.in_ok-refuse_if.ensures) in
    first_kept_on _ _ c.in_ok-refuse_if.ensures
    (first_broken _ _ c.from_residual-in_err-refuse_unless.ensures.1
    (all_columns c.args.samples.now c.args.place (search rules) l c.columns_right.ensures c.in_err-refuse_unless.ensures))

pub returns : goal.returns
returns c =
    let f : SFits w32 c.args.place.frame = search rules in
    let l = if_kept _ _ _ (went_on _ c.in_ok-refuse_if.ensures) in
    first_kept_on _ _ c.in_ok-refuse_if.ensures
    (first_kept_on _ _ (all_columns c.args.samples.now c.args.place (search rules) l c.columns_right.ensures c.in_ok-refuse_unless.ensures)
    (alone _ (c.refuse_unless-2.ensures ∙ rw (c.contains.ensures, to_z-of_z w32 c.args.place.frame f))))
