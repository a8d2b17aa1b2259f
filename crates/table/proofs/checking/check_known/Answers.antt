use mathlib.Core.Path.{◌∙◌}
use Rattle.laws.proofs.Turns.{first_broken, first_kept_on}
use Rattle.laws.proofs.Telling.{alone}
use Rattle.table.proofs.checking.check_known.Goals as goal

pub returns-in_err-refuse_unless : goal.returns-in_err-refuse_unless
returns-in_err-refuse_unless c =
    first_broken _ _ c.from_residual.ensures.1 (c.in_err-refuse_unless.ensures ∙ rw (c.fields_right.ensures, c.spare_right.ensures, c.named_words-start.ensures))

pub returns : goal.returns
returns c =
    first_kept_on _ _ (c.in_ok-refuse_unless.ensures ∙ rw (c.fields_right.ensures, c.spare_right.ensures, c.named_words-start.ensures))
    (alone _ (c.refuse_unless-2.ensures ∙ rw c.children_right.ensures))
