use Rattle.laws.proofs.Telling.{alone}
use Rattle.laws.proofs.Turns.{first_broken, first_kept_on}
use Rattle.accept.proofs.check_words.Goals as goal

pub returns-in_err-refuse_if : goal.returns-in_err-refuse_if
returns-in_err-refuse_if c = first_broken _ _ c.from_residual.ensures.1 c.in_err-refuse_if.ensures

pub returns : goal.returns
returns c = first_kept_on _ _ c.in_ok-refuse_if.ensures (alone _ c.refuse_if-2.ensures)
