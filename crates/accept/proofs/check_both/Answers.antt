use Rattle.rules.specs.ListCalls.{accept_refusal}
use Rattle.laws.proofs.Soundness.{table_sound}
use Rattle.laws.proofs.Telling.{went_on}
use Rattle.laws.proofs.Turns.{first_broken, first_kept_on}
use Rattle.accept.proofs.check_both.Goals as goal

pub returns-in_err-check : goal.returns-in_err-check
unfolding accept_refusal
returns-in_err-check c = first_broken _ _ c.from_residual.ensures.1 c.in_err-check.ensures

pub check_against-requires : goal.check_against-requires
check_against-requires c = table_sound c.args.table.now (went_on _ c.in_ok-check.ensures)

pub returns : goal.returns
unfolding accept_refusal
returns c = first_kept_on _ _ c.in_ok-check.ensures c.check_against.ensures
