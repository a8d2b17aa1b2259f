use Rattle.rules.specs.Verdict.{table_refusal}
use Rattle.laws.proofs.Turns.{first_broken, first_kept_on}
use Rattle.laws.proofs.Telling.{alone}
use Rattle.laws.proofs.Soundness.{whole_table}
use Rattle.laws.proofs.Telling.{went_on}
use Rattle.table.proofs.Checks.{sound_rows}
use Rattle.table.proofs.checking.check.Goals as goal

pub returns-in_err-refuse_if : goal.returns-in_err-refuse_if
unfolding table_refusal
returns-in_err-refuse_if c = first_broken _ _ c.from_residual.ensures.1 c.in_err-refuse_if.ensures

pub check_rows-requires : goal.check_rows-requires
check_rows-requires c = let w = whole_table c.args.table.now (went_on _ c.in_ok-refuse_if.ensures) in (w.whole, (w.some_row, w.not_over))

pub returns-in_err-check_rows : goal.returns-in_err-check_rows
unfolding table_refusal
returns-in_err-check_rows c =
    first_kept_on _ _ c.in_ok-refuse_if.ensures (first_broken _ _ c.from_residual-in_err-check_rows.ensures.1 c.in_err-check_rows.ensures)

pub check_children-requires : goal.check_children-requires
check_children-requires c = sound_rows c.args.table.now (went_on _ c.in_ok-refuse_if.ensures) (went_on _ c.in_ok-check_rows.ensures)

pub returns : goal.returns
unfolding table_refusal
returns c =
    first_kept_on _ _ c.in_ok-refuse_if.ensures (first_kept_on _ _ c.in_ok-check_rows.ensures (alone _ c.check_children.ensures))
