use native.Mathlib.Omega.{arith}
use Rattle.rules.specs.Verdict.{row_refusal}
use Rattle.laws.proofs.Turns.{turn_kept, turn_broken, turns_over}
use Rattle.table.proofs.checking.check_rows.Goals as goal

pub returns-in_err-check_row : goal.returns-in_err-check_row
returns-in_err-check_row c =
    turn_broken (row_refusal c.args.table.now) c.loop-row.invariant (omega (arith, c.requires, c.loop-row-test.true)) c.from_residual.ensures.1 c.in_err-check_row.ensures

pub loop-row-preserved : goal.loop-row-preserved
loop-row-preserved c =
    turn_kept (row_refusal c.args.table.now) c.loop-row.invariant (omega (arith, c.requires, c.loop-row-test.true)) c.in_ok-check_row.ensures

pub returns : goal.returns
returns c = turns_over (row_refusal c.args.table.now) c.loop-row.invariant (omega (arith, c.requires, c.loop-row-test.false))
