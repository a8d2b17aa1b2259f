use Rattle.laws.proofs.Turns.{turn_kept, turn_broken, turns_over}
use Rattle.table.specs.Reading.{once_rule}
use Rattle.table.proofs.checking.check_once.Goals as goal

pub returns-in_err-refuse_unless : goal.returns-in_err-refuse_unless
returns-in_err-refuse_unless c =
    turn_broken (once_rule c.args.times.now) c.loop-row.invariant c.loop-row-test.true c.from_residual.ensures.1 c.in_err-refuse_unless.ensures

pub loop-row-preserved : goal.loop-row-preserved
loop-row-preserved c = turn_kept (once_rule c.args.times.now) c.loop-row.invariant c.loop-row-test.true c.in_ok-refuse_unless.ensures

pub returns : goal.returns
returns c = turns_over (once_rule c.args.times.now) c.loop-row.invariant c.loop-row-test.false
