use Rattle.laws.proofs.Turns.{turn_kept, turn_broken, turns_over}
use Rattle.accept.proofs.check_products.Invariants.{rule}
use Rattle.accept.proofs.check_products.Goals as goal

pub returns-in_err-check_product : goal.returns-in_err-check_product
returns-in_err-check_product c =
    turn_broken (rule c.args.list.now) c.loop-k.invariant c.loop-k-test.true c.from_residual.ensures.1 c.in_err-check_product.ensures

pub loop-k-preserved : goal.loop-k-preserved
loop-k-preserved c = turn_kept (rule c.args.list.now) c.loop-k.invariant c.loop-k-test.true c.in_ok-check_product.ensures

pub returns : goal.returns
returns c = turns_over (rule c.args.list.now) c.loop-k.invariant c.loop-k-test.false
