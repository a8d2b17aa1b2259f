-- The table, then the rest. Assumes nothing.
use Rattle.std.specs.Prelude.{Result}
use Prim.Native.Nat.{ℕ}
use Rattle.rules.specs.declared.Refusal.{Refusal}
use Rattle.rules.specs.RewriteCall.{TreeRewritten}
use Rattle.laws.proofs.Telling.{went_on, stopped}
use Rattle.laws.proofs.Turns.{on_exit}
use Rattle.rewrite.proofs.Calls.{by_table}
use Rattle.rewrite.proofs.rewrite_tree.Goals as goal

pub rewrite_in-requires : goal.rewrite_in-requires
rewrite_in-requires c = went_on _ c.in_ok-check.ensures

pub returns-in_err-check : goal.returns-in_err-check
returns-in_err-check c =
    on_exit (λ (r : Result ℕ Refusal). TreeRewritten c.args.table.now c.args.tree.now c.args.tree.now c.args.work.now c.args.work.now r) c.from_residual.ensures.1
    (by_table c.args.table.now c.args.tree.now c.args.work.now (stopped _ c.in_err-check.ensures))
