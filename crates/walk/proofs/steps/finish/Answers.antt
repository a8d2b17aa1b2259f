-- The product where a walk stops is counted, and written if products are kept. Assumes nothing.
use Rattle.std.proofs.Common.{ℕ, ◌+◌, List, sym, subst, ◌∙◌}
use Rattle.walk.specs.Tracks.{end_of, Put}
use Rattle.walk.proofs.Tracks.{put_none, put_one, count_one}
use Rattle.walk.proofs.steps.finish.Goals as goal
use Rattle.walk.proofs.steps.finish.Goals.{then-keeps, else-keeps}

pub returns-in_default : goal.returns-in_default
returns-in_default c = put_none c.args.keeps c.args.list.now c.args.count c.in_default.ensures

pub returns : goal.returns
returns c =
    elim c.if-keeps.branch [
      | then-keeps w ↦ put_one c.args.count c.in-Some.product c.in-Some.ensures (w.list-is ∙ w.put_product.ensures) w.if-keeps.true
      | else-keeps w ↦ subst (λ (l : List ℕ). Put c.args.keeps c.args.list.now l c.args.count (c.args.count + 1) (end_of c.args.plan.now.rows.now c.args.plan.now.end c.args.at)) (sym w.list-is)
          (count_one c.args.list.now c.args.count c.in-Some.ensures w.if-keeps.false)
    ]
