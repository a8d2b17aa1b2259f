use Rattle.says.specs.Asking.{inside_by}
use Rattle.span.specs.Along.{code_point}
use Rattle.along.proofs.Walks.{highest_any}
use Rattle.sweep.proofs.some_inside.Goals as goal

pub returns : goal.returns
returns c = highest_any (λ v. inside_by c.args.asked c.args.table.now c.args.list.now (code_point c.args.p v)) c.highest_inside.ensures
