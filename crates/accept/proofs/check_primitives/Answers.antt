use mathlib.Core.Path.{◌∙◌}
use Rattle.accept.proofs.Checks.{primitives_by}
use Rattle.accept.proofs.check_primitives.Goals as goal

pub returns : goal.returns
returns c = c.refuse_if.ensures ∙ primitives_by c.args.list.now
