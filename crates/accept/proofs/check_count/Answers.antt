use mathlib.Core.Path.{◌∙◌}
use Rattle.accept.proofs.Checks.{count_by}
use Rattle.accept.proofs.check_count.Goals as goal

pub returns : goal.returns
returns c = c.refuse_if.ensures ∙ count_by c.args.list.now c.requires
