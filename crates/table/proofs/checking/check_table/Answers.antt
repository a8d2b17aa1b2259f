use mathlib.Core.Path.{ap, ◌∙◌}
use Rattle.rules.specs.Told.{told_checked}
use Rattle.rules.specs.Verdict.{table_refusal}
use Rattle.laws.proofs.Telling.{checked_told}
use Rattle.table.proofs.checking.check_table.Goals as goal

pub returns : goal.returns
returns c = record { answer = ap told_checked c.check.ensures ∙ checked_told (table_refusal c.args.table.now) }
