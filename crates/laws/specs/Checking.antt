-- Checks as values, from what the rules give.
use Rattle.std.specs.Prelude.{Ok, Err}
use Rattle.std.proofs.Math.Option.{Option, none, some}
use Rattle.rules.specs.declared.Refusal.{Refusal}
use Rattle.rules.specs.Told.{Checked}

-- a refusal, or none, as the answer of a check
abbrev pub checked_by : Option Refusal → Checked
checked_by none = Ok tt
checked_by (some r) = Err r

-- the first of two checks that refuses
abbrev pub first_refused : Checked → Checked → Checked
first_refused (Err r) b = Err r
first_refused (Ok u) b = b
