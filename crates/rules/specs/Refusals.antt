-- Section 12 of docs/RULES.md: refusals. A rule that is kept refuses nothing; of several rules, looked at in order, the first that is broken refuses.
use Rattle.std.specs.Prelude.{ℕ, Bool, true, false}
use Rattle.std.proofs.Math.Option.{Option, none, some}
use Rattle.rules.specs.declared.Refusal.{Refusal}
use Rattle.rules.specs.declared.Rule.{Rule}
use Rattle.rules.specs.declared.Rule.TheVariants.{Room}

abbrev pub refuse : Rule → ℕ → Option Refusal
refuse rule value = some (record { rule = rule; value = value })

abbrev pub refuse_if : Bool → Rule → ℕ → Option Refusal
refuse_if true rule value = refuse rule value
refuse_if false rule value = none

abbrev pub refuse_unless : Bool → Rule → ℕ → Option Refusal
refuse_unless true rule value = none
refuse_unless false rule value = refuse rule value

-- a result of so many words or bytes, into a buffer of so many
abbrev pub room_refusal : ℕ → ℕ → Option Refusal
room_refusal needed room = refuse_unless (lib.Dec.leb needed room) Room needed
