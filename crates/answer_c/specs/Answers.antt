-- What C gets of a call, by what the outcome tells (section 12 of docs/RULES.md): its number and values as three numbers; and what C reads in them.
use Rattle.std.specs.Prelude.{ℕ, true, false, Ok, Err, eqb, if◌then◌else◌}
use Rattle.rules.specs.declared.Refusal.{Refusal}
use Rattle.rules.specs.declared.Searched.{Searched}
use Rattle.rules.specs.declared.Searched.TheVariants as searched
use Rattle.rules.specs.Rules.{rule_of}
use Rattle.rules.specs.Told.{Checked, Located, Written, Tale, sound, inside, outside, clear, hit, wrote, refusal, Told}
use Rattle.answer_c.specs.declared.Answer.{Answer}

abbrev pub value_of : Tale → ℕ
value_of sound = 0
value_of inside = 1
value_of outside = 0
value_of clear = 0
value_of (hit first count) = first
value_of (wrote n) = n
value_of (refusal value) = value

abbrev pub count_of : Tale → ℕ
count_of sound = 0
count_of inside = 0
count_of outside = 0
count_of clear = 0
count_of (hit first count) = count
count_of (wrote n) = 0
count_of (refusal value) = 0

abbrev pub answer_of : Told → Answer
answer_of told = record { refusal = told.number; value = value_of told.tale; count = count_of told.tale }

-- ---- what C reads in an answer: a refusal where `refusal` is not 0, and else what the call says

abbrev pub unless_refused : {Outcome : Type 0} → (Refusal → Outcome) → Answer → Outcome → Outcome
unless_refused refused a fine = if eqb a.refusal 0 then fine else refused (record { rule = rule_of a.refusal; value = a.value })

abbrev pub read_checked : Answer → Checked
read_checked a = unless_refused Err a (Ok tt)

abbrev pub read_located : Answer → Located
read_located a = unless_refused Err a (if eqb a.value 0 then Ok false else Ok true)

abbrev pub read_searched : Answer → Searched
read_searched a = unless_refused searched.Refused a (if eqb a.count 0 then searched.Clear else searched.Hit a.value a.count)

abbrev pub read_written : Answer → Written
read_written a = unless_refused Err a (Ok a.value)
