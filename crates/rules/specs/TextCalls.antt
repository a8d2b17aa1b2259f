-- Section 13 of docs/RULES.md: what reading and writing zone text promise.
use Rattle.std.specs.Prelude.{ℕ, ◌≡◌, List, [], ◌∷◌, ℤ, length}
use mathlib.Core.Option.{Option}
use Rattle.ground.specs.Lists.{first_of}
use Rattle.rules.specs.declared.Refusal.{Refusal}
use Rattle.rules.specs.declared.Rule.TheVariants as rule
use Rattle.rules.specs.Verdict.{table_refusal}
use Rattle.rules.specs.Text.{text_of, text_rows, table_of}
use Rattle.rules.specs.TextForm.{TextForm, too_long, faulty, spelt}
use Rattle.rules.specs.Refusals.{refuse, room_refusal}
use Rattle.rules.specs.Told.{Written, wrote, tell, told_written}
use Rattle.rules.specs.Outcome.{leave}

-- read text: 13, table, 8
abbrev pub table_read : {text : List ℕ} → TextForm text → List ℤ
table_read (too_long over) = []
table_read (faulty line short fault) = []
table_read (spelt rows short some_row not_over right is) = table_of rows

abbrev pub form_refusal : {text : List ℕ} → TextForm text → Option Refusal
form_refusal (too_long over) = refuse rule.Text 0
form_refusal (faulty line short fault) = refuse rule.Text line
form_refusal (spelt rows short some_row not_over right is) = mathlib.Core.Option.none

abbrev pub read_refusal : {text : List ℕ} → TextForm text → ℕ → Option Refusal
read_refusal form room = first_of (form_refusal form ∷ table_refusal (table_read form) ∷ room_refusal (length (table_read form)) room ∷ [])

pub record TextRead (text : List ℕ) (before after : List ℤ) (r : Written) : Type 0 where
  pub form : TextForm text
  pub answer : told_written r ≡ tell (read_refusal form (length before)) (wrote (length (table_read form)))
  pub buffer : after ≡ leave (read_refusal form (length before)) (table_read form) before

-- write text: table, 8
unfoldable pub table_text : List ℤ → List ℕ
table_text t = text_of (text_rows t)

abbrev pub write_refusal : List ℤ → ℕ → Option Refusal
write_refusal t room = first_of (table_refusal t ∷ room_refusal (length (table_text t)) room ∷ [])

pub record TextWritten (t : List ℤ) (before after : List ℕ) (r : Written) : Type 0 where
  pub answer : told_written r ≡ tell (write_refusal t (length before)) (wrote (length (table_text t)))
  pub buffer : after ≡ leave (write_refusal t (length before)) (table_text t) before
