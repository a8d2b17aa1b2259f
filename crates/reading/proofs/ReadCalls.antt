-- What reading a text answers, from the rules that were kept or broken on the way. Assumes nothing.
use Prim.Native.Nat.{ℕ, ◌*◌, ◌≤◌, ◌<◌}
use native.Mathlib.Omega.{arith}
use mathlib.Core.List.{List}
use mathlib.Core.Option.{none, some}
use mathlib.Core.Path.{◌≡◌, refl, subst}
use borrow.Author.Tests.{le-leb, lt-leb}
use lib.IntN.{ℤ}
use lib.ListN.{length, take}
use Rattle.std.specs.Option.{ok_or}
use Rattle.std.specs.Prelude.{Option, None, Some, Ok, Err, MatchOption}
use Rattle.ground.specs.Lists.{first_of}
use Rattle.rules.specs.declared.Refusal.{Refusal}
use Rattle.rules.specs.declared.Rule.TheVariants as rule
use Rattle.rules.specs.Outcome.{over}
use Rattle.rules.specs.Table.{row_words, most_rows}
use Rattle.rules.specs.Text.{table_of}
use Rattle.rules.specs.TextCalls.{TextRead}
use Rattle.rules.specs.TextForm.{most_bytes, lines_of, FirstFault, too_long, faulty, spelt}
use Rattle.rules.specs.Verdict.{table_refusal}
use Rattle.reading.specs.Reading.{SpeltOut, Given}
use Rattle.rules.specs.Told.{Written}

-- ---- an answer that an error takes the place of, where there is none

pub left_out : {A E P : Type 0} (Q : A → Type 0) {d : E} (o : Option A) {e : E} → Err e ≡ ok_or o d → MatchOption o P Q → P × (e ≡ d)
left_out Q None h p = (p, cc)
left_out Q (Some x) h q = cc

pub told_on : {A E : Type 0} (P : Type 0) (Q : A → Type 0) (d : E) (o : Option A) {x : A} → Ok x ≡ ok_or o d → MatchOption o P Q → Q x
told_on P Q d None h p = cc
told_on P Q d (Some y) {x} h q = let same : y ≡ x = cc in subst Q same q

-- ---- the words that were read

module _ (words before : List ℤ) where
  pub given_table : {r : Refusal} → table_refusal words ≡ some r → Given words before before (Err r)
  unfolding first_of
  given_table h = record { answer = rw h; buffer = rw h }

  module _ (h : table_refusal words ≡ none) where
    pub given_room : length before < length words → Given words before before (Err (record { rule = rule.Room; value = length words }))
    unfolding first_of
    given_room l = record { answer = rw (h, lt-leb (length words) (length before) l); buffer = rw (h, lt-leb (length words) (length before) l) }

    pub given_fine : length words ≤ length before → {after : List ℤ} → after ≡ over words before → Given words before after (Ok (length words))
    unfolding first_of
    given_fine l e = record { answer = rw (h, le-leb (length words) (length before) l); buffer = rw (h, le-leb (length words) (length before) l) e }

-- ---- the text

module _ {text : List ℕ} (before : List ℤ) where
  pub read_long : most_bytes < length text → TextRead text before before (Err (record { rule = rule.Text; value = 0 }))
  unfolding first_of
  read_long l = record { form = too_long l; answer = refl; buffer = refl }

  module _ (short : length text ≤ most_bytes) where
    pub read_faulty : {line : ℕ} → FirstFault (lines_of text) line → TextRead text before before (Err (record { rule = rule.Text; value = line }))
    unfolding first_of
    read_faulty {line} fault = record { form = faulty line short fault; answer = refl; buffer = refl }

    pub read_spelt : {words after : List ℤ} {n : ℕ} {r : Written} → SpeltOut text words n → Given (take (n * row_words) words) before after r
        → TextRead text before after r
    unfolding first_of
    read_spelt {after = after} {r = r} s given =
        let own : Given (table_of s.rows) before after r = subst (λ (t : List ℤ). Given t before after r) s.table given in
        let some_row : 1 ≤ length s.rows = omega (arith, s.counted, s.count.some_row) in
        let not_over : length s.rows ≤ most_rows = omega (arith, s.counted, s.count.not_over) in
        record {
          form = spelt s.rows short some_row not_over s.right s.is;
          answer = own.answer;
          buffer = own.buffer;
        }
