-- The text of a table in its parts, and what writing it answers. Assumes nothing.
use Rattle.std.specs.Prelude.{Ok, Err}
use Prim.Native.Nat.{ℕ, suc, ◌+◌, ◌*◌, ◌^◌, ◌≤◌, ◌<◌}
use native.Mathlib.Nat.{zero-add}
use native.Mathlib.Numerals.{add-one}
use native.Mathlib.Omega.{arith}
use mathlib.Core.List.{List, [], ◌∷◌, ◌++◌, map, flat_map, append-nil, map-append}
use mathlib.Core.Option.{Option, none, some}
use mathlib.Core.Path.{◌≡◌, refl, sym, ap, ◌∙◌}
use borrow.Author.Tests.{lt-leb}
use lib.IntN.{ℤ}
use lib.ListN.{length, drop, length-append, length-map}
use lib.Seq.{sets-eq}
use lib.Signed.{mag}
use mir.Syntax.{w32}
use mir.Val.{to_z, of_z, hbits}
use Rattle.ground.specs.Lists.{below, first_of}
use Rattle.ground.proofs.Counting.{below_last, flat_map_next}
use Rattle.ground.proofs.Lists.{flat_map_append}
use Rattle.ground.proofs.Pieces.{from_length, all_each, pieces_most}
use Rattle.ground.proofs.Signed.{read}
use Rattle.rules.specs.declared.Kind.{Kind}
use Rattle.rules.specs.declared.Kind.TheVariants.{Box, Wedge, Drum, Union, Inter, Diff, Triangle}
use Rattle.rules.specs.declared.Refusal.{Refusal}
use Rattle.rules.specs.declared.Rule.TheVariants.{Room}
use Rattle.rules.specs.Kinds.{named_words, kind_of}
use Rattle.rules.specs.Outcome.{leave}
use Rattle.rules.specs.Refusals.{refuse, room_refusal}
use Rattle.rules.specs.Table.{most_rows, row_count, word_at, kind_at}
use Rattle.rules.specs.Text.{decimal, number_text, kind_name, header_line, field_text, line_of, text_row_by, text_rows}
use Rattle.rules.specs.TextCalls.{table_text, write_refusal, TextWritten}
use Rattle.rules.specs.Told.{wrote, tell}
use Rattle.rules.specs.Verdict.{table_refusal}
use Rattle.laws.proofs.Texts.{rows_count, write_fine}
use Rattle.rules.specs.Listing.{word_text}
use Rattle.number.specs.Writing.{Put}
use Rattle.number.proofs.Digits.{few_bytes, long_decimal}
use Rattle.writing.specs.Writing.{fields_to, line_as, row_text, line_at, lines_to}

-- ---- a kind's name

pub name_few : (k : Kind) → length (kind_name k) ≤ 5
name_few Box = omega arith
name_few Wedge = omega arith
name_few Drum = omega arith
name_few Union = omega arith
name_few Inter = omega arith
name_few Diff = omega arith
name_few Triangle = omega arith

-- ---- the fields of a row

module _ (t : List ℤ) (row : ℕ) where
  pub fields_grow : (k : ℕ) → fields_to t row (k + 1) ≡ fields_to t row k ++ field_text (word_at t row (k + 1))
  unfolding fields_to flat_map
  fields_grow k =
      let w : ℕ → ℤ = λ i. word_at t row (suc i) in
      let last = append-nil (field_text (w k)) ∙ ap (λ (i : ℕ). field_text (word_at t row i)) (sym (add-one k)) in
      ap (λ (ks : List ℕ). flat_map field_text (map w ks)) (below_last k)
      ∙ ap (flat_map field_text) (map-append w (below k) (k ∷ []))
      ∙ flat_map_append field_text (map w (below k)) (w k ∷ [])
      ∙ ap (λ (bytes : List ℕ). fields_to t row k ++ bytes) last

  -- a tab, and at most 11 bytes of a number
  pub fields_few : (n : ℕ) → length (fields_to t row n) ≤ n * 12
  unfolding fields_to
  fields_few n =
      let ws : List ℤ = map (λ i. word_at t row (suc i)) (below n) in
      let size : length ws ≡ n = length-map (below n) (λ i. word_at t row (suc i)) ∙ from_length 0 n in
      omega (arith, pieces_most field_text 12 ws (all_each (λ v. length (field_text v) ≤ 12) (λ v. omega (arith, few_bytes v)) ws))

  -- one field more, whose number was measured
  pub one_longer : (k : ℕ) {size n : ℕ} {r : ℤ} → size ≡ length (fields_to t row k) → n ≡ length (number_text r) → r ≡ word_at t row (k + 1)
      → size + (1 + n) ≡ length (fields_to t row (k + 1))
  one_longer k {n = n} measured number word =
      let own : n ≡ length (number_text (word_at t row (k + 1))) = number ∙ ap (λ (v : ℤ). length (number_text v)) word in
      omega (arith, ap length (fields_grow k), length-append (fields_to t row k) (field_text (word_at t row (k + 1))), own)

  -- ---- its line: the name, the fields and the line feed

  pub line_size : (k : Kind) → length (line_as t row k) ≡ length (kind_name k) + (length (fields_to t row (named_words k)) + 1)
  line_size k = simp length-append

  -- by the kind n that was read from its word 0
  -- by what word 0 names, as it was read
  module _ {r : ℤ} (fits : mag r < 2 ^ hbits w32) (word : r ≡ word_at t row 0) where
    same : kind_of (to_z w32 (of_z w32 r)) ≡ kind_at t row
    same = ap kind_of (read w32 fits word)

    pub line_known : {k : Kind} → kind_of (to_z w32 (of_z w32 r)) ≡ some k → line_at t row ≡ line_as t row k
    unfolding line_at fields_to flat_map
    line_known {k} e = rw (sym same ∙ e) (append-nil _)

    pub line_unknown : kind_of (to_z w32 (of_z w32 r)) ≡ none → line_at t row ≡ []
    unfolding line_at flat_map
    line_unknown e = rw (sym same ∙ e)

-- ---- the lines of a table

pub lines_grow : (t : List ℤ) (row : ℕ) → lines_to t (row + 1) ≡ lines_to t row ++ line_at t row
unfolding lines_to line_at
lines_grow t row =
    ap (flat_map line_of) (flat_map_next (row_text t) row) ∙ flat_map_append line_of (flat_map (row_text t) (below row)) (row_text t row)

-- ---- the whole text

-- a number of rows is written alike with up to 20 digits and with up to 10
pub count_text : (rows : ℕ) → rows ≤ most_rows → word_text rows ≡ decimal rows
count_text rows few = long_decimal rows (omega arith)

-- the name, the tab and the line feed are 6 bytes
pub header_size : (rows : ℕ) → rows ≤ most_rows → length (header_line rows) ≡ 6 + length (word_text rows)
header_size rows few = simp length-append (omega (arith, ap length (count_text rows few)))

module _ (t : List ℤ) (kept : table_refusal t ≡ none) where
  pub text_parts : table_text t ≡ header_line (row_count t) ++ lines_to t (row_count t)
  unfolding table_text lines_to
  text_parts = ap (λ (n : ℕ). header_line n ++ flat_map line_of (text_rows t)) (rows_count t kept)

  pub text_size : length (table_text t) ≡ length (header_line (row_count t)) + length (lines_to t (row_count t))
  text_size = ap length text_parts ∙ length-append (header_line (row_count t)) (lines_to t (row_count t))

-- ---- what is answered, by the rules that were kept or broken on the way

module _ (t : List ℤ) (before : List ℕ) where
  refused_by : {r : Refusal} → write_refusal t (length before) ≡ some r → TextWritten t before before (Err r)
  refused_by h = record {
    answer = sym (ap (λ (x : Option Refusal). tell x (wrote (length (table_text t)))) h);
    buffer = sym (ap (λ (x : Option Refusal). leave x (table_text t) before) h);
  }

  pub refused_table : {r : Refusal} → table_refusal t ≡ some r → TextWritten t before before (Err r)
  unfolding first_of
  refused_table h = refused_by (rw h)

  module _ (kept : table_refusal t ≡ none) where
    pub refused_room : {needed : ℕ} → needed ≡ length (table_text t) → length before < needed
        → TextWritten t before before (Err (record { rule = Room; value = needed }))
    unfolding first_of
    refused_room {needed} exact short =
        let tight : room_refusal needed (length before) ≡ refuse Room needed = rw (lt-leb needed (length before) short) in
        refused_by (rw (kept, ← exact, tight))

    pub text_written : {after : List ℕ} {next : ℕ} → length (table_text t) ≤ length before → Put before 0 (table_text t) after next
        → TextWritten t before after (Ok next)
    text_written room p =
        let bytes = table_text t in
        let fine = write_fine t (length before) kept room in
        let size = p.end ∙ zero-add (length bytes) in
        let whole = sets-eq bytes before 0 (omega arith) ∙ ap (λ (n : ℕ). bytes ++ drop n before) (zero-add (length bytes)) in
        record {
          answer = ap (λ (n : ℕ). tell none (wrote n)) size ∙ sym (ap (λ (x : Option Refusal). tell x (wrote (length bytes))) fine);
          buffer = p.buffer ∙ whole ∙ sym (ap (λ (x : Option Refusal). leave x bytes before) fine);
        }
