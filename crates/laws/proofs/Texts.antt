-- Zone text and tables go back and forth: a sound table's text is read as that table, and an accepted text is written as it was. Assumes nothing.
use Rattle.std.specs.Prelude.{Ok}
use Prim.Native.Nat.{ℕ, zero, suc, ◌+◌, ◌-◌, ◌*◌, ◌≤◌, ◌<◌}
use native.Mathlib.Omega.{arith}
use mathlib.Core.Bool.{true, ◌&&◌}
use mathlib.Core.List.{List, [], ◌∷◌, ◌++◌, map, flat_map, append-nil}
use mathlib.Core.Option.{Option, none, some}
use mathlib.Core.Path.{◌≡◌, refl, sym, ap, ap₂, subst, ◌∙◌}
use borrow.Author.Tests.{le-leb}
use lib.IntN.{ℤ, pos}
use lib.ListN.{length, get_or, take, drop, replicate, length-append, length-map, length-take, length-drop, length-replicate, get_or-append}
use lib.Seq.{take_all, take-add, take_at, get_or-take, get_or-drop}
use Rattle.ground.specs.Lists.{from, rest, below, all_of, first_of, All}
use Rattle.ground.specs.Tests.{eq_z}
use Rattle.ground.proofs.Branches.{and_left, and_right}
use Rattle.ground.proofs.Counting.{rulings_none, first_kept}
use Rattle.ground.proofs.Lists.{all_at, all_map, all_flat_map, flat_map_append}
use Rattle.ground.proofs.Pieces.{from_length, all_each, all_mapped, all_places, places, map_places, pieces_length, piece_at}
use Rattle.ground.proofs.Signed.{eq_z_eq}
use Rattle.rules.specs.declared.Rule.TheVariants as rule
use Rattle.rules.specs.declared.Kind.{Kind}
use Rattle.rules.specs.declared.Kind.TheVariants.{Box, Wedge, Drum, Union, Inter, Diff, Triangle}
use Rattle.rules.specs.declared.Refusal.{Refusal}
use Rattle.rules.specs.Fields.{fields_right, spare_right, children_right}
use Rattle.rules.specs.Kinds.{kind_number, named_words, kind_of}
use Rattle.rules.specs.Outcome.{leave}
use Rattle.rules.specs.Refusals.{refuse_unless}
use Rattle.rules.specs.Table.{row_words, row_count, word_at, kind_at}
use Rattle.rules.specs.Text.{TextRow, text_row_by, text_rows, table_row, table_of}
use Rattle.rules.specs.TextCalls.{table_read, form_refusal, read_refusal, TextRead, table_text, write_refusal}
use Rattle.rules.specs.TextForm.{most_bytes, Word32, RightRow}
use Rattle.rules.specs.Told.{fine, wrote, tell}
use Rattle.rules.specs.Verdict.{length_refusal, row_refusal_by, row_refusal, rows_refusal, table_refusal}
use Rattle.rules.proofs.Lines.{no_row}
use Rattle.rules.proofs.Told.{wrote_none}
use Rattle.laws.specs.Sound.{Sound}
use Rattle.ground.proofs.Namings.{next_row}
use Rattle.rules.proofs.KindNumbers.{number_kind, number_of_kind}
use Rattle.laws.proofs.Soundness.{unless_kept, table_sound}
use Rattle.laws.proofs.TextLengths.{few_named, Named, text_most}

-- ---- the rows of a table

-- what text has of one row
abbrev row_text : List ℤ → ℕ → List TextRow
row_text t row = text_row_by (kind_at t row) (word_at t row)

-- spare words that are right are 0
zeros : (w : ℕ → ℤ) (start n : ℕ) → all_of (λ i. eq_z (w i) (pos 0)) (from start n) ≡ true → map w (from start n) ≡ replicate n (pos 0)
unfolding from all_of
zeros w start zero h = refl
zeros w start (suc n) h =
    let others = all_of (λ i. eq_z (w i) (pos 0)) (from (suc start) n) in
    let first : w start ≡ pos 0 = eq_z_eq (w start) (pos 0) (and_left (eq_z (w start) (pos 0)) others h) in
    let later : map w (from (suc start) n) ≡ replicate n (pos 0) = zeros w (suc start) n (and_right (eq_z (w start) (pos 0)) others h) in
    λ i. first i ∷ later i

-- a row's words: its kind, those that the kind names, the spare ones
whole_row : (k : Kind) (w : ℕ → ℤ)
    → w 0 ∷ (map (λ i. w (suc i)) (below (named_words k)) ++ map w (rest (1 + named_words k) row_words)) ≡ map w (below row_words)
unfolding from
whole_row Box w = refl
whole_row Wedge w = refl
whole_row Drum w = refl
whole_row Union w = refl
whole_row Inter w = refl
whole_row Diff w = refl
whole_row Triangle w = refl

-- a row that the check lets through has a text, which gives its words back
row_back : (x : Option Kind) (w : ℕ → ℤ) (row : ℕ) → kind_of (w 0) ≡ x → row_refusal_by x w row ≡ none → table_of (text_row_by x w) ≡ map w (below row_words)
unfolding flat_map
row_back none w row is e = let z : ◌≡◌ {A = ℕ} 0 1 = cc in absurd (omega arith)
row_back (some k) w row is e =
    let rules = first_kept (refuse_unless (fields_right k w && spare_right k w) rule.Fields row) (refuse_unless (children_right k w row) rule.Children row ∷ []) e in
    let words = unless_kept (fields_right k w && spare_right k w) rule.Fields row rules.0 in
    let spare : spare_right k w ≡ true = and_right (fields_right k w) (spare_right k w) words in
    let number : w 0 ≡ pos (kind_number k) = number_of_kind (w 0) is in
    let past = zeros w (1 + named_words k) (row_words - (1 + named_words k)) spare in
    append-nil _ ∙ (λ i. sym number i ∷ (map (λ j. w (suc j)) (below (named_words k)) ++ sym past i)) ∙ whole_row k w

-- a row of a known kind, as text has it
abbrev row_as : Kind → (ℕ → ℤ) → TextRow
row_as k w = record { kind = k; words = map (λ i. w (suc i)) (below (named_words k)) }

as_named : (k : Kind) (w : ℕ → ℤ) → Named (row_as k w)
as_named k w = length-map (below (named_words k)) (λ i. w (suc i)) ∙ from_length 0 (named_words k)

-- what holds of the words of any row, read as any kind, holds of every row of the table's text
rows_all : (P : TextRow → Type 0) (t : List ℤ) → ((k : Kind) (row : ℕ) → P (row_as k (word_at t row))) → All P (text_rows t)
rows_all P t h =
    all_flat_map (λ row. All P (row_text t row)) P (row_text t) (λ row each. each) (below (row_count t))
    (all_each (λ row. All P (row_text t row)) (λ row. of (kind_at t row) row) (below (row_count t)))
  where
    of : (x : Option Kind) (row : ℕ) → All P (text_row_by x (word_at t row))
    of none row = tt
    of (some k) row = (h k row, tt)

rows_named : (t : List ℤ) → All Named (text_rows t)
rows_named t = rows_all Named t (λ k row. as_named k (word_at t row))

pub rows_right : (t : List ℤ) → All Word32 t → All RightRow (text_rows t)
rows_right t fit = rows_all RightRow t (λ k row. record {
  named = as_named k (word_at t row);
  fit = all_mapped Word32 (λ i. word_at t row (suc i)) (λ i. word_fits (row * row_words + suc i)) (below (named_words k));
})
  where
    word_fits : (i : ℕ) → Word32 (get_or t i (pos 0))
    word_fits = all_places Word32 (pos 0) (record { fits = omega arith }) t fit

-- ---- rows as a table has them

-- a row whose words are known is read as that row
row_again : (row : TextRow) (w : ℕ → ℤ) → Named row → ((i : ℕ) → i < row_words → w i ≡ get_or (table_row row) i (pos 0))
    → text_row_by (kind_of (w 0)) w ≡ row ∷ []
row_again row w named is = ap (λ (x : Option Kind). text_row_by x w) known ∙ (λ i. record { kind = row.kind; words = words i } ∷ [])
  where
    known : kind_of (w 0) ≡ some row.kind
    known = ap kind_of (is 0 (omega arith)) ∙ number_kind row.kind

    words : map (λ i. w (suc i)) (below (named_words row.kind)) ≡ row.words
    words =
        ap (λ (n : ℕ). map (λ i. w (suc i)) (below n)) (sym named)
        ∙ map_places (λ i. w (suc i)) (pos 0) row.words
        (λ i l. is (suc i) (omega (arith, few_named row.kind)) ∙ get_or-append row.words _ (pos 0) i l)

row_length : (row : TextRow) → Named row → length (table_row row) ≡ row_words
row_length row named = simp (length-append, length-replicate) (omega (arith, few_named row.kind))

module _ (rows : List TextRow) (named : All Named rows) where
  even : All (λ row. length (table_row row) ≡ row_words) rows
  even = all_map Named (λ row. length (table_row row) ≡ row_words) row_length rows named

  pub table_length : length (table_of rows) ≡ length rows * row_words
  table_length = pieces_length table_row row_words rows even

  -- rows that were put into a table are read from it again
  pub rows_again : text_rows (table_of rows) ≡ rows
  rows_again = ap (λ (n : ℕ). flat_map (row_text (table_of rows)) (below n)) count ∙ places (row_text (table_of rows)) no_row rows at
    where
      count : row_count (table_of rows) ≡ length rows
      count = omega (arith, table_length)

      at : (k : ℕ) → k < length rows → row_text (table_of rows) k ≡ get_or rows k no_row ∷ []
      at k l =
          row_again (get_or rows k no_row) (word_at (table_of rows) k) (all_at Named no_row rows named k l)
          (λ i h. piece_at table_row row_words no_row (pos 0) rows even k i l h)

-- ---- a table that the check lets through

module _ (t : List ℤ) (kept : table_refusal t ≡ none) where
  row_kept : (row : ℕ) → row < row_count t → row_refusal t row ≡ none
  unfolding table_refusal
  row_kept row l = rulings_none (row_refusal t) (row_count t) (first_kept (rows_refusal t) _ (first_kept (length_refusal t) _ kept).1).0 row l

  -- a row's text gives its words back
  words_back : (row : ℕ) → row < row_count t → table_of (row_text t row) ≡ take row_words (drop (row * row_words) t)
  words_back row l =
      row_back (kind_at t row) (word_at t row) row refl (row_kept row l)
      ∙ ap (λ (n : ℕ). map (word_at t row) (below n)) (sym size)
      ∙ map_places (word_at t row) (pos 0) piece
      (λ k h. sym (get_or-take row_words past k (pos 0) (omega (arith, size)) ∙ get_or-drop (row * row_words) t k (pos 0)))
    where
      past : List ℤ
      past = drop (row * row_words) t

      piece : List ℤ
      piece = take row_words past

      size : length piece ≡ row_words
      size = simp (length-take, length-drop) (omega (arith, (table_sound t kept).whole))

  -- and so do the first n rows
  rows_to : (n : ℕ) → n ≤ row_count t → table_of (flat_map (row_text t) (below n)) ≡ take (n * row_words) t
  unfolding from flat_map
  rows_to zero l = refl
  rows_to (suc n) l =
      let on : n * row_words + row_words ≡ suc n * row_words = omega arith in
      ap table_of (next_row (row_text t) n)
      ∙ flat_map_append table_row (flat_map (row_text t) (below n)) (row_text t n)
      ∙ ap₂ ◌++◌ (rows_to n (omega arith)) (words_back n l)
      ∙ sym (take-add (n * row_words) row_words t)
      ∙ ap (λ (k : ℕ). take k t) on

  -- and so the whole table, which tells how many rows its text has
  pub rows_back : table_of (text_rows t) ≡ t
  rows_back = rows_to (row_count t) (omega arith) ∙ take_all (row_count t * row_words) t (omega (arith, (table_sound t kept).whole))

  pub rows_count : length (text_rows t) ≡ row_count t
  rows_count = omega (arith, table_length (text_rows t) (rows_named t), ap (λ (ws : List ℤ). length ws) rows_back)

  pub text_short : length (table_text t) ≤ most_bytes
  unfolding table_text
  text_short = text_most (text_rows t) (rows_named t) (omega (arith, rows_count, (table_sound t kept).not_over))

-- ---- the calls

-- a call with a result to write, and x to refuse, that wrote so many words or bytes: x was none
pub wrote_result : {A : Type 0} (x : Option Refusal) (result before : List A) {after : List A} {n : ℕ}
    → fine (wrote n) ≡ tell x (wrote (length result)) → after ≡ leave x result before → (x ≡ none) × (take n after ≡ result)
wrote_result x result before {n = n} answer buffer =
    let (e, size) = wrote_none x (length result) n answer in
    (e, ap (take n) (buffer ∙ ap (λ (y : Option Refusal). leave y result before) e) ∙ take_at result _ n (sym size))

-- nothing is refused: a sound table, and room
pub write_fine : (t : List ℤ) (room : ℕ) → table_refusal t ≡ none → length (table_text t) ≤ room → write_refusal t room ≡ none
unfolding first_of
write_fine t room kept fits = rw (kept, le-leb (length (table_text t)) room fits)

-- a text that was accepted: its table lies in the buffer, and is sound
module _ {text : List ℕ} {room table : List ℤ} {m : ℕ} (read : TextRead text room table (Ok m)) where
  pub read_done : (read_refusal read.form (length room) ≡ none) × (take m table ≡ table_read read.form)
  read_done = wrote_result (read_refusal read.form (length room)) (table_read read.form) room read.answer read.buffer

  pub read_fits : m ≤ length table
  read_fits =
      let t = table_read read.form in
      omega (arith, (wrote_none (read_refusal read.form (length room)) (length t) m read.answer).1, length-take m table, ap length read_done.1)

  pub read_sound : Sound (take m table)
  read_sound =
      let t = table_read read.form in
      let later = (first_kept (form_refusal read.form) _ read_done.0).1 in
      subst Sound (sym read_done.1) (table_sound t (first_kept (table_refusal t) _ later).0)
