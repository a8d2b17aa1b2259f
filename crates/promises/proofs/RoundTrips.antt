-- Zone text and tables go back and forth through the calls: a sound table's text is read as that table, and an accepted text is written as it was.
-- Assumes nothing.
use Prim.Native.Nat.{ℕ, ◌≤◌}
use native.Mathlib.Omega.{arith}
use mathlib.Core.List.{List}
use mathlib.Core.Option.{Option, none}
use mathlib.Core.Path.{◌≡◌, sym, ap, subst, ◌∙◌}
use borrow.Author.Tests.{le-leb}
use lib.IntN.{ℤ}
use lib.ListN.{length, take}
use lib.Seq.{take-append_seam}
use Rattle.ground.specs.Lists.{first_of, All}
use Rattle.ground.proofs.Counting.{first_kept}
use Rattle.ground.proofs.Lists.{all_map}
use Rattle.rules.specs.declared.Refusal.{Refusal}
use Rattle.rules.specs.Outcome.{leave}
use Rattle.rules.specs.Text.{text_of, text_rows, table_of}
use Rattle.rules.specs.TextCalls.{table_read, form_refusal, read_refusal, TextRead, table_text, write_refusal, TextWritten}
use Rattle.rules.specs.TextForm.{most_bytes, Word32, RightRow, TextForm, too_long, faulty, spelt}
use Rattle.rules.specs.Told.{Written, fine, wrote, tell, told_written}
use Rattle.rules.specs.Verdict.{table_refusal}
use Rattle.rules.proofs.Settled.{form_once}
use Rattle.promises.proofs.Outcomes.{read_answer}
use Rattle.laws.proofs.Texts.{rows_right, rows_again, rows_back, rows_count, text_short, wrote_result, write_fine}
use Rattle.laws.proofs.Soundness.{table_sound}
use Rattle.laws.proofs.TextLengths.{Named}

-- a call with a result to write, and x to refuse: where x is none, it wrote the result
none_wrote : {A : Type 0} (x : Option Refusal) (result before : List A) {after : List A} (r : Written)
    → told_written r ≡ tell x (wrote (length result)) → after ≡ leave x result before → x ≡ none
    → (told_written r ≡ fine (wrote (length result))) × (take (length result) after ≡ result)
none_wrote x result before r answer buffer e = (
  answer ∙ ap (λ (y : Option Refusal). tell y (wrote (length result))) e,
  ap (take (length result)) (buffer ∙ ap (λ (y : Option Refusal). leave y result before) e) ∙ take-append_seam result _,
)

-- an accepted text is the text of the table that is read from it
spelt_back : {text : List ℕ} (form : TextForm text) → form_refusal form ≡ none → table_text (table_read form) ≡ text
unfolding table_text
spelt_back (too_long over) e = cc
spelt_back (faulty line short fault) e = cc
spelt_back (spelt rows short some_row not_over right is) e =
    ap text_of (rows_again rows (all_map RightRow Named (λ row h. h.named) rows right)) ∙ sym is

-- a sound table's text is accepted, and that table is read from it
text_accepted : {text : List ℕ} (form : TextForm text) (t : List ℤ) → All Word32 t → table_refusal t ≡ none → text ≡ table_text t
    → (form_refusal form ≡ none) × (table_read form ≡ t)
unfolding table_text
text_accepted {text} form t fit kept is = (once.0, once.1 ∙ rows_back t kept)
  where
    own : TextForm text
    own =
        let S = table_sound t kept in
        let short : length text ≤ most_bytes = subst (λ (bytes : List ℕ). length bytes ≤ most_bytes) (sym is) (text_short t kept) in
        let rows = rows_count t kept in
        spelt (text_rows t) short (omega (arith, S.some_row)) (omega (arith, S.not_over)) (rows_right t fit) is

    once : (form_refusal form ≡ none) × (table_read form ≡ table_of (text_rows t))
    once = form_once form own

-- nothing is refused: a sound table, and room
read_fine : {text : List ℕ} (form : TextForm text) (room : ℕ) → form_refusal form ≡ none → table_refusal (table_read form) ≡ none
    → length (table_read form) ≤ room → read_refusal form room ≡ none
unfolding first_of
read_fine form room accepted kept fits = rw (accepted, kept, le-leb (length (table_read form)) room fits)

-- a sound table's text is written, and a right text of a sound table is read, where there is room
pub writes_text : {t : List ℤ} {before text : List ℕ} {r : Written} → TextWritten t before text r → table_refusal t ≡ none
    → length (table_text t) ≤ length before → told_written r ≡ fine (wrote (length (table_text t)))
writes_text {t} {before} {r = r} written kept fits =
    (none_wrote (write_refusal t (length before)) (table_text t) before r written.answer written.buffer (write_fine t (length before) kept fits)).0

pub reads_text : {text : List ℕ} (form : TextForm text) {room table : List ℤ} {r : Written} → TextRead text room table r
    → form_refusal form ≡ none → table_refusal (table_read form) ≡ none → length (table_read form) ≤ length room
    → told_written r ≡ fine (wrote (length (table_read form)))
reads_text form {room} read right kept fits =
    read_answer form read ∙ ap (λ (x : Option Refusal). tell x (wrote (length (table_read form)))) (read_fine form (length room) right kept fits)

-- a table's text, written and then read, gives the table
pub table_text_table : {t : List ℤ} {before text : List ℕ} {r : Written} {n : ℕ} → All Word32 t → TextWritten t before text r
    → told_written r ≡ fine (wrote n)
    → {room after : List ℤ} {s : Written} → TextRead (take n text) room after s → length t ≤ length room
    → (told_written s ≡ fine (wrote (length t))) × (take (length t) after ≡ t)
table_text_table {t} {before} fit written told {room} {after} {s} read fits =
    let form = read.form in
    let done = wrote_result (write_refusal t (length before)) (table_text t) before (sym told ∙ written.answer) written.buffer in
    let kept = (first_kept (table_refusal t) _ done.0).0 in
    let accepted = text_accepted form t fit kept done.1 in
    let same : table_read form ≡ t = accepted.1 in
    let nothing = read_fine form (length room) accepted.0 (ap table_refusal same ∙ kept) (rw same fits) in
    subst (λ (table : List ℤ). (told_written s ≡ fine (wrote (length table))) × (take (length table) after ≡ table)) same
    (none_wrote (read_refusal form (length room)) (table_read form) room s read.answer read.buffer nothing)

-- a text that was accepted, written again, is as it was
pub text_table_text : {text : List ℕ} {room table : List ℤ} {r : Written} {n : ℕ} → TextRead text room table r → told_written r ≡ fine (wrote n)
    → {before after : List ℕ} {s : Written} → TextWritten (take n table) before after s → length text ≤ length before
    → (told_written s ≡ fine (wrote (length text))) × (take (length text) after ≡ text)
text_table_text {text} {room} {table} {n = n} read told {before} {after} {s} written fits =
    let form = read.form in
    let t = take n table in
    let done = wrote_result (read_refusal form (length room)) (table_read form) room (sym told ∙ read.answer) read.buffer in
    let accepted = first_kept (form_refusal form) _ done.0 in
    let kept = (first_kept (table_refusal (table_read form)) _ accepted.1).0 in
    let same : table_text t ≡ text = ap table_text done.1 ∙ spelt_back form accepted.0 in
    let nothing = write_fine t (length before) (ap table_refusal done.1 ∙ kept) (rw same fits) in
    subst (λ (bytes : List ℕ). (told_written s ≡ fine (wrote (length bytes))) × (take (length bytes) after ≡ bytes)) same
    (none_wrote (write_refusal t (length before)) (table_text t) before s written.answer written.buffer nothing)
