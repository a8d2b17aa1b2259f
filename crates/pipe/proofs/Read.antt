-- What is printed for a text, from what reading it answers: a table of 127 rows has room, so only its form and its table are refused.
-- Assumes nothing.
use Rattle.std.specs.Prelude.{Ok, Err}
use Prim.Native.Nat.{ℕ, ◌*◌, ◌≤◌}
use native.Mathlib.Nat.{zero-add}
use native.Mathlib.Omega.{arith}
use mathlib.Core.Bool.{Bool}
use mathlib.Core.List.{List}
use mathlib.Core.Option.{Option, none, some}
use mathlib.Core.Path.{◌≡◌, refl, sym, ap, ◌∙◌}
use borrow.Author.Tests.{le-leb}
use lib.IntN.{ℤ}
use lib.ListN.{length, take}
use Rattle.ground.specs.Lists.{or_else, first_of}
use Rattle.ground.proofs.Counting.{or_else_none, first_kept}
use Rattle.rules.specs.declared.Rule.TheVariants.{Room}
use Rattle.rules.specs.declared.Refusal.{Refusal}
use Rattle.rules.specs.ListCalls.{make_refusal}
use Rattle.rules.specs.Boxes.{full_range}
use Rattle.rules.specs.Listing.{listing_room, refusal_line, printed, listing_refusal, listing, ZoneListed}
use Rattle.rules.specs.Products.{products}
use Rattle.rules.specs.Refusals.{refuse_unless, room_refusal}
use Rattle.rules.specs.Table.{row_words, most_rows, primitives}
use Rattle.rules.specs.TextCalls.{table_read, form_refusal, read_refusal, TextRead}
use Rattle.rules.specs.TextForm.{TextForm}
use Rattle.rules.specs.Tree.{tree_of}
use Rattle.rules.specs.Verdict.{table_refusal}
use Rattle.rules.proofs.Told.{refused_some}
use Rattle.laws.proofs.Soundness.{table_sound}
use Rattle.laws.proofs.Texts.{read_done}
use Rattle.number.specs.Writing.{Put}
use Rattle.number.proofs.Writing.{put_same, put_over}
use Rattle.print.proofs.Lengths.{refusal_most}
use Rattle.pipe.specs.Tables.{table_listing}
use Rattle.pipe.proofs.Made.{table_most}

few_words : (t : List ℤ) → table_refusal t ≡ none → length t ≤ most_rows * row_words
few_words t e = let S = table_sound t e in omega (arith, S.whole, S.not_over)

-- rules in order, of which the third is kept where the second is: what they refuse, the first and the second do
refused_before : (x y z later : Option Refusal) {r : Refusal} → (y ≡ none → z ≡ none) → or_else x (or_else y (or_else z none)) ≡ some r
    → or_else x (or_else (or_else y later) none) ≡ some r
refused_before (some q) y z later h e = e
refused_before none (some q) z later h e = e
refused_before none none z later {r} h e =
    let kept : none ≡ some r = ap (λ (y : Option Refusal). or_else y none) (sym (h refl)) ∙ e in
    cc

module _ {text : List ℕ} (form : TextForm text) where
  -- what is printed where x is refused
  abbrev lines : Option Refusal → List ℕ
  lines x = printed x (products full_range (primitives (table_read form)) (tree_of (table_read form)))

  listed_as : {x : Option Refusal} → listing_refusal form ≡ x → {before after : List ℕ} {n : ℕ} → length (lines x) ≤ length before
      → Put before 0 (lines x) after n → ZoneListed text before after n
  listed_as e {before} fits p =
      let put = put_same (ap lines e) p in
      let room : length (listing form) ≤ length before = rw e fits in
      record { form = form; size = put.end ∙ zero-add (length (listing form)); buffer = put_over room put }

-- the text was refused
pub text_refused : {text : List ℕ} {room table : List ℤ} {r : Refusal} → length room ≡ most_rows * row_words → TextRead text room table (Err r)
    → {before after : List ℕ} {n : ℕ} → 171890 ≤ length before → Put before 0 (refusal_line r) after n
    → ZoneListed text before after n × (n ≤ 171890)
unfolding first_of
text_refused {room = room} {r = r} size read fits p =
    let form = read.form in
    let t = table_read form in
    let kept : table_refusal t ≡ none → room_refusal (length t) (length room) ≡ none
    = λ e. ap (λ (b : Bool). refuse_unless b Room (length t)) (le-leb (length t) (length room) (omega (arith, few_words t e))) in
    let refusal = refused_some (read_refusal form (length room)) (length t) r read.answer in
    let same = refused_before (form_refusal form) (table_refusal t) (room_refusal (length t) (length room)) _ kept refusal in
    (listed_as form same (omega (arith, refusal_most r)) p, omega (arith, p.end, refusal_most r))

-- or a table was read, and what is printed for it is printed for the text
module _ {text : List ℕ} {room table : List ℤ} {m : ℕ} (read : TextRead text room table (Ok m)) where
  abbrev t : List ℤ
  t = table_read read.form

  accepted : form_refusal read.form ≡ none
  accepted = (first_kept (form_refusal read.form) _ (read_done read).0).0

  pub text_listed : {before after : List ℕ} {n : ℕ} → 171890 ≤ length before → Put before 0 (table_listing (take m table)) after n
      → ZoneListed text before after n × (n ≤ 171890)
  unfolding first_of
  text_listed fits p =
      let making = make_refusal t full_range listing_room in
      let same = ap (λ (x : Option Refusal). or_else x (or_else making none)) accepted ∙ sym (or_else_none making) in
      (listed_as read.form same (omega (arith, table_most t)) (put_same (ap table_listing (sym (read_done read).1)) p), omega (arith, p.end, table_most (take m table)))
