-- Every record settles its call: any two outcomes that meet it are the same, and one that is a refusal leaves every lent buffer as it was.
-- Assumes nothing.
use Rattle.std.specs.Prelude.{Err}
use Prim.Native.Nat.{ℕ, ◌+◌, ◌-◌, ◌*◌, ◌≤◌, ◌<◌}
use native.Mathlib.Omega.{arith}
use native.Mathlib.Decide.{dec_lt}
use mathlib.Core.List.{List, [], ◌∷◌, ◌++◌, append-nil}
use mathlib.Core.Option.{Option, some}
use mathlib.Core.Path.{◌≡◌, refl, sym, ap, subst, ◌∙◌}
use lib.IntN.{ℤ, pos}
use lib.ListN.{length, get_or, drop, replicate, drop_of_length-le}
use lib.Seq.{get_or-append-add, get_or-drop}
use Rattle.ground.specs.Lists.{All, first_of}
use Rattle.rules.specs.declared.Place.{Place}
use Rattle.rules.specs.declared.Point.{Point}
use Rattle.rules.specs.declared.Rectangle.{Rectangle}
use Rattle.rules.specs.declared.Refusal.{Refusal}
use Rattle.rules.specs.declared.Rule.TheVariants as rule
use Rattle.rules.specs.declared.Searched.{Searched}
use Rattle.rules.specs.declared.Window.{Window}
use Rattle.rules.specs.Table.{most_rows, primitives}
use Rattle.rules.specs.Verdict.{table_refusal}
use Rattle.rules.specs.Refusals.{room_refusal}
use Rattle.rules.specs.Text.{TextRow, text_of, table_of}
use Rattle.rules.specs.TextForm.{lines_of, RightRow, FirstFault, no_header, no_such_row, no_end}
use Rattle.rules.specs.TextForm.{TextForm, too_long, faulty, spelt}
use Rattle.rules.specs.Told.{Checked, Located, Written, refused, wrote, tell}
use Rattle.rules.specs.Outcome.{over, leave}
use Rattle.rules.specs.Products.{products}
use Rattle.rules.specs.Tree.{tree_of}
use Rattle.rules.specs.TreeCalls.{TableChecked, TreeLocated, TreeSearched}
use Rattle.rules.specs.Screen.{triple_words}
use Rattle.rules.specs.Waterfall.{picture_words}
use Rattle.rules.specs.ListCalls.{zone_list, make_refusal, ListMade, ListLocated, ListSearched, screen_triples, screen_refusal, ScreenSearched}
use Rattle.rules.specs.ListCalls.{waterfall, waterfall_refusal, PictureDrawn}
use Rattle.rules.specs.RewriteCall.{finished_rows, rewrite_refusal, TreeRewritten}
use Rattle.rules.specs.TextCalls.{table_read, form_refusal, read_refusal, TextRead, table_text, write_refusal, TextWritten}
use Rattle.rules.specs.Boxes.{full_range}
use Rattle.rules.specs.Listing.{listing_room, printed, ZoneListed}
use Rattle.rules.proofs.Told.{checked_once, located_once, searched_once, written_once, refused_some}
use Rattle.rules.proofs.Lines.{text_once, header_rows, spelt_no_fault}

-- ---- calls that only answer

pub checked_settled : {t : List ℤ} {r s : Checked} → TableChecked t r → TableChecked t s → r ≡ s
checked_settled {r = r} {s = s} p q = checked_once r s (p.answer ∙ sym q.answer)

pub tree_located_settled : {t : List ℤ} {p : Point} {r s : Located} → TreeLocated t p r → TreeLocated t p s → r ≡ s
tree_located_settled {r = r} {s = s} p q = located_once r s (p.answer ∙ sym q.answer)

pub tree_searched_settled : {t samples : List ℤ} {place : Place} {r s : Searched} → TreeSearched t samples place r → TreeSearched t samples place s → r ≡ s
tree_searched_settled {r = r} {s = s} p q = searched_once r s (p.answer ∙ sym q.answer)

pub list_located_settled : {t : List ℤ} {list : List ℕ} {p : Point} {r s : Located} → ListLocated t list p r → ListLocated t list p s → r ≡ s
list_located_settled {r = r} {s = s} p q = located_once r s (p.answer ∙ sym q.answer)

pub list_searched_settled : {t : List ℤ} {list : List ℕ} {samples : List ℤ} {place : Place} {r s : Searched}
    → ListSearched t list samples place r → ListSearched t list samples place s → r ≡ s
list_searched_settled {r = r} {s = s} p q = searched_once r s (p.answer ∙ sym q.answer)

-- ---- calls that write

pub list_made_settled : {t : List ℤ} {w : Window} {before a b : List ℕ} {r s : Written} → ListMade t w before a r → ListMade t w before b s → (r ≡ s) × (a ≡ b)
list_made_settled {r = r} {s = s} p q = (written_once r s (p.answer ∙ sym q.answer), p.buffer ∙ sym q.buffer)

pub text_written_settled : {t : List ℤ} {before a b : List ℕ} {r s : Written} → TextWritten t before a r → TextWritten t before b s → (r ≡ s) × (a ≡ b)
text_written_settled {r = r} {s = s} p q = (written_once r s (p.answer ∙ sym q.answer), p.buffer ∙ sym q.buffer)

pub screen_searched_settled : {t : List ℤ} {list : List ℕ} {codes : List ℤ} {frames : ℕ} {place : Place} {before a b : List ℕ} {r s : Written}
    → ScreenSearched t list codes frames place before a r → ScreenSearched t list codes frames place before b s → (r ≡ s) × (a ≡ b)
screen_searched_settled {r = r} {s = s} p q = (written_once r s (p.answer ∙ sym q.answer), p.buffer ∙ sym q.buffer)

pub picture_drawn_settled : {t : List ℤ} {list : List ℕ} {q : Rectangle} {before a b : List ℤ} {r s : Written}
    → PictureDrawn t list q before a r → PictureDrawn t list q before b s → (r ≡ s) × (a ≡ b)
picture_drawn_settled {r = r} {s = s} p q = (written_once r s (p.answer ∙ sym q.answer), p.buffer ∙ sym q.buffer)

pub tree_rewritten_settled : {t before a b work c d : List ℤ} {r s : Written}
    → TreeRewritten t before a work c r → TreeRewritten t before b work d s → (r ≡ s) × (a ≡ b) × (c ≡ d)
tree_rewritten_settled {r = r} {s = s} p q =
    (written_once r s (p.answer ∙ sym q.answer), p.tree ∙ sym q.tree, p.zeroed ∙ sym q.zeroed)

-- ---- a text stands in one way only

fault_once : {lines : List (List ℕ)} {m n : ℕ} → FirstFault lines m → FirstFault lines n → m ≡ n
fault_once (no_header e none) (no_header f none') = e ∙ sym f
fault_once (no_header e none) (no_such_row rows k f named right l wrong) = absurd (none rows named)
fault_once (no_header e none) (no_end rows f named right more) = absurd (none rows named)
fault_once (no_such_row rows k e named right l wrong) (no_header f none) = absurd (none rows named)
fault_once {m = m} {n = n} (no_such_row a j e named right l wrong) (no_such_row b k f named' right' l' wrong') = go (dec_lt j k) (dec_lt k j)
  where
    go : Dec (j < k) → Dec (k < j) → m ≡ n
    go (yes h) d = absurd (wrong (right' j h))
    go (no h) (yes g) = absurd (wrong' (right k g))
    go (no h) (no g) = omega (arith, e, f)
fault_once (no_such_row a k e named right l wrong) (no_end b f named' right' more) =
    let same = header_rows named named' in absurd (wrong (right' k (omega arith)))
fault_once (no_end rows e named right more) (no_header f none) = absurd (none rows named)
fault_once (no_end a e named right more) (no_such_row b k f named' right' l wrong) =
    let same = header_rows named named' in absurd (wrong (right k (omega arith)))
fault_once (no_end a e named right more) (no_end b f named' right' more') = let same = header_rows named named' in omega (arith, e, f)

spelt_not_faulty : (rows : List TextRow) → 1 ≤ length rows → length rows ≤ most_rows → All RightRow rows → {text : List ℕ} → text ≡ text_of rows
    → {line : ℕ} → FirstFault (lines_of text) line → ⊥
spelt_not_faulty rows some_row not_over right is {line = line} fault =
    spelt_no_fault rows some_row not_over right (subst (λ (bytes : List ℕ). FirstFault (lines_of bytes) line) is fault)

pub form_once : {text : List ℕ} (f g : TextForm text) → (form_refusal f ≡ form_refusal g) × (table_read f ≡ table_read g)
form_once (too_long l) (too_long m) = (refl, refl)
form_once (too_long l) (faulty n short fault) = absurd (omega arith)
form_once (too_long l) (spelt rows short some_row not_over right is) = absurd (omega arith)
form_once (faulty m short fault) (too_long l) = absurd (omega arith)
form_once (faulty m short fault) (faulty n short' fault') = (ap (λ (line : ℕ). some (record { rule = rule.Text; value = line })) (fault_once fault fault'), refl)
form_once (faulty m short fault) (spelt rows short' some_row not_over right is) = absurd (spelt_not_faulty rows some_row not_over right is fault)
form_once (spelt rows short some_row not_over right is) (too_long l) = absurd (omega arith)
form_once (spelt rows short some_row not_over right is) (faulty n short' fault) = absurd (spelt_not_faulty rows some_row not_over right is fault)
form_once (spelt rows short some_row not_over right is) (spelt rows' short' some-row' not-over' right' is') = (refl, ap table_of (text_once rows rows' right right' (sym is ∙ is')))

pub text_read_settled : {text : List ℕ} {before a b : List ℤ} {r s : Written} → TextRead text before a r → TextRead text before b s → (r ≡ s) × (a ≡ b)
text_read_settled {before = before} {r = r} {s = s} p q =
    let once = form_once p.form q.form in
    let ruling : (x : Option Refusal) (t : List ℤ) → Option Refusal = λ x t. first_of (x ∷ table_refusal t ∷ room_refusal (length t) (length before) ∷ []) in (
      written_once r s (p.answer ∙ (λ i. tell (ruling (once.0 i) (once.1 i)) (wrote (length (once.1 i)))) ∙ sym q.answer),
      p.buffer ∙ (λ i. leave (ruling (once.0 i) (once.1 i)) (once.1 i) before) ∙ sym q.buffer,
    )

-- what the listing program prints
pub zone_listed_settled : {text before a b : List ℕ} {m n : ℕ} → ZoneListed text before a m → ZoneListed text before b n → (m ≡ n) × (a ≡ b)
zone_listed_settled {before = before} p q =
    let once = form_once p.form q.form in
    let bytes : (x : Option Refusal) (t : List ℤ) → List ℕ
    = λ x t. printed (first_of (x ∷ make_refusal t full_range listing_room ∷ [])) (products full_range (primitives t) (tree_of t)) in (
      p.size ∙ (λ i. length (bytes (once.0 i) (once.1 i))) ∙ sym q.size,
      p.buffer ∙ (λ i. over (bytes (once.0 i) (once.1 i)) before) ∙ sym q.buffer,
    )

-- ---- a refusal leaves the buffer as it was

keeps : {A : Type 0} (x : Option Refusal) (n : ℕ) (result before : List A) (r : Refusal) → refused r ≡ tell x (wrote n) → leave x result before ≡ before
keeps x n result before r e = ap (λ (y : Option Refusal). leave y result before) (refused_some x n r e)

pub list_made_keeps : {t : List ℤ} {w : Window} {before after : List ℕ} {r : Refusal} → ListMade t w before after (Err r) → after ≡ before
list_made_keeps {t} {w} {before} p = p.buffer ∙ keeps (make_refusal t w (length before)) (length (zone_list t w)) (zone_list t w) before _ p.answer

pub text_read_keeps : {text : List ℕ} {before after : List ℤ} {r : Refusal} → TextRead text before after (Err r) → after ≡ before
text_read_keeps {before = before} p = p.buffer ∙ keeps (read_refusal p.form (length before)) (length (table_read p.form)) (table_read p.form) before _ p.answer

pub text_written_keeps : {t : List ℤ} {before after : List ℕ} {r : Refusal} → TextWritten t before after (Err r) → after ≡ before
text_written_keeps {t} {before} p = p.buffer ∙ keeps (write_refusal t (length before)) (length (table_text t)) (table_text t) before _ p.answer

pub screen_searched_keeps : {t : List ℤ} {list : List ℕ} {codes : List ℤ} {frames : ℕ} {place : Place} {before after : List ℕ} {r : Refusal}
    → ScreenSearched t list codes frames place before after (Err r) → after ≡ before
screen_searched_keeps {t} {list} {codes} {frames} {place} {before} p =
    p.buffer ∙ keeps (screen_refusal t list codes frames (length before)) (triple_words * frames) (screen_triples t list codes frames place) before _ p.answer

pub picture_drawn_keeps : {t : List ℤ} {list : List ℕ} {q : Rectangle} {before after : List ℤ} {r : Refusal}
    → PictureDrawn t list q before after (Err r) → after ≡ before
picture_drawn_keeps {t} {list} {q} {before} p =
    p.buffer ∙ keeps (waterfall_refusal t list q (length before)) (picture_words q) (waterfall t list q) before _ p.answer

pub tree_rewritten_keeps : {t before after work cleared : List ℤ} {r : Refusal}
    → TreeRewritten t before after work cleared (Err r) → (after ≡ before) × (cleared ≡ work)
tree_rewritten_keeps {t} {before} {work = work} p =
    let rule : Option Refusal = rewrite_refusal t (length before) (length work) in
    let kept : (result buffer : List ℤ) → leave rule result buffer ≡ buffer
    = λ result buffer. keeps rule (length (finished_rows t)) result buffer _ p.answer in
    (p.tree ∙ kept (finished_rows t) before, p.zeroed ∙ kept (replicate (length work) (pos 0)) work)

-- ---- what stands in a buffer after a result: nothing where that is as long as the buffer, and else what stood there

module _ {A : Type 0} (result before : List A) where
  pub over_whole : length before ≤ length result → over result before ≡ result
  over_whole l = ap {B = List A} (λ rest. result ++ rest) (drop_of_length-le before l) ∙ append-nil result

  pub over_rest : (d : A) (i : ℕ) → length result ≤ i → get_or (over result before) i d ≡ get_or before i d
  over_rest d i l =
      let n = length result in
      let s : i ≡ n + (i - n) = omega arith in
      ap (λ (j : ℕ). get_or (over result before) j d) s
      ∙ get_or-append-add result (drop n before) (i - n) d
      ∙ get_or-drop n before (i - n) d
      ∙ ap (λ (j : ℕ). get_or before j d) (sym s)
