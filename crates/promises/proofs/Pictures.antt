-- What a picture tells: the word of each place is the newest frame there. Assumes nothing.
use Rattle.std.specs.Prelude.{Ok}
use Prim.Native.Nat.{ℕ, ◌+◌, ◌*◌, ◌≤◌, ◌<◌}
use native.Mathlib.Decide.{dec_le}
use native.Mathlib.Nat.{mul-le-mul_right}
use native.Mathlib.Omega.{arith}
use mathlib.Core.Bool.{Bool, true}
use mathlib.Core.List.{List, ◌++◌}
use mathlib.Core.Option.{Option, none}
use mathlib.Core.Path.{◌≡◌, refl, sym, ap, subst, ◌∙◌}
use borrow.Author.Tests.{leb-true}
use lib.Dec.{leb}
use lib.IntN.{ℤ, pos, ◌+ℤ◌, ◌-ℤ◌}
use lib.ListN.{length, get_or, drop, get_or-append}
use lib.Signed.{le_z}
use Rattle.ground.specs.Lists.{below}
use Rattle.ground.specs.Tests.{Says}
use Rattle.ground.proofs.Branches.{false_true, and_left}
use Rattle.ground.proofs.Counting.{first_kept}
use Rattle.ground.proofs.Finding.{First, there, nowhere, find_first}
use Rattle.ground.proofs.Pieces.{from_length, below_at, made_length, made_at, all_each, piece_at}
use Rattle.ground.proofs.Saying.{says_itself, says_true, true_says}
use Rattle.rules.specs.declared.Axis.TheVariants.{Frame}
use Rattle.rules.specs.declared.Point.{Point}
use Rattle.rules.specs.declared.Rectangle.{Rectangle}
use Rattle.rules.specs.declared.Refusal.{Refusal}
use Rattle.rules.specs.declared.Window.{Window}
use Rattle.rules.specs.Boxes.{Box, holds, window_box}
use Rattle.rules.specs.ListCalls.{ListMade, accept_refusal, waterfall, waterfall_refusal, PictureDrawn}
use Rattle.rules.specs.ListFaults.{list_refusal}
use Rattle.rules.specs.ListInside.{inside_list}
use Rattle.rules.specs.ListWords.{word, list_window}
use Rattle.rules.specs.Outcome.{leave}
use Rattle.rules.specs.Ranges.{Span, within, size_of}
use Rattle.rules.specs.Table.{primitives}
use Rattle.rules.specs.Tree.{tree_of}
use Rattle.rules.specs.Told.{Written, fine, wrote, tell, told_written}
use Rattle.rules.specs.Verdict.{table_refusal}
use Rattle.rules.specs.Waterfall.{no_frame, columns_of, codes_of, picture_words, rectangle_refusal, or_no_frame, newest, place_word, picture}
use Rattle.rules.proofs.Told.{wrote_none}
use Rattle.laws.specs.Drawing.{Drawable, words_from}
use Rattle.laws.specs.SoundList.{SoundHeader}
use Rattle.laws.proofs.Axes.{lowered_in, lowered_rises}
use Rattle.laws.proofs.Pictures.{picture_rows, picture_length}
use Rattle.laws.proofs.Rectangles.{drawable, up_in, down_in}
use Rattle.laws.proofs.SoundLists.{list_sound}
use Rattle.laws.proofs.Spaces.{by_axis}
use Rattle.laws.proofs.SpanNumbers.{down, down_within, down_order, steps_down}
use Rattle.promises.specs.Promises.{InTree, InList, picture_word, point_in, Newest, AllNewest}
use Rattle.promises.proofs.ListAsTree.{made_passes, list_is_tree}
use Rattle.promises.proofs.Sets.{tests_are_sets}

-- ---- one word

module _ (is_inside : Point → Bool) (frames : Span) (rises : le_z frames.lo frames.hi ≡ true) (apart : within frames no_frame ≡ true → ⊥)
    (Inside : ℤ → Type 0) (x y : ℤ) (says : (z : ℤ) → within frames z ≡ true → Says (is_inside (record { x = x; y = y; z = z })) (Inside z)) where
  abbrev test : ℤ → Bool
  test z = is_inside (record { x = x; y = y; z = z })

  -- a frame that is inside is one of those that were looked at
  looked_at : (z : ℤ) → within frames z ≡ true → Inside z → (j : ℕ) × (j < size_of frames) × (down frames j ≡ z) × (test (down frames j) ≡ true)
  looked_at z w held =
      let (j, l, is) = steps_down frames z w in (j, l, is, ap test is ∙ says_true (test z) (says z w) held)

  newest_word : {found : Option ℤ} → First test (down frames) 0 (size_of frames) found → Newest frames Inside (or_no_frame found)
  newest_word {found} (there k a b h before is) = subst (λ (o : Option ℤ). Newest frames Inside (or_no_frame o)) (sym is) (record {
    if_some = λ z w held. (here, inside, newer z w held);
    if_none = λ nothing. absurd (nothing (down frames k) here inside);
    none_only = λ e z w held. apart (subst (λ (v : ℤ). within frames v ≡ true) e here);
  })
    where
      here : within frames (down frames k) ≡ true
      here = down_within frames rises k (omega arith)

      inside : Inside (down frames k)
      inside = true_says (test (down frames k)) (says (down frames k) here) h

      newer : (z : ℤ) → within frames z ≡ true → Inside z → le_z z (down frames k) ≡ true
      newer z w held = go (looked_at z w held)
        where
          go : ((j : ℕ) × (j < size_of frames) × (down frames j ≡ z) × (test (down frames j) ≡ true)) → le_z z (down frames k) ≡ true
          go (j, l, at, t) = by (dec_le k j)
            where
              by : Dec (k ≤ j) → le_z z (down frames k) ≡ true
              by (yes m) = ap (λ (v : ℤ). le_z v (down frames k)) (sym at) ∙ down_order frames k j m
              by (no m) = false_true (sym (before j (omega arith) (omega arith)) ∙ t)
  newest_word {found} (nowhere none_there is) = subst (λ (o : Option ℤ). Newest frames Inside (or_no_frame o)) (sym is) (record {
    if_some = λ z w held. absurd (never z w held);
    if_none = λ nothing. refl;
    none_only = λ e z w held. never z w held;
  })
    where
      never : (z : ℤ) → within frames z ≡ true → Inside z → ⊥
      never z w held = let (j, l, at, t) = looked_at z w held in false_true (sym (none_there j (omega arith) (omega arith)) ∙ t)

  pub place_newest : Newest frames Inside (place_word is_inside frames x y)
  unfolding newest
  place_newest = newest_word (find_first test (down frames) 0 (size_of frames))

-- ---- where it stands

module _ (is_inside : Point → Bool) (frames : Span) (q : Rectangle) where
  abbrev width : ℕ
  width = size_of (columns_of q)

  abbrev height : ℕ
  height = size_of (codes_of q)

  -- the word of column i in row j, whatever follows the last
  pub word_at : (more : List ℤ) (j i : ℕ) → j < height → i < width
      → picture_word q (picture is_inside frames q ++ more) j i ≡ place_word is_inside frames (q.xlo +ℤ pos i) (q.yhi -ℤ pos j)
  word_at more j i l m =
      let row : ℕ → List ℤ = λ k. words_from is_inside frames q.xlo (q.yhi -ℤ pos k) width in
      let each = all_each (λ k. length (row k) ≡ width) (λ k. made_length _ width) (below height) in
      let fits = mul-le-mul_right {m = j + 1} {n = height} width (omega arith) in
      get_or-append (picture is_inside frames q) more no_frame (j * width + i) (omega (arith, fits, picture_length is_inside frames q))
      ∙ ap (λ (words : List ℤ). get_or words (j * width + i) no_frame) (picture_rows is_inside frames q)
      ∙ piece_at row width 0 no_frame (below height) each j i (omega (arith, from_length 0 height)) m
      ∙ ap (λ (k : ℕ). get_or (row k) i no_frame) (below_at height j l)
      ∙ made_at _ no_frame width i m

-- ---- the call

pub picture_writes : {t : List ℤ} {list : List ℕ} {q : Rectangle} {before after : List ℤ} {r : Written}
    → PictureDrawn t list q before after r → waterfall_refusal t list q (length before) ≡ none → told_written r ≡ fine (wrote (picture_words q))
picture_writes {q = q} met kept = met.answer ∙ ap (λ (x : Option Refusal). tell x (wrote (picture_words q))) kept

module _ {t : List ℤ} {list : List ℕ} {q : Rectangle} {before after : List ℤ} {r : Written} {n : ℕ}
    (met : PictureDrawn t list q before after r) (wrote_it : told_written r ≡ fine (wrote n)) where
  kept : waterfall_refusal t list q (length before) ≡ none
  kept = (wrote_none (waterfall_refusal t list q (length before)) (picture_words q) n (sym wrote_it ∙ met.answer)).0

  rectangle_fine : rectangle_refusal (list_window list) q ≡ none
  rectangle_fine = (first_kept (rectangle_refusal (list_window list) q) _ (first_kept (accept_refusal t list) _ kept).1).0

  pub drawn_in : Drawable (list_window list) q
  drawn_in = drawable (list_window list) q rectangle_fine

  header : SoundHeader list
  unfolding accept_refusal
  header = (list_sound list (first_kept (list_refusal list) _ (first_kept (table_refusal t) _ (first_kept (accept_refusal t list) _ kept).0).1).0).header

  -- the list's frames: they rise, and no word of them is that for none
  rising : le_z (list_window list).z.lo (list_window list).z.hi ≡ true
  rising = lowered_rises Frame (word list 5) (word list 6) header.z.rise

  apart : within (list_window list).z no_frame ≡ true → ⊥
  apart w =
      let in_range = lowered_in Frame (word list 5) (word list 6) header.z.hi no_frame w in
      omega (arith, leb-true 2147483647 1048575 (and_left (leb 2147483647 1048575) true in_range))

  abbrev is_inside : Point → Bool
  is_inside = inside_list (primitives t) list

  is_picture : after ≡ picture is_inside (list_window list).z q ++ drop (length (waterfall t list q)) before
  unfolding waterfall
  is_picture = met.buffer ∙ ap (λ (x : Option Refusal). leave x (waterfall t list q) before) kept

  pub tells_by : (Holds : Point → Type 0)
      → ((j i : ℕ) → j < size_of (codes_of q) → i < size_of (columns_of q) → (z : ℤ) → within (list_window list).z z ≡ true → Says (is_inside (point_in q j i z)) (Holds (point_in q j i z)))
      → AllNewest q (list_window list).z Holds after
  tells_by Holds says j i l m =
      subst (Newest (list_window list).z (λ z. Holds (point_in q j i z)))
      (sym (ap (λ (words : List ℤ). picture_word q words j i) is_picture ∙ word_at is_inside (list_window list).z q (drop (length (waterfall t list q)) before) j i l m))
      (place_newest is_inside (list_window list).z rising apart (λ z. Holds (point_in q j i z)) (q.xlo +ℤ pos i) (q.yhi -ℤ pos j) (says j i l m))

  pub picture_tells : AllNewest q (list_window list).z (InList t list) after
  picture_tells = tells_by (InList t list) (λ j i l m z w. says_itself (is_inside (point_in q j i z)))

-- ---- of a list that was made: by the tree, in its window

pub made_picture : (t : List ℤ) (w : Window) (before list : List ℕ) (words : ℕ) → ListMade t w before list (Ok words)
    → {q : Rectangle} {room after : List ℤ} {r : Written} {n : ℕ} → PictureDrawn t list q room after r → told_written r ≡ fine (wrote n)
    → AllNewest q (window_box w).z (InTree t) after
made_picture t w before list words made {q} {after = after} met wrote_it =
    subst (λ (b : Box). AllNewest q b.z (InTree t) after) (made_passes t w before list words made).1 (tells_by met wrote_it (InTree t) says)
  where
    says : (j i : ℕ) → j < size_of (codes_of q) → i < size_of (columns_of q) → (z : ℤ) → within (list_window list).z z ≡ true
        → Says (inside_list (primitives t) list (point_in q j i z)) (InTree t (point_in q j i z))
    says j i l m z h =
        let p = point_in q j i z in
        let D = drawn_in met wrote_it in
        let held : holds (list_window list) p ≡ true = by_axis (up_in D.columns_right i m) (down_in D.codes_right j l) h in
        subst (λ (b : Bool). Says b (InTree t p))
        (sym (list_is_tree t w before list words made p (ap (λ (b : Box). holds b p) (sym (made_passes t w before list words made).1) ∙ held)))
        (tests_are_sets (tree_of t) p)
