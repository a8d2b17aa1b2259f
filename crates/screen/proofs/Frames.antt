-- The frames of a screenful: what the rules let pass, where each lies, and the words that tell of those so far. Assumes nothing.
use Prim.Native.Nat.{ℕ, ◌+◌, ◌*◌, ◌%◌, ◌≤◌, ◌<◌}
use native.Mathlib.Nat.{div-add-mod', mul_comm, mul-le-mul_right}
use native.Mathlib.Omega.{arith}
use mathlib.Core.Bool.{Bool, true, false, not, ◌||◌}
use mathlib.Core.List.{List, flat_map}
use mathlib.Core.Option.{none}
use mathlib.Core.Path.{◌≡◌, refl, ap, ◌∙◌}
use borrow.Author.Tests.{eqb-true, eqb-false, ltb-false, not-false}
use lib.Dec.{eqb, ltb}
use lib.IntN.{ℤ}
use lib.ListN.{length}
use lib.Seq.{sets}
use Rattle.ground.specs.Lists.{below}
use Rattle.ground.proofs.Writes.{made_pieces_length, piece_more}
use Rattle.rules.specs.declared.Rule.TheVariants as rule
use Rattle.rules.specs.declared.Place.{Place}
use Rattle.rules.specs.ListCalls.{frame_triple, screen_triples}
use Rattle.rules.specs.Refusals.{refuse, refuse_if}
use Rattle.rules.specs.Screen.{most_frames, frames_refusal, frame_length, triple_words}
use Rattle.laws.proofs.Screens.{triple_length}
use Rattle.laws.proofs.Soundness.{if_kept, or_false}

module _ (codes : List ℤ) (frames : ℕ) where
  abbrev wrong_count : Bool
  wrong_count = eqb frames 0 || ltb most_frames frames

  abbrev uneven : Bool
  uneven = not (eqb (length codes % frames) 0)

  pub count_wrong : wrong_count ≡ true → frames_refusal codes frames ≡ refuse rule.Frame 0
  count_wrong h = go (eqb frames 0) (ltb most_frames frames) h
    where
      go : (a b : Bool) → (a || b) ≡ true → refuse_if (a || (b || uneven)) rule.Frame 0 ≡ refuse rule.Frame 0
      go true b e = refl
      go false true e = refl
      go false false e = cc

  module _ (h : wrong_count ≡ false) where
    pub count_right : frames_refusal codes frames ≡ refuse_if uneven rule.Frame 0
    count_right = let each = or_false (eqb frames 0) (ltb most_frames frames) h in rw (each.0, each.1)

    pub one_frame : 1 ≤ frames
    one_frame = omega (arith, eqb-false frames 0 (or_false (eqb frames 0) (ltb most_frames frames) h).0)

    pub few_frames : frames ≤ most_frames
    few_frames = ltb-false most_frames frames (or_false (eqb frames 0) (ltb most_frames frames) h).1

  -- a screenful that is not refused
  pub record FramesRight : Type 0 where
    pub some_frame : 1 ≤ frames
    pub not_over : frames ≤ most_frames
    pub even : frames * frame_length codes frames ≡ length codes

  pub frames_right : frames_refusal codes frames ≡ none → FramesRight
  frames_right e =
      let a = or_false (eqb frames 0) (ltb most_frames frames || uneven) (if_kept (eqb frames 0 || (ltb most_frames frames || uneven)) rule.Frame 0 e) in
      let b = or_false (ltb most_frames frames) uneven a.1 in
      let counted : wrong_count ≡ false = rw (a.0, b.0) in
      let left : length codes % frames ≡ 0 = eqb-true (length codes % frames) 0 (not-false _ b.1) in
      record {
        some_frame = one_frame counted;
        not_over = few_frames counted;
        even = omega (arith, div-add-mod' (length codes) frames, left);
      }

  -- frame j ends within the codes
  pub frame_fits : FramesRight → (j : ℕ) → j < frames → (j + 1) * frame_length codes frames ≤ length codes
  frame_fits right j l = omega (arith, mul-le-mul_right {m = j + 1} {n = frames} (frame_length codes frames) (omega arith), right.even)

-- ---- the words of the first frames

module _ (t : List ℤ) (list : List ℕ) (codes : List ℤ) (frames : ℕ) (place : Place) where
  abbrev triple : ℕ → List ℕ
  triple = frame_triple t list codes frames place

  abbrev pub triples_to : ℕ → List ℕ
  triples_to j = flat_map triple (below j)

  each_triple : (j : ℕ) → length (triple j) ≡ triple_words
  each_triple = triple_length t list codes frames place

  pub triples_length : (j : ℕ) → length (triples_to j) ≡ triple_words * j
  triples_length j = omega (arith, made_pieces_length triple triple_words each_triple j)

  -- after those of the first j frames, the words of one more
  pub one_more : (before : List ℕ) (j : ℕ)
      → sets (sets before 0 (triples_to j)) (triple_words * j) (triple j) ≡ sets before 0 (triples_to (j + 1))
  one_more before j =
      ap (λ (at : ℕ). sets (sets before 0 (triples_to j)) at (triple j)) (mul_comm triple_words j) ∙ piece_more triple triple_words each_triple before j

  pub triples_all : screen_triples t list codes frames place ≡ triples_to frames
  unfolding screen_triples
  triples_all = refl
