-- A list that passes its checks is sound; its window lies in the range; and its answer at a point is that of the masks of its products.
-- Assumes nothing.
use Prim.Native.Nat.{ℕ, ◌+◌, ◌^◌, ◌<◌}
use mathlib.Core.Bool.{not, ◌||◌}
use mathlib.Core.List.{List, [], ◌++◌, flat_map}
use mathlib.Core.Option.{Option, none}
use mathlib.Core.Path.{◌≡◌, sym, ◌∙◌}
use borrow.Author.Tests.{leb-true, ltb-true, ltb-false}
use lib.Dec.{eqb, leb, ltb}
use lib.ListN.{length}
use Rattle.ground.specs.Lists.{below, first_of}
use Rattle.ground.proofs.Branches.{and_left, and_right}
use Rattle.ground.proofs.Counting.{first_rulings, none_append, rulings_none, first_kept}
use Rattle.rules.specs.declared.Rule.TheVariants as rule
use Rattle.rules.specs.declared.Axis.{Axis}
use Rattle.rules.specs.declared.Axis.TheVariants.{Column, Code, Frame}
use Rattle.rules.specs.declared.Refusal.{Refusal}
use Rattle.rules.specs.ListFaults.{count_right, bounds_refusals, fits, plain_right, primitives_right, product_refusals, header_refusals, list_refusal}
use Rattle.rules.specs.ListWords.{header_words, most_word, word, bounds_word, primitives_word, product_count, primitive_count, place_of, product_at}
use Rattle.rules.specs.Refusals.{refuse_if, refuse_unless}
use Rattle.laws.specs.SoundList.{BoundsIn, SoundHeader, SoundList}
use Rattle.laws.proofs.Soundness.{unless_kept, if_kept, or_false}

-- ---- the checks of a list

module _ (list : List ℕ) where
  -- the bounds of an axis, and the rules after them
  bounds_in : (axis : Axis) (others : List (Option Refusal)) → first_of (bounds_refusals list axis ++ others) ≡ none
      → BoundsIn list axis × (first_of others ≡ none)
  bounds_in axis others e =
      let i = bounds_word axis in
      let most = most_word axis in
      let a = first_kept (refuse_if (ltb most (word list i)) rule.List i) _ e in
      let upper = ltb most (word list (i + 1)) in
      let b = first_kept (refuse_if (upper || ltb (word list (i + 1)) (word list i)) rule.List (i + 1)) others a.1 in
      let high = or_false upper (ltb (word list (i + 1)) (word list i)) (if_kept _ rule.List (i + 1) b.0) in
      let bounds : BoundsIn list axis = record {
        lo = ltb-false most (word list i) (if_kept _ rule.List i a.0);
        hi = ltb-false most (word list (i + 1)) high.0;
        rise = ltb-false (word list (i + 1)) (word list i) high.1;
      } in
      (bounds, b.1)

  pub header_sound : first_of (header_refusals list) ≡ none → SoundHeader list
  header_sound e =
      let counts = first_kept (refuse_unless (count_right list) rule.List 0) _ e in
      let right = unless_kept (count_right list) rule.List 0 counts.0 in
      let x = bounds_in Column _ counts.1 in
      let y = bounds_in Code _ x.1 in
      let z = bounds_in Frame _ y.1 in
      let primitives = unless_kept (primitives_right list) rule.List primitives_word (first_kept (refuse_unless (primitives_right list) rule.List primitives_word) [] z.1).0 in
      record {
        few = leb-true _ _ (and_left _ (leb (place_of (product_count list)) (length list)) right);
        room = leb-true _ _ (and_right (leb (product_count list) 65536) _ right);
        x = x.0;
        y = y.0;
        z = z.0;
        some_primitive = leb-true _ _ (and_left _ (leb (primitive_count list) 64) primitives);
        few_primitives = leb-true _ _ (and_right (leb 1 (primitive_count list)) _ primitives);
      }

  product_named : (k : ℕ) → first_of (product_refusals list k) ≡ none → (product_at list k).plain < 2 ^ primitive_count list
  product_named k e =
      let n = primitive_count list in
      let c = product_at list k in
      let plain = unless_kept (plain_right n c) rule.List (place_of k) (first_kept (refuse_unless (plain_right n c) rule.List (place_of k)) _ e).0 in
      ltb-true _ _ (and_right (not (eqb c.plain 0)) (fits n c.plain) plain)

  pub list_sound : list_refusal list ≡ none → SoundList list
  unfolding list_refusal
  list_sound e =
      let short = first_kept (refuse_if (ltb (length list) header_words) rule.List (length list)) _ e in
      let parts = none_append (header_refusals list) (flat_map (product_refusals list) (below (product_count list))) short.1 in
      let each = rulings_none (λ k. first_of (product_refusals list k)) (product_count list) (sym (first_rulings (product_refusals list) (product_count list)) ∙ parts.1) in
      record {
        long = ltb-false (length list) header_words (if_kept _ rule.List (length list) short.0);
        header = header_sound parts.0;
        named = λ k l. product_named k (each k l);
      }
