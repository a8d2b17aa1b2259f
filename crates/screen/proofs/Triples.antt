-- What a search by an accepted list tells is small: 32 bits hold each of the three words. Assumes nothing.
use Prim.Native.Nat.{ℕ, ◌+◌, ◌≤◌, ◌<◌}
use native.Mathlib.Omega.{arith}
use mathlib.Core.Bool.{Bool, true, ◌||◌}
use mathlib.Core.List.{List, [], ◌∷◌}
use mathlib.Core.Option.{Option, none, some}
use mathlib.Core.Path.{◌≡◌, refl, sym, subst}
use lib.Dec.{eqb, ltb}
use lib.IntN.{ℤ}
use lib.ListN.{length}
use Rattle.ground.specs.Lists.{All, below, all_of, first_of}
use Rattle.ground.proofs.Counting.{numbers_below, first_kept}
use Rattle.ground.proofs.Lists.{all_map, found}
use Rattle.ground.proofs.Namings.{count_most}
use Rattle.ground.proofs.Pieces.{from_length}
use Rattle.rules.specs.declared.Rule.{Rule}
use Rattle.rules.specs.declared.Rule.TheVariants as rule
use Rattle.rules.proofs.Told.{number_bounds}
use Rattle.rules.specs.declared.Place.{Place}
use Rattle.rules.specs.declared.Point.{Point}
use Rattle.rules.specs.declared.Refusal.{Refusal}
use Rattle.rules.specs.Boxes.{Box, holds}
use Rattle.rules.specs.Frame.{most_samples, column, code_at, point_of, frame_refusal, leaves_refusal, sample_inside, first_inside, inside_count}
use Rattle.rules.specs.ListCalls.{accept_refusal, list_search_refusal, list_search_told}
use Rattle.rules.specs.ListInside.{inside_list}
use Rattle.rules.specs.ListWords.{list_window}
use Rattle.rules.specs.Ranges.{within, columns, frames}
use Rattle.rules.specs.Refusals.{refuse_unless}
use Rattle.rules.specs.Table.{primitives}
use Rattle.rules.specs.Told.{fine, refused}
use Rattle.rules.specs.TreeCalls.{search_tale}
use Rattle.laws.proofs.Columns.{frame_right}
use Rattle.laws.proofs.Refusing.{Gives, if_gives, unless_gives, first_gives, rulings_give, told_by}
use Rattle.says.specs.Checks.{Accepted}
use Rattle.screen.specs.Triples.{Small}

abbrev SmallRefusal : Refusal → Type 0
SmallRefusal q = Small (refused q)

few : (r : Rule) (value : ℕ) → value ≤ most_samples → SmallRefusal (record { rule = r; value = value })
few r value v = (omega (arith, number_bounds r), (v, (omega arith, tt)))

module _ (samples : List ℤ) (place : Place) where
  abbrev wrong_length : Bool
  wrong_length = eqb (length samples) 0 || ltb most_samples (length samples)

  abbrev columns_in : Bool
  columns_in = all_of (λ k. within columns (column place k)) (below (length samples))

  frame_small : Gives SmallRefusal (frame_refusal samples place)
  frame_small =
      let length_rule = if_gives SmallRefusal wrong_length rule.Frame 0 (few rule.Frame 0 (omega arith)) in
      let column_rule = unless_gives SmallRefusal columns_in rule.Frame 1 (few rule.Frame 1 (omega arith)) in
      let number_rule = unless_gives SmallRefusal (within frames place.frame) rule.Frame 2 (few rule.Frame 2 (omega arith)) in
      first_gives SmallRefusal _ (length_rule, (column_rule, (number_rule, tt)))

  module _ (short : length samples ≤ most_samples) where
    leaves_small : (window : Box) → Gives SmallRefusal (leaves_refusal window samples place)
    leaves_small window =
        let is_in : ℕ → Bool = λ k. holds window (point_of place k (code_at samples k)) in
        rulings_give SmallRefusal (λ k. refuse_unless (is_in k) rule.Outside k) (length samples) (λ k l. unless_gives SmallRefusal (is_in k) rule.Outside k (few rule.Outside k (omega arith)))

    found_small : (is_inside : Point → Bool) → Small (fine (search_tale (first_inside is_inside samples place) (inside_count is_inside samples place)))
    unfolding first_inside inside_count
    found_small is_inside = go _ _ (λ k e. found InFrame test numbers each e) (count_most test numbers)
      where
        InFrame : ℕ → Type 0
        InFrame k = k < 0 + length samples

        test : ℕ → Bool
        test = sample_inside is_inside samples place

        numbers : List ℕ
        numbers = below (length samples)

        each : All (λ k. test k ≡ true → InFrame k) numbers
        each = all_map InFrame (λ k. test k ≡ true → InFrame k) (λ k l h. l) numbers (numbers_below 0 (length samples))

        go : (found : Option ℕ) (count : ℕ) → ((k : ℕ) → found ≡ some k → InFrame k) → count ≤ length numbers → Small (fine (search_tale found count))
        go none count in_frame few = (omega arith, (omega arith, (omega arith, tt)))
        go (some k) count in_frame few =
            (omega arith, (omega (arith, in_frame k refl), (omega (arith, from_length 0 (length samples)), tt)))

module _ (t : List ℤ) (list : List ℕ) (A : Accepted t list) (samples : List ℤ) (place : Place) where
  abbrev leaves : Option Refusal
  leaves = leaves_refusal (list_window list) samples place

  rule_small : Gives SmallRefusal (list_search_refusal t list samples place)
  unfolding first_of
  rule_small =
      let past : list_search_refusal t list samples place ≡ first_of (frame_refusal samples place ∷ leaves ∷ []) = rw A.accepts in
      subst (Gives SmallRefusal) (sym past)
      (go (frame_refusal samples place) (frame_small samples place)
      (λ e. leaves_small samples place (frame_right samples place e).not_over (list_window list)))
    where
      go : (frame : Option Refusal) → Gives SmallRefusal frame → (frame ≡ none → Gives SmallRefusal leaves) → Gives SmallRefusal (first_of (frame ∷ leaves ∷ []))
      go none framed left = first_gives SmallRefusal (leaves ∷ []) (left refl, tt)
      go (some q) framed left = framed

  pub search_small : Small (list_search_told t list samples place)
  search_small =
      told_by Small (list_search_refusal t list samples place) _ rule_small (λ kept.
      let framed = first_kept (frame_refusal samples place) (leaves ∷ []) (first_kept (accept_refusal t list) (frame_refusal samples place ∷ leaves ∷ []) kept).1 in
      found_small samples place (frame_right samples place framed.0).not_over (inside_list (primitives t) list)) refl
