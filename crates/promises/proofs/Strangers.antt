-- A list refuses every frame with a sample out of its window, whoever made the list. Assumes nothing.
use Prim.Native.Nat.{ℕ, ◌<◌}
use native.Mathlib.Omega.{arith}
use mathlib.Core.Bool.{Bool, true, false}
use mathlib.Core.List.{List, []}
use mathlib.Core.Option.{Option, none, some}
use mathlib.Core.Path.{◌≡◌, refl, sym, ap, ◌∙◌}
use lib.IntN.{ℤ}
use lib.ListN.{length}
use Rattle.ground.specs.Lists.{or_else, first_of}
use Rattle.ground.proofs.Branches.{false_true}
use Rattle.ground.proofs.Counting.{broken, rulings_none, first_kept}
use Rattle.rules.specs.declared.Rule.TheVariants as rule
use Rattle.rules.specs.declared.Place.{Place}
use Rattle.rules.specs.declared.Refusal.{Refusal}
use Rattle.rules.specs.declared.Searched.{Searched}
use Rattle.rules.specs.Frame.{frame_refusal, leaves_refusal, first_inside, inside_count}
use Rattle.rules.specs.ListCalls.{accept_refusal, list_search_refusal, ListSearched}
use Rattle.rules.specs.ListInside.{inside_list}
use Rattle.rules.specs.ListWords.{list_window}
use Rattle.rules.specs.Refusals.{refuse, refuse_unless}
use Rattle.rules.specs.Table.{primitives}
use Rattle.rules.specs.Told.{refused, tell, told_searched, refused_by}
use Rattle.rules.specs.TreeCalls.{search_tale}
use Rattle.promises.proofs.ListAsTree.{sample_held, sample_rule, held_upto}
use Rattle.laws.proofs.Soundness.{unless_kept}

-- whoever meets the record of the search over a list
module _ (t : List ℤ) (list : List ℕ) (samples : List ℤ) (place : Place) {r : Searched} (met : ListSearched t list samples place r) where
  by_rule : (q : Refusal) → list_search_refusal t list samples place ≡ some q → told_searched r ≡ refused q
  by_rule q e =
      let is_inside = inside_list (primitives t) list in
      let found = search_tale (first_inside is_inside samples place) (inside_count is_inside samples place) in
      met.answer ∙ ap (λ (x : Option Refusal). tell x found) e

  -- For every list that passes the checks, whoever made it: a frame with a sample outside the list's window is refused with the first such
  -- sample, so one window's list can never call a neighbour's frame a hit.
  pub stranger_refused : accept_refusal t list ≡ none → frame_refusal samples place ≡ none
      → (k : ℕ) → k < length samples → sample_held (list_window list) samples place k ≡ false
      → ((j : ℕ) → j < k → sample_held (list_window list) samples place j ≡ true)
      → told_searched r ≡ refused_by 10 k
  unfolding first_of
  stranger_refused accepted frame k l out earlier = by_rule (record { rule = rule.Outside; value = k }) first
    where
      leaves : leaves_refusal (list_window list) samples place ≡ refuse rule.Outside k
      leaves =
          held_upto (list_window list) samples place k (omega arith) earlier
          ∙ broken (sample_rule (list_window list) samples place) k (length samples) l (ap (λ (b : Bool). refuse_unless b rule.Outside k) out)

      first : list_search_refusal t list samples place ≡ refuse rule.Outside k
      first = λ i. or_else (accepted i) (or_else (frame i) (or_else (leaves i) none))

  -- And whether or not table, list and frame pass their checks: with some sample outside the list's window the answer is a refusal.
  pub never_a_hit : (k : ℕ) → k < length samples → sample_held (list_window list) samples place k ≡ false → (q : Refusal) × (told_searched r ≡ refused q)
  never_a_hit k l out = go (list_search_refusal t list samples place) refl
    where
      kept_no : list_search_refusal t list samples place ≡ none → false ≡ true
      kept_no e =
          let After-frame = (first_kept (frame_refusal samples place) _ (first_kept (accept_refusal t list) _ e).1).1 in
          let leaves = (first_kept (leaves_refusal (list_window list) samples place) [] After-frame).0 in
          let kept = rulings_none (sample_rule (list_window list) samples place) (length samples) leaves k l in
          sym out ∙ unless_kept (sample_held (list_window list) samples place k) rule.Outside k kept

      go : (x : Option Refusal) → list_search_refusal t list samples place ≡ x → (q : Refusal) × (told_searched r ≡ refused q)
      go none e = false_true (kept_no e)
      go (some q) e = (q, by_rule q e)
