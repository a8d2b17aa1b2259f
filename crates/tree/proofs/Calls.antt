-- What the calls over the tree answer, from the rules that were kept or broken on the way. Assumes nothing.
use Rattle.std.specs.Prelude.{Ok, Err}
use mathlib.Core.Bool.{Bool}
use mathlib.Core.List.{List, [], ◌∷◌}
use mathlib.Core.Option.{none, some}
use mathlib.Core.Path.{◌≡◌, ap, ◌∙◌}
use lib.IntN.{ℤ}
use lib.ListN.{length}
use Rattle.rules.specs.declared.Place.{Place}
use Rattle.rules.specs.declared.Point.{Point}
use Rattle.rules.specs.declared.Refusal.{Refusal}
use Rattle.rules.specs.declared.Searched.TheVariants as searched
use Rattle.rules.specs.Boxes.{everywhere}
use Rattle.rules.specs.Verdict.{table_refusal}
use Rattle.rules.specs.Tree.{tree_of}
use Rattle.rules.specs.Inside.{inside}
use Rattle.rules.specs.Frame.{frame_refusal, sample_inside, first_inside, inside_count}
use Rattle.rules.specs.Told.{Tale, fine, searched_of}
use Rattle.rules.specs.TreeCalls.{point_refusal, point_tale, search_tale, TreeLocated, TreeSearched}
use Rattle.laws.proofs.Telling.{point_told, told_now, told_later, told_fine}
use Rattle.frame.proofs.Tallies.{tally_told}
use Rattle.frame.specs.Tallies.{Tally, Tallied}

module _ (t : List ℤ) (p : Point) where
  abbrev answer : Tale
  answer = point_tale (inside (tree_of t) p)

  pub point_table : {r : Refusal} → table_refusal t ≡ some r → TreeLocated t p (Err r)
  point_table h = record { answer = told_now (table_refusal t) (point_refusal everywhere p ∷ []) answer h }

  module _ (h : table_refusal t ≡ none) where
    pub point_out : {r : Refusal} → point_refusal everywhere p ≡ some r → TreeLocated t p (Err r)
    point_out k = record { answer = told_later (table_refusal t) (point_refusal everywhere p ∷ []) answer h (told_now (point_refusal everywhere p) [] answer k) }

    pub point_fine : point_refusal everywhere p ≡ none → {b : Bool} → b ≡ inside (tree_of t) p → TreeLocated t p (Ok b)
    point_fine k {b} e = record {
      answer = point_told b ∙ ap (λ (b : Bool). fine (point_tale b)) e
          ∙ told_later (table_refusal t) (point_refusal everywhere p ∷ []) answer h (told_later (point_refusal everywhere p) [] answer k (told_fine answer));
    }

module _ (t samples : List ℤ) (place : Place) where
  abbrev tale : Tale
  tale = search_tale (first_inside (inside (tree_of t)) samples place) (inside_count (inside (tree_of t)) samples place)

  pub search_table : {r : Refusal} → table_refusal t ≡ some r → TreeSearched t samples place (searched.Refused r)
  search_table h = record { answer = told_now (table_refusal t) (frame_refusal samples place ∷ []) tale h }

  module _ (h : table_refusal t ≡ none) where
    pub search_frame : {r : Refusal} → frame_refusal samples place ≡ some r → TreeSearched t samples place (searched.Refused r)
    search_frame k = record { answer = told_later (table_refusal t) (frame_refusal samples place ∷ []) tale h (told_now (frame_refusal samples place) [] tale k) }

    pub search_fine : frame_refusal samples place ≡ none → {n : Tally} → Tallied (sample_inside (inside (tree_of t)) samples place) (length samples) n
        → TreeSearched t samples place (searched_of (Ok n))
    unfolding first_inside inside_count
    search_fine k {n} tallied = record {
      answer = tally_told n ∙ (λ i. fine (search_tale (tallied.first i) (tallied.count i)))
          ∙ told_later (table_refusal t) (frame_refusal samples place ∷ []) tale h (told_later (frame_refusal samples place) [] tale k (told_fine tale));
    }
