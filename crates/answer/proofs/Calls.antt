-- What the calls over a list answer, from the rules that were kept or broken on the way. Assumes nothing.
use Rattle.std.specs.Prelude.{Ok, Err}
use Prim.Native.Nat.{ℕ}
use mathlib.Core.Bool.{Bool}
use mathlib.Core.List.{List, [], ◌∷◌}
use mathlib.Core.Option.{Option, none, some}
use mathlib.Core.Path.{◌≡◌, ap, ◌∙◌}
use lib.IntN.{ℤ}
use lib.ListN.{length}
use Rattle.ground.specs.Lists.{first_of}
use Rattle.rules.specs.declared.Place.{Place}
use Rattle.rules.specs.declared.Point.{Point}
use Rattle.rules.specs.declared.Refusal.{Refusal}
use Rattle.rules.specs.declared.Searched.TheVariants as searched
use Rattle.rules.specs.Frame.{frame_refusal, leaves_refusal, sample_inside, first_inside, inside_count}
use Rattle.rules.specs.ListCalls.{accept_refusal, ListLocated, ListSearched}
use Rattle.rules.specs.ListInside.{inside_list}
use Rattle.rules.specs.ListWords.{list_window}
use Rattle.rules.specs.Table.{primitives}
use Rattle.rules.specs.Told.{Tale, Told, fine, refused, tell, searched_of}
use Rattle.rules.specs.TreeCalls.{point_refusal, point_tale, search_tale}
use Rattle.laws.proofs.Telling.{point_told, told_now, told_later, told_fine}
use Rattle.frame.proofs.Tallies.{tally_told}
use Rattle.frame.specs.Tallies.{Tally, Tallied}
use Rattle.says.specs.Checks.{Accepted}

-- ---- table and list together

module _ (t : List ℤ) (list : List ℕ) where
  -- what a call tells, by the rules that come after these
  module _ (more : List (Option Refusal)) (tale : Tale) where
    refused_by : {r : Refusal} → accept_refusal t list ≡ some r → refused r ≡ tell (first_of (accept_refusal t list ∷ more)) tale
    refused_by = told_now (accept_refusal t list) more tale

    goes_on : Accepted t list → {told : Told} → told ≡ tell (first_of more) tale → told ≡ tell (first_of (accept_refusal t list ∷ more)) tale
    goes_on A = told_later (accept_refusal t list) more tale A.accepts

  module _ (p : Point) where
    abbrev answer : Tale
    answer = point_tale (inside_list (primitives t) list p)

    abbrev window : Option Refusal
    window = point_refusal (list_window list) p

    pub point_refused : {r : Refusal} → accept_refusal t list ≡ some r → ListLocated t list p (Err r)
    point_refused h = record { answer = refused_by (window ∷ []) answer h }

    module _ (A : Accepted t list) where
      pub point_out : {r : Refusal} → window ≡ some r → ListLocated t list p (Err r)
      point_out k = record { answer = goes_on (window ∷ []) answer A (told_now window [] answer k) }

      pub point_fine : window ≡ none → {b : Bool} → b ≡ inside_list (primitives t) list p → ListLocated t list p (Ok b)
      point_fine k {b} e = record {
        answer = point_told b ∙ ap (λ (b : Bool). fine (point_tale b)) e ∙ goes_on (window ∷ []) answer A (told_later window [] answer k (told_fine answer));
      }

  module _ (samples : List ℤ) (place : Place) where
    abbrev is_inside : Point → Bool
    is_inside = inside_list (primitives t) list

    abbrev tale : Tale
    tale = search_tale (first_inside is_inside samples place) (inside_count is_inside samples place)

    abbrev leaves : Option Refusal
    leaves = leaves_refusal (list_window list) samples place

    pub search_refused : {r : Refusal} → accept_refusal t list ≡ some r → ListSearched t list samples place (searched.Refused r)
    search_refused h = record { answer = refused_by (frame_refusal samples place ∷ leaves ∷ []) tale h }

    module _ (A : Accepted t list) where
      pub search_frame : {r : Refusal} → frame_refusal samples place ≡ some r → ListSearched t list samples place (searched.Refused r)
      search_frame k = record { answer = goes_on (frame_refusal samples place ∷ leaves ∷ []) tale A (told_now (frame_refusal samples place) (leaves ∷ []) tale k) }

      module _ (f : frame_refusal samples place ≡ none) where
        framed : {told : Told} → told ≡ tell (first_of (leaves ∷ [])) tale → told ≡ tell (first_of (accept_refusal t list ∷ frame_refusal samples place ∷ leaves ∷ [])) tale
        framed e = goes_on (frame_refusal samples place ∷ leaves ∷ []) tale A (told_later (frame_refusal samples place) (leaves ∷ []) tale f e)

        pub search_leaves : {r : Refusal} → leaves ≡ some r → ListSearched t list samples place (searched.Refused r)
        search_leaves k = record { answer = framed (told_now leaves [] tale k) }

        pub search_fine : leaves ≡ none → {n : Tally} → Tallied (sample_inside is_inside samples place) (length samples) n
            → ListSearched t list samples place (searched_of (Ok n))
        unfolding first_inside inside_count
        search_fine k {n} tallied = record {
          answer = tally_told n ∙ (λ i. fine (search_tale (tallied.first i) (tallied.count i))) ∙ framed (told_later leaves [] tale k (told_fine tale));
        }
