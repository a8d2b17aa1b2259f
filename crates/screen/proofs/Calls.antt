-- What the search of a screenful answers, from the rules that were kept or broken on the way. Assumes nothing.
use Rattle.std.specs.Prelude.{Ok, Err}
use Prim.Native.Nat.{ℕ, ◌*◌, ◌≤◌}
use mathlib.Core.List.{List, [], ◌∷◌}
use mathlib.Core.Option.{Option, none, some}
use mathlib.Core.Path.{◌≡◌, ap, ◌∙◌}
use borrow.Author.Tests.{leb-true}
use lib.Dec.{leb}
use lib.IntN.{ℤ}
use lib.ListN.{length}
use lib.Seq.{sets}
use Rattle.ground.proofs.Counting.{first_broken, first_passed, first_kept}
use Rattle.rules.specs.declared.Rule.TheVariants.{Room}
use Rattle.rules.specs.declared.Place.{Place}
use Rattle.rules.specs.declared.Refusal.{Refusal}
use Rattle.rules.specs.ListCalls.{accept_refusal, screen_triples, screen_refusal, ScreenSearched}
use Rattle.rules.specs.Refusals.{room_refusal}
use Rattle.rules.specs.Screen.{frames_refusal, triple_words}
use Rattle.laws.proofs.Leaving.{Left, as_it_was, at_its_start}
use Rattle.laws.proofs.Soundness.{unless_kept}
use Rattle.says.specs.Checks.{Accepted}
use Rattle.screen.specs.Shape.{shape_refusal}
use Rattle.screen.proofs.Frames.{triples_length, triples_all}
use Rattle.rules.specs.Told.{Written}

-- where nothing is refused of it, the shape is right and there is room
pub shape_kept : (codes : List ℤ) (frames room : ℕ) → shape_refusal codes frames room ≡ none → (frames_refusal codes frames ≡ none) × (triple_words * frames ≤ room)
shape_kept codes frames room right =
    let needed = triple_words * frames in
    let shape = first_kept (frames_refusal codes frames) (room_refusal needed room ∷ []) right in
    let enough = unless_kept (leb needed room) Room needed (first_kept (room_refusal needed room) [] shape.1).0 in
    (shape.0, leb-true needed room enough)

module _ (t : List ℤ) (list : List ℕ) (codes : List ℤ) (frames : ℕ) (place : Place) (before : List ℕ) where
  abbrev rule : Option Refusal
  rule = screen_refusal t list codes frames (length before)

  abbrev shape : List (Option Refusal)
  shape = frames_refusal codes frames ∷ room_refusal (triple_words * frames) (length before) ∷ []

  abbrev words : List ℕ
  words = screen_triples t list codes frames place

  abbrev Outcome : List ℕ → Written → Type 0
  Outcome = ScreenSearched t list codes frames place before

  by_left : {after : List ℕ} {r : Written} → Left rule (triple_words * frames) words before after r → Outcome after r
  by_left L = record { answer = L.answer; buffer = L.buffer }

  pub not_accepted : {r : Refusal} → accept_refusal t list ≡ some r → Outcome before (Err r)
  not_accepted h = by_left (as_it_was rule (triple_words * frames) words before (first_broken (accept_refusal t list) shape h))

  module _ (A : Accepted t list) where
    past_accept : rule ≡ shape_refusal codes frames (length before)
    past_accept = first_passed (accept_refusal t list) shape A.accepts

    pub shape_wrong : {r : Refusal} → shape_refusal codes frames (length before) ≡ some r → Outcome before (Err r)
    shape_wrong h = by_left (as_it_was rule (triple_words * frames) words before (past_accept ∙ h))

    pub written : shape_refusal codes frames (length before) ≡ none → {after : List ℕ} → after ≡ sets before 0 words → Outcome after (Ok (triple_words * frames))
    written right is =
        let size = ap length (triples_all t list codes frames place) ∙ triples_length t list codes frames place frames in
        by_left (at_its_start rule (triple_words * frames) words before (past_accept ∙ right) size (shape_kept codes frames (length before) right).1 is)
