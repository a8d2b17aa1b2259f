-- The words of a screenful: three for each frame. Assumes nothing.
use Prim.Native.Nat.{ℕ}
use mathlib.Core.List.{List}
use mathlib.Core.Option.{Option, none, some}
use mathlib.Core.Path.{◌≡◌, refl}
use lib.IntN.{ℤ}
use lib.ListN.{length}
use Rattle.rules.specs.declared.Place.{Place}
use Rattle.rules.specs.declared.Refusal.{Refusal}
use Rattle.rules.specs.Frame.{first_inside, inside_count}
use Rattle.rules.specs.ListCalls.{list_search_refusal, frame_triple}
use Rattle.rules.specs.ListInside.{inside_list}
use Rattle.rules.specs.Screen.{frame_at, later, triple_words, triple_of}
use Rattle.rules.specs.Table.{primitives}
use Rattle.rules.specs.Told.{tell}
use Rattle.rules.specs.TreeCalls.{search_tale}

-- whatever a search tells
three_words : (x : Option Refusal) (found : Option ℕ) (count : ℕ) → length (triple_of (tell x (search_tale found count))) ≡ triple_words
three_words none none count = refl
three_words none (some first) count = refl
three_words (some q) found count = refl

pub triple_length : (t : List ℤ) (list : List ℕ) (codes : List ℤ) (frames : ℕ) (place : Place) (j : ℕ)
    → length (frame_triple t list codes frames place j) ≡ triple_words
triple_length t list codes frames place j =
    let is_inside = inside_list (primitives t) list in
    let samples = frame_at codes frames j in
    let here = later place j in
    three_words (list_search_refusal t list samples here) (first_inside is_inside samples here) (inside_count is_inside samples here)
