-- What is refused of a screenful once table and list are accepted.
use Rattle.std.specs.Prelude.{ℕ, ◌*◌, List, [], ◌∷◌, ℤ}
use Rattle.std.proofs.Math.Option.{Option}
use Rattle.ground.specs.Lists.{first_of}
use Rattle.rules.specs.declared.Refusal.{Refusal}
use Rattle.rules.specs.Refusals.{room_refusal}
use Rattle.rules.specs.Screen.{frames_refusal, triple_words}

abbrev pub shape_refusal : List ℤ → ℕ → ℕ → Option Refusal
shape_refusal codes frames room = first_of (frames_refusal codes frames ∷ room_refusal (triple_words * frames) room ∷ [])
