-- What is refused of a picture once table and list are accepted.
use Rattle.std.specs.Prelude.{ℕ, [], ◌∷◌}
use Rattle.std.proofs.Math.Option.{Option}
use Rattle.ground.specs.Lists.{first_of}
use Rattle.rules.specs.declared.Rectangle.{Rectangle}
use Rattle.rules.specs.declared.Refusal.{Refusal}
use Rattle.rules.specs.Boxes.{Box}
use Rattle.rules.specs.Refusals.{room_refusal}
use Rattle.rules.specs.Waterfall.{picture_words, rectangle_refusal}

abbrev pub shape_refusal : Box → Rectangle → ℕ → Option Refusal
shape_refusal window q room = first_of (rectangle_refusal window q ∷ room_refusal (picture_words q) room ∷ [])
