-- The code reads a lent number back from its bits: the point or the place that it makes is still that of the numbers. Assumes nothing.
use mathlib.Core.Path.{◌≡◌, subst}
use lib.IntN.{ℤ}
use mir.Syntax.{w32}
use mir.Val.{SFits, to_z, of_z}
use mir.ValLaws.{to_z-of_z}
use Rattle.rules.specs.Told.{Told}
use Rattle.answer_c.specs.declared.Answer.{Answer}
use Rattle.answer_c.specs.Answers.{answer_of}
use Rattle.zone_c.specs.Answered.{Answered}
use Rattle.zone_c.specs.Lent.{point, place}

abbrev held : ℤ → ℤ
held n = to_z w32 (of_z w32 n)

pub same_point : {x y z : ℤ} → SFits w32 x → SFits w32 y → SFits w32 z → point (held x) (held y) (held z) ≡ point x y z
same_point {x} {y} {z} f g h = λ i. point (to_z-of_z w32 x f i) (to_z-of_z w32 y g i) (to_z-of_z w32 z h i)

pub same_place : {first frame : ℤ} → SFits w32 first → SFits w32 frame → place (held first) (held frame) ≡ place first frame
same_place {first} {frame} f g = λ i. place (to_z-of_z w32 first f i) (to_z-of_z w32 frame g i)

-- the call was asked about what the code made, and C asked about the same
pub answered : {Asked Outcome : Type 0} {told : Outcome → Told} (promise : Asked → Outcome → Type 0) {made lent : Asked} {r : Outcome} {a : Answer}
    → made ≡ lent → promise made r → a ≡ answer_of (told r) → Answered told (promise lent) a
answered promise {r = r} same kept is = record { outcome = r; kept = subst (λ x. promise x r) same kept; is = is }
