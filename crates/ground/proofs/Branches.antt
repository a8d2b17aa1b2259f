-- What a branch tells of `p && q` and `p || q`, of a choice, and of what a test says; tests that say the same. Assumes nothing.
use mathlib.Core.Bool.{Bool, true, false, ◌&&◌, ◌||◌}
use mathlib.Core.Logic.{◌⊎◌, inl, inr}
use mathlib.Core.Path.{◌≡◌, refl, sym, subst}
use lib.Dec.{T}
use Rattle.ground.specs.Tests.{Says}

pub false_true {ℓ} : {A : Type ℓ} → false ≡ true → A
false_true e = absurd (subst T (sym e) tt)

module _ (p q : Bool) where
  pub and_yes : p ≡ true → q ≡ (p && q)
  and_yes h = rw h

  pub and_no : p ≡ false → false ≡ (p && q)
  and_no h = rw h

-- both parts of `p && q`
pub and_left : (p q : Bool) → (p && q) ≡ true → p ≡ true
and_left true q h = refl
and_left false q h = h

pub and_right : (p q : Bool) → (p && q) ≡ true → q ≡ true
and_right true q h = h
and_right false q h = false_true h

-- one part of `p || q`
pub or_cases : (p q : Bool) → (p || q) ≡ true → (p ≡ true) ⊎ (q ≡ true)
or_cases true q h = inl refl
or_cases false q h = inr h

-- two tests that tell each other
pub bool_both : (a b : Bool) → (a ≡ true → b ≡ true) → (b ≡ true → a ≡ true) → a ≡ b
bool_both true b f g = sym (f refl)
bool_both false true f g = g refl
bool_both false false f g = refl

-- what a test says, either way
pub says_holds : (t : Bool) (X : Type 0) → Says t X → t ≡ true → X
says_holds true X s h = s
says_holds false X s h = false_true h

pub holds_said : (t : Bool) (X : Type 0) → Says t X → X → t ≡ true
holds_said true X s x = refl
holds_said false X s x = absurd (s x)
