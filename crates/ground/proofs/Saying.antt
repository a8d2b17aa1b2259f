-- What a test says, and what tests that are joined say. Assumes nothing.
use mathlib.Core.Bool.{Bool, true, false, not, ◌&&◌, ◌||◌}
use mathlib.Core.List.{List, [], ◌∷◌}
use mathlib.Core.Logic.{◌⊎◌, inl, inr, ⊎_elim}
use mathlib.Core.Path.{◌≡◌, refl}
use Rattle.ground.specs.Lists.{any_of, Some}
use Rattle.ground.specs.Tests.{Says}
use Rattle.ground.proofs.Branches.{false_true}

pub says_or : (a b : Bool) (X Y : Type 0) → Says a X → Says b Y → Says (a || b) (X ⊎ Y)
says_or true b X Y x y = inl x
says_or false true X Y x y = inr y
says_or false false X Y x y = ⊎_elim x y

pub says_and : (a b : Bool) (X Y : Type 0) → Says a X → Says b Y → Says (a && b) (X × Y)
says_and true true X Y x y = (x, y)
says_and true false X Y x y = λ k. y k.1
says_and false b X Y x y = λ k. x k.0

pub says_not : (b : Bool) (Y : Type 0) → Says b Y → Says (not b) (Y → ⊥)
says_not true Y y = λ k. k y
says_not false Y y = y

pub says_itself : (b : Bool) → Says b (b ≡ true)
says_itself true = refl
says_itself false = λ e. false_true e

-- what a test says, and that it says so
pub says_true : (b : Bool) {X : Type 0} → Says b X → X → b ≡ true
says_true true s x = refl
says_true false s x = absurd (s x)

pub true_says : (b : Bool) {X : Type 0} → Says b X → b ≡ true → X
true_says true s e = s
true_says false s e = false_true e

-- a test that says something of each element says it of some element
pub says_any : {A : Type 0} (test : A → Bool) (P : A → Type 0) → ((x : A) → Says (test x) (P x)) → (xs : List A) → Says (any_of test xs) (Some P xs)
unfolding any_of
says_any test P says [] = λ none. none
says_any test P says (x ∷ xs) = says_or (test x) (any_of test xs) (P x) (Some P xs) (says x) (says_any test P says xs)
