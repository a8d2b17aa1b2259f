-- Checks that hand on the first refusal that they meet: a rule for each number in turn, and one rule after another. Assumes nothing.
use Rattle.std.specs.Prelude.{Result, Ok, Err, IsErrAnd}
use Rattle.std.proofs.lemmas.Result.{err_from_is_err_and}
use Prim.Native.Nat.{ℕ, ◌+◌, ◌≤◌, ◌<◌}
use mathlib.Core.List.{List, [], ◌∷◌, ◌++◌}
use mathlib.Core.Option.{Option, none, some}
use mathlib.Core.Path.{◌≡◌, refl, sym, ap, ap₂, subst, ◌∙◌}
use Rattle.ground.specs.Lists.{or_else, first_of, rulings}
use Rattle.ground.proofs.Counting.{kept, broken, all_kept, first_append}
use Rattle.rules.specs.declared.Refusal.{Refusal}
use Rattle.rules.specs.Told.{Checked}
use Rattle.laws.specs.Checking.{checked_by, first_refused}
use Rattle.laws.proofs.Telling.{went_on, stopped, alone}

-- what the exit of a `?` answers is the refusal that it met
pub handed_on : {A : Type 0} {r : Result A Refusal} {e : Refusal} → IsErrAnd r (λ d. d ≡ e) → r ≡ Err e
handed_on {r = r} h = let p = err_from_is_err_and r h in p.1 ∙ ap Err p.2

-- and what holds of the answer that refuses so holds of it
pub on_exit : {A : Type 0} (P : Result A Refusal → Type 0) {r : Result A Refusal} {e : Refusal} → IsErrAnd r (λ d. d ≡ e) → P (Err e) → P r
on_exit P at p = subst P (sym (handed_on at)) p

-- a rule for each of the numbers below n, of which those below k were kept
module _ (rule : ℕ → Option Refusal) {k n : ℕ} (kept_so_far : rulings rule 0 n ≡ rulings rule k n) where
  pub turn_kept : k < n → {u : Unit {0}} → Ok u ≡ checked_by (rule k) → rulings rule 0 n ≡ rulings rule (k + 1) n
  turn_kept l h = kept_so_far ∙ kept rule k n l (went_on (rule k) h)

  pub turn_broken : k < n → {r : Checked} {e : Refusal} → IsErrAnd r (λ d. d ≡ e) → Err e ≡ checked_by (rule k) → r ≡ checked_by (rulings rule 0 n)
  turn_broken l at h = handed_on at ∙ sym (ap checked_by (kept_so_far ∙ broken rule k n l (stopped (rule k) h)))

  pub turns_over : n ≤ k → {u : Unit {0}} → Ok u ≡ checked_by (rulings rule 0 n)
  turns_over l = sym (ap checked_by (kept_so_far ∙ all_kept rule k n l))

-- one check after another
refused_first : (x y : Option Refusal) → first_refused (checked_by x) (checked_by y) ≡ checked_by (or_else x y)
refused_first none y = refl
refused_first (some r) y = refl

-- two checks by their rules
module _ (xs ys : List (Option Refusal)) where
  pub in_turn : {a b r : Checked} → a ≡ checked_by (first_of xs) → b ≡ checked_by (first_of ys) → r ≡ first_refused a b → r ≡ checked_by (first_of (xs ++ ys))
  in_turn ha hb h = h ∙ ap₂ first_refused ha hb ∙ refused_first (first_of xs) (first_of ys) ∙ ap checked_by (sym (first_append xs ys))

  -- the first of them hands on its refusal, or the second answers
  pub part_broken : {r : Checked} {e : Refusal} → IsErrAnd r (λ d. d ≡ e) → Err e ≡ checked_by (first_of xs) → r ≡ checked_by (first_of (xs ++ ys))
  part_broken at h = in_turn h refl (handed_on at)

  pub part_kept : {u : Unit {0}} → Ok u ≡ checked_by (first_of xs) → {r : Checked} → r ≡ checked_by (first_of ys) → r ≡ checked_by (first_of (xs ++ ys))
  part_kept h e = in_turn h e refl

-- and where the first is one rule
module _ (x : Option Refusal) (xs : List (Option Refusal)) where
  pub first_broken : {r : Checked} {e : Refusal} → IsErrAnd r (λ d. d ≡ e) → Err e ≡ checked_by x → r ≡ checked_by (first_of (x ∷ xs))
  first_broken at h = part_broken (x ∷ []) xs at (alone x h)

  pub first_kept_on : {u : Unit {0}} → Ok u ≡ checked_by x → {r : Checked} → r ≡ checked_by (first_of xs) → r ≡ checked_by (first_of (x ∷ xs))
  first_kept_on h e = part_kept (x ∷ []) xs (alone x h) e
