-- The running tally of a search comes to the first inside sample and the number of inside samples. Assumes nothing.
use Prim.Native.Nat.{ℕ, suc, ◌+◌, ◌≤◌, ◌<◌}
use native.Mathlib.Nat.{zero-add, add-zero}
use native.Mathlib.Omega.{arith}
use mathlib.Core.Bool.{Bool, true, false}
use mathlib.Core.List.{List}
use mathlib.Core.Option.{Option, some}
use mathlib.Core.Path.{◌≡◌, refl, sym, ap, ◌∙◌}
use Rattle.std.specs.Prelude.{Some, None, Ok, if◌then◌else◌}
use Rattle.rules.specs.Told.{fine, told_searched, searched_of}
use Rattle.rules.specs.TreeCalls.{search_tale}
use Rattle.ground.specs.Lists.{rest, below, or_else, find_if, count_if}
use Rattle.ground.proofs.Counting.{rest_cons, rest_done, rest_all, or_else_none}
use Rattle.frame.specs.Tallies.{Tally, seen, seen_count, stepped, Tallied, Running}

pub begins : (test : ℕ → Bool) (n : ℕ) → Running test n 0 None
begins test n = record { first = ap (find_if test) (rest_all n); count = ap (λ (ks : List ℕ). 0 + count_if test ks) (rest_all n) ∙ zero-add (count_if test (below n)); few = omega arith }

seen_step : (t : Tally) (k : ℕ) (b : Bool) (x : Option ℕ) → or_else (seen (stepped t k b)) x ≡ or_else (seen t) (if b then some k else x)
seen_step t k false x = refl
seen_step None k true x = refl
seen_step (Some found) k true x = refl

count_step : (t : Tally) (k m : ℕ) (b : Bool) → seen_count (stepped t k b) + m ≡ seen_count t + (if b then suc m else m)
count_step t k m false = refl
count_step None k m true = omega arith
count_step (Some found) k m true = omega arith

few_step : (t : Tally) (k n : ℕ) (b : Bool) → seen_count t ≤ n → seen_count (stepped t k b) ≤ n + 1
few_step t k n false h = omega arith
few_step None k n true h = omega arith
few_step (Some found) k n true h = omega arith

module _ (test : ℕ → Bool) {n k : ℕ} {t : Tally} (l : k < n) (r : Running test n k t) where
  find_next : find_if test (rest k n) ≡ (if test k then some k else find_if test (rest (k + 1) n))
  unfolding find_if
  find_next = ap (find_if test) (rest_cons k n l)

  count_next : count_if test (rest k n) ≡ (if test k then suc (count_if test (rest (k + 1) n)) else count_if test (rest (k + 1) n))
  unfolding count_if
  count_next = ap (count_if test) (rest_cons k n l)

  pub goes_on : Running test n (k + 1) (stepped t k (test k))
  goes_on = record {
    first = seen_step t k (test k) (find_if test (rest (k + 1) n)) ∙ ap (or_else (seen t)) (sym find_next) ∙ r.first;
    count = count_step t k (count_if test (rest (k + 1) n)) (test k) ∙ ap (λ (m : ℕ). seen_count t + m) (sym count_next) ∙ r.count;
    few = few_step t k k (test k) r.few;
  }

pub ends : (test : ℕ → Bool) {n k : ℕ} {t : Tally} → n ≤ k → Running test n k t → Tallied test n t
unfolding find_if count_if
ends test {n} {k} {t} l r = record {
  first = or_else_none (seen t) ∙ ap (λ (ks : List ℕ). or_else (seen t) (find_if test ks)) (sym (rest_done k n l)) ∙ r.first;
  count = sym (add-zero (seen_count t)) ∙ ap (λ (ks : List ℕ). seen_count t + count_if test ks) (sym (rest_done k n l)) ∙ r.count;
}

-- and that is what the search tells
pub tally_told : (t : Tally) → told_searched (searched_of (Ok t)) ≡ fine (search_tale (seen t) (seen_count t))
tally_told None = refl
tally_told (Some found) = refl
