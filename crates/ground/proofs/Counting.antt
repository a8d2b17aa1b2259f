-- What is said of a row of numbers, of its first number and of the rest: for loops that count up. Assumes nothing.
use Prim.Native.Nat.{ℕ, zero, suc, ◌+◌, ◌-◌, ◌≤◌, ◌<◌}
use native.Mathlib.Nat.{sub-zero, add-zero, zero-add}
use native.Mathlib.Decide.{dec_le}
use native.Mathlib.Numerals.{add-one}
use native.Mathlib.Omega.{arith}
use mathlib.Core.Bool.{Bool, true, false, ◌&&◌, ◌||◌}
use mathlib.Core.List.{List, [], ◌∷◌, ◌++◌, map, flat_map, append-nil}
use mathlib.Core.Option.{Option, none, some}
use mathlib.Core.Path.{◌≡◌, refl, sym, ap, subst, ◌∙◌}
use Rattle.ground.proofs.Branches.{and_left, and_right}
use Rattle.ground.proofs.Lists.{flat_map_append}
use Rattle.ground.specs.Lists.{All, from, rest, below, all_of, any_of, or_else, first_of, rulings}

pub rest_cons : (k n : ℕ) → k < n → rest k n ≡ k ∷ rest (k + 1) n
unfolding from
rest_cons k n h = ap (from k) left ∙ ap (λ (i : ℕ). k ∷ from i (n - (k + 1))) (sym (add-one k))
  where
    left : n - k ≡ suc (n - (k + 1))
    left = omega arith

pub rest_done : (k n : ℕ) → n ≤ k → rest k n ≡ []
unfolding from
rest_done k n h = ap (from k) done
  where
    done : n - k ≡ 0
    done = omega arith

pub rest_all : (n : ℕ) → rest 0 n ≡ below n
rest_all n = ap (from 0) (sub-zero n)

pub from_last : (start n : ℕ) → from start (n + 1) ≡ from start n ++ ((start + n) ∷ [])
unfolding from
from_last start n = ap (from start) (add-one n) ∙ go start n
  where
    go : (start n : ℕ) → from start (suc n) ≡ from start n ++ ((start + n) ∷ [])
    go start zero = ap (λ (k : ℕ). k ∷ []) (sym (add-zero start))
    go start (suc n) = ap (λ (ks : List ℕ). start ∷ ks) (go (suc start) n ∙ ap (λ (k : ℕ). from (suc start) n ++ (k ∷ [])) next)
      where
        next : suc start + n ≡ start + suc n
        next = omega arith

pub below_last : (n : ℕ) → below (n + 1) ≡ below n ++ (n ∷ [])
below_last n = from_last 0 n ∙ ap (λ (k : ℕ). below n ++ (k ∷ [])) (zero-add n)

pub numbers_below : (start n : ℕ) → All (λ k. k < start + n) (from start n)
unfolding from
numbers_below start zero = tt
numbers_below start (suc n) =
    let on : suc start + n ≡ start + suc n = omega arith in
    (omega arith, subst (λ (m : ℕ). All (λ k. k < m) (from (suc start) n)) on (numbers_below (suc start) n))

-- what the numbers up to n give, from what those below it give
pub flat_map_next : {A : Type 0} (f : ℕ → List A) (n : ℕ) → flat_map f (below (n + 1)) ≡ flat_map f (below n) ++ f n
unfolding flat_map
flat_map_next {A} f n =
    ap (flat_map f) (below_last n) ∙ flat_map_append f (below n) (n ∷ []) ∙ ap (λ (xs : List A). flat_map f (below n) ++ xs) (append-nil (f n))

-- a rule for each number: the first that is broken
module _ {A : Type 0} (rule : ℕ → Option A) (k n : ℕ) where
  pub kept : k < n → rule k ≡ none → rulings rule k n ≡ rulings rule (k + 1) n
  unfolding first_of
  kept l h = ap (λ (ks : List ℕ). first_of (map rule ks)) (rest_cons k n l) ∙ ap (λ (x : Option A). or_else x (rulings rule (k + 1) n)) h

  pub broken : k < n → {a : A} → rule k ≡ some a → rulings rule k n ≡ some a
  unfolding first_of
  broken l h = ap (λ (ks : List ℕ). first_of (map rule ks)) (rest_cons k n l) ∙ ap (λ (x : Option A). or_else x (rulings rule (k + 1) n)) h

  pub all_kept : n ≤ k → rulings rule k n ≡ none
  unfolding first_of
  all_kept l = ap (λ (ks : List ℕ). first_of (map rule ks)) (rest_done k n l)

-- a test of each number
module _ (test : ℕ → Bool) (k n : ℕ) where
  pub all_yes : k < n → test k ≡ true → all_of test (rest k n) ≡ all_of test (rest (k + 1) n)
  unfolding all_of
  all_yes l h = ap (all_of test) (rest_cons k n l) ∙ ap (λ (b : Bool). b && all_of test (rest (k + 1) n)) h

  pub all_no : k < n → test k ≡ false → all_of test (rest k n) ≡ false
  unfolding all_of
  all_no l h = ap (all_of test) (rest_cons k n l) ∙ ap (λ (b : Bool). b && all_of test (rest (k + 1) n)) h

  pub all_done : n ≤ k → all_of test (rest k n) ≡ true
  unfolding all_of
  all_done l = ap (all_of test) (rest_done k n l)

  pub any_yes : k < n → test k ≡ true → any_of test (rest k n) ≡ true
  unfolding any_of
  any_yes l h = ap (any_of test) (rest_cons k n l) ∙ ap (λ (b : Bool). b || any_of test (rest (k + 1) n)) h

  pub any_no : k < n → test k ≡ false → any_of test (rest k n) ≡ any_of test (rest (k + 1) n)
  unfolding any_of
  any_no l h = ap (any_of test) (rest_cons k n l) ∙ ap (λ (b : Bool). b || any_of test (rest (k + 1) n)) h

  pub any_done : n ≤ k → any_of test (rest k n) ≡ false
  unfolding any_of
  any_done l = ap (any_of test) (rest_done k n l)

pub or_else_none : {A : Type 0} (x : Option A) → x ≡ or_else x none
or_else_none none = refl
or_else_none (some a) = refl

-- rules that agree give the same; where none is broken, each is kept
module _ {A : Type 0} where
  go_same : (f g : ℕ → Option A) (start n : ℕ) → ((k : ℕ) → start ≤ k → k < start + n → f k ≡ g k) → first_of (map f (from start n)) ≡ first_of (map g (from start n))
  unfolding from first_of
  go_same f g start zero h = refl
  go_same f g start (suc n) h = λ i. or_else (h start (omega arith) (omega arith) i) (go_same f g (suc start) n (λ k a b. h k (omega arith) (omega arith)) i)

  pub rulings_same : (f g : ℕ → Option A) (n : ℕ) → ((k : ℕ) → k < n → f k ≡ g k) → rulings f 0 n ≡ rulings g 0 n
  rulings_same f g n h = go_same f g 0 (n - 0) (λ k a b. h k (omega arith))

  none_first : (x y : Option A) → or_else x y ≡ none → (x ≡ none) × (y ≡ none)
  none_first none y e = (refl, e)
  none_first (some a) y e = (e, cc)

  go_none : (f : ℕ → Option A) (start n : ℕ) → first_of (map f (from start n)) ≡ none → (k : ℕ) → start ≤ k → k < start + n → f k ≡ none
  unfolding from first_of
  go_none f start zero e k a b = absurd (omega arith)
  go_none f start (suc n) e k a b = at (none_first (f start) (first_of (map f (from (suc start) n))) e) (dec_le (suc start) k) (go_none f (suc start) n)
    where
      at : (f start ≡ none) × (first_of (map f (from (suc start) n)) ≡ none) → Dec (suc start ≤ k)
          → (first_of (map f (from (suc start) n)) ≡ none → (k : ℕ) → suc start ≤ k → k < suc start + n → f k ≡ none) → f k ≡ none
      at p (yes l) rest = rest p.1 k l (omega arith)
      at p (no l) rest = let e : start ≡ k = omega arith in ap f (sym e) ∙ p.0

  pub rulings_none : (f : ℕ → Option A) (n : ℕ) → rulings f 0 n ≡ none → (k : ℕ) → k < n → f k ≡ none
  rulings_none f n e k h = go_none f 0 (n - 0) e k (omega arith) (omega arith)

  -- of several rules in order
  pub first_broken : (x : Option A) (xs : List (Option A)) {a : A} → x ≡ some a → first_of (x ∷ xs) ≡ some a
  unfolding first_of
  first_broken x xs h = rw h

  pub first_passed : (x : Option A) (xs : List (Option A)) → x ≡ none → first_of (x ∷ xs) ≡ first_of xs
  unfolding first_of
  first_passed x xs h = rw h

  pub first_kept : (x : Option A) (xs : List (Option A)) → first_of (x ∷ xs) ≡ none → (x ≡ none) × (first_of xs ≡ none)
  unfolding first_of
  first_kept x xs e = none_first x (first_of xs) e

-- a test of all the numbers below n
module _ (test : ℕ → Bool) where
  go_true : (start n : ℕ) → ((k : ℕ) → start ≤ k → k < start + n → test k ≡ true) → all_of test (from start n) ≡ true
  unfolding from all_of
  go_true start zero h = refl
  go_true start (suc n) h = rw (h start (omega arith) (omega arith)) (go_true (suc start) n (λ k a b. h k (omega arith) (omega arith)))

  pub all_true : (n : ℕ) → ((k : ℕ) → k < n → test k ≡ true) → all_of test (below n) ≡ true
  all_true n h = go_true 0 n (λ k a b. h k (omega arith))

  go_at : (start n : ℕ) → all_of test (from start n) ≡ true → (k : ℕ) → start ≤ k → k < start + n → test k ≡ true
  unfolding from all_of
  go_at start zero h k a b = absurd (omega arith)
  go_at start (suc n) h k a b = at (dec_le (suc start) k) (go_at (suc start) n (and_right (test start) (all_of test (from (suc start) n)) h) k)
    where
      at : Dec (suc start ≤ k) → (suc start ≤ k → k < suc start + n → test k ≡ true) → test k ≡ true
      at (yes l) rest = rest l (omega arith)
      at (no l) rest = let e : start ≡ k = omega arith in ap test (sym e) ∙ and_left (test start) (all_of test (from (suc start) n)) h

  pub all_at_each : (n : ℕ) → all_of test (below n) ≡ true → (k : ℕ) → k < n → test k ≡ true
  all_at_each n h k l = go_at 0 n h k (omega arith) (omega arith)

-- what is made of each number below n has the property
module _ {A : Type 0} (P : A → Type 0) (f : ℕ → A) where
  go_made : (start n : ℕ) → ((k : ℕ) → start ≤ k → k < start + n → P (f k)) → All P (map f (from start n))
  unfolding from
  go_made start zero h = tt
  go_made start (suc n) h = (h start (omega arith) (omega arith), go_made (suc start) n (λ k a b. h k (omega arith) (omega arith)))

  pub all_made : (n : ℕ) → ((k : ℕ) → k < n → P (f k)) → All P (map f (rest 0 n))
  all_made n h = go_made 0 (n - 0) (λ k a b. h k (omega arith))

-- ---- the first broken rule of several lists of rules

module _ {A : Type 0} where
  or_else_assoc : (x y z : Option A) → or_else x (or_else y z) ≡ or_else (or_else x y) z
  or_else_assoc none y z = refl
  or_else_assoc (some a) y z = refl

  pub first_append : (xs ys : List (Option A)) → first_of (xs ++ ys) ≡ or_else (first_of xs) (first_of ys)
  unfolding first_of
  first_append [] ys = refl
  first_append (x ∷ xs) ys = ap (or_else x) (first_append xs ys) ∙ or_else_assoc x (first_of xs) (first_of ys)

  first_each : (rules : ℕ → List (Option A)) (ks : List ℕ) → first_of (flat_map rules ks) ≡ first_of (map (λ k. first_of (rules k)) ks)
  unfolding first_of flat_map
  first_each rules [] = refl
  first_each rules (k ∷ ks) = first_append (rules k) (flat_map rules ks) ∙ ap (or_else (first_of (rules k))) (first_each rules ks)

  -- some rules for each number
  pub first_rulings : (rules : ℕ → List (Option A)) (n : ℕ) → first_of (flat_map rules (below n)) ≡ rulings (λ k. first_of (rules k)) 0 n
  first_rulings rules n = first_each rules (below n) ∙ ap (λ (ks : List ℕ). first_of (map (λ k. first_of (rules k)) ks)) (sym (rest_all n))

  pub none_append : (xs ys : List (Option A)) → first_of (xs ++ ys) ≡ none → (first_of xs ≡ none) × (first_of ys ≡ none)
  none_append xs ys e = both (first_of xs) (first_of ys) (sym (first_append xs ys) ∙ e)
    where
      both : (x y : Option A) → or_else x y ≡ none → (x ≡ none) × (y ≡ none)
      both none y h = (refl, h)
      both (some a) y h = (h, cc)
