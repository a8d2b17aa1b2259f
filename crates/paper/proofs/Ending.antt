-- The procedure ends: what it comes to is the end of a run, a run has one end, and these are the steps that the code takes. Assumes nothing.
use Prim.Native.Nat.{ℕ, zero, suc, ◌+◌, ◌*◌, ◌^◌, ◌≤◌}
use mathlib.Core.Bool.{Bool, true, false, not}
use mathlib.Core.Option.{Option, none, some}
use mathlib.Core.Path.{◌≡◌, refl, sym, ap, ap₂, subst, ◌∙◌}
use native.Mathlib.Nat.{mul-le-mul, mul-le-mul_left, mul-le-mul_right, mul_left_comm}
use native.Mathlib.Omega.{arith}
use lib.Pow.{pow-add}
use Rattle.rules.specs.Form.{Form, leaf, ◌∪◌, ◌∩◌, ◌∖◌, leaves}
use Rattle.rules.specs.Procedure.{is_primitive, is_union, lowest, ended, left_done, right_done, until, turn, within, normalize}
use Rattle.paper.specs.Runs.{Taken, t1, t2, t3, t4, t5, t6, t65, t7, t8}
use Rattle.paper.specs.Runs.{Cutting, meet, less, by, Runs, bare, step, both, again, done}
use Rattle.paper.specs.Measures.{weight, fitting}
use Rattle.paper.proofs.Taking.{taken_falls, weight_two}
use Rattle.paper.proofs.Running.{runs_weight, cut_weight}

-- ---- how deep a run goes: twice the weight, and one less where a rule fits
abbrev Deep : ℕ → Form → Type 0
Deep f T = 2 * weight T true ≤ f + fitting (lowest T)

pub fit_le : (o : Option Form) → fitting o ≤ 1
unfolding fitting
fit_le none = omega arith
fit_le (some U) = omega arith

no_fit : (T : Form) → lowest T ≡ none → fitting (lowest T) ≡ 0
unfolding fitting
no_fit T e = ap fitting e

no_depth : (T : Form) → Deep zero T → ⊥
no_depth T h = omega (arith, weight_two T true, fit_le (lowest T))

deep_step : {T U : Form} (f : ℕ) → Taken T U → Deep (suc f) T → Deep f U
deep_step {T} {U} f t h = omega (arith, taken_falls t, fit_le (lowest T))

deep_union : (f : ℕ) (X Y : Form) → Deep (suc f) (X ∪ Y) → Deep f X × Deep f Y
unfolding weight fitting lowest
deep_union f X Y h = omega arith

deep_left : (o : Cutting) (f : ℕ) (X : Form) (i : ℕ) → lowest (by o X (leaf i)) ≡ none → Deep (suc f) (by o X (leaf i)) → Deep f X
deep_left o f X i e h = omega (arith, no_fit (by o X (leaf i)) e, cut_weight o X i)

-- a rule fits there
cut_fits : (o : Cutting) (A B : Form) (i : ℕ) → fitting (lowest (by o (A ∪ B) (leaf i))) ≡ 1
unfolding lowest fitting
cut_fits meet A B i = refl
cut_fits less A B i = refl

deep_again : (o : Cutting) (f : ℕ) (X A B : Form) (i : ℕ) → lowest (by o X (leaf i)) ≡ none → Runs X (A ∪ B) → Deep (suc f) (by o X (leaf i))
    → Deep f (by o (A ∪ B) (leaf i))
deep_again o f X A B i e r h =
    omega (arith, no_fit (by o X (leaf i)) e, cut_weight o X i, cut_weight o (A ∪ B) i, cut_fits o A B i, runs_weight r)

-- ---- one round of the procedure
within_leaf : (f i : ℕ) → within f (leaf i) ≡ leaf i
unfolding within is_primitive
within_leaf zero i = refl
within_leaf (suc f) i = refl

within_step : {T U : Form} (f : ℕ) → Taken T U → within (suc f) T ≡ within f U
unfolding within turn is_primitive lowest
within_step f t1 = refl
within_step f t2 = refl
within_step f t3 = refl
within_step f t4 = refl
within_step f t5 = refl
within_step f t6 = refl
within_step f t65 = refl
within_step f t7 = refl
within_step f t8 = refl

within_union : (f : ℕ) (X Y : Form) → within (suc f) (X ∪ Y) ≡ within f X ∪ within f Y
unfolding within turn is_primitive lowest left_done right_done until ended
within_union f X Y = refl

within_cut : (o : Cutting) (f : ℕ) (X : Form) (i : ℕ) → lowest (by o X (leaf i)) ≡ none
    → within (suc f) (by o X (leaf i)) ≡ until (within f) (not (is_union (within f X))) (by o (within f X) (leaf i))
unfolding within turn is_primitive left_done ended
within_cut meet f X i e = ap (λ (n : Option Form). turn (within f) n (X ∩ leaf i)) e
within_cut less f X i e = ap (λ (n : Option Form). turn (within f) n (X ∖ leaf i)) e

-- the left part is no union: the end
until_done : (o : Cutting) (f : ℕ) (M : Form) (i : ℕ) → is_union M ≡ false → until (within f) (not (is_union M)) (by o M (leaf i)) ≡ by o M (leaf i)
unfolding until right_done
until_done meet f M i u = ap (λ (b : Bool). until (within f) (not b) (M ∩ leaf i)) u ∙ ap (λ (T : Form). M ∩ T) (within_leaf f i)
until_done less f M i u = ap (λ (b : Bool). until (within f) (not b) (M ∖ leaf i)) u ∙ ap (λ (T : Form). M ∖ T) (within_leaf f i)

-- it is one: all over again
until_again : (o : Cutting) (f : ℕ) (A B : Form) (i : ℕ) → until (within f) (not (is_union (A ∪ B))) (by o (A ∪ B) (leaf i)) ≡ within f (by o (A ∪ B) (leaf i))
unfolding until is_union
until_again meet f A B i = refl
until_again less f A B i = refl

-- ---- what the procedure comes to is the end of a run, where it may go deep enough
ends_there : (o : Cutting) (f : ℕ) (X M : Form) (i : ℕ) → lowest (by o X (leaf i)) ≡ none → Runs X M → is_union M ≡ false
    → Runs (by o X (leaf i)) (until (within f) (not (is_union M)) (by o M (leaf i)))
ends_there o f X M i e r u = subst (λ (N : Form). Runs (by o X (leaf i)) N) (sym (until_done o f M i u)) (done o X M i e r u)

cut_ends : (o : Cutting) (f : ℕ) (X M : Form) (i : ℕ) → lowest (by o X (leaf i)) ≡ none → Runs X M
    → ((A B : Form) → M ≡ A ∪ B → Runs (by o (A ∪ B) (leaf i)) (within f (by o (A ∪ B) (leaf i))))
    → Runs (by o X (leaf i)) (until (within f) (not (is_union M)) (by o M (leaf i)))
unfolding is_union
cut_ends o f X (leaf j) i e r k = ends_there o f X (leaf j) i e r refl
cut_ends o f X (A ∪ B) i e r k = subst (λ (N : Form). Runs (by o X (leaf i)) N) (sym (until_again o f A B i)) (again o X A B i e r (k A B refl))
cut_ends o f X (A ∩ B) i e r k = ends_there o f X (A ∩ B) i e r refl
cut_ends o f X (A ∖ B) i e r k = ends_there o f X (A ∖ B) i e r refl

abbrev Ends : ℕ → Type 0
Ends f = (T : Form) → Deep f T → Runs T (within f T)

by_step : {T U : Form} (f : ℕ) → Taken T U → Deep (suc f) T → Ends f → Runs T (within (suc f) T)
by_step {T} {U} f t h ends = subst (λ (N : Form). Runs T N) (sym (within_step f t)) (step t (ends U (deep_step f t h)))

by_cut : (o : Cutting) (f : ℕ) (X : Form) (i : ℕ) → lowest (by o X (leaf i)) ≡ none → Deep (suc f) (by o X (leaf i)) → Ends f
    → Runs (by o X (leaf i)) (within (suc f) (by o X (leaf i)))
by_cut o f X i e h ends =
    let r : Runs X (within f X) = ends X (deep_left o f X i e h) in
    subst (λ (N : Form). Runs (by o X (leaf i)) N) (sym (within_cut o f X i e))
    (cut_ends o f X (within f X) i e r
    (λ A B m. ends (by o (A ∪ B) (leaf i)) (deep_again o f X A B i e (subst (λ (N : Form). Runs X N) m r) h)))

within_runs : (f : ℕ) → Ends f
unfolding lowest
within_runs zero T h = absurd (no_depth T h)
within_runs (suc f) (leaf i) h = subst (λ (N : Form). Runs (leaf i) N) (sym (within_leaf (suc f) i)) bare
within_runs (suc f) (X ∪ Y) h =
    let d = deep_union f X Y h in
    subst (λ (N : Form). Runs (X ∪ Y) N) (sym (within_union f X Y)) (both (within_runs f X d.0) (within_runs f Y d.1))
within_runs (suc f) (X ∖ (Y ∪ Z)) h = by_step f t1 h (within_runs f)
within_runs (suc f) (X ∩ (Y ∪ Z)) h = by_step f t2 h (within_runs f)
within_runs (suc f) (X ∖ (Y ∩ Z)) h = by_step f t3 h (within_runs f)
within_runs (suc f) (X ∩ (Y ∩ Z)) h = by_step f t4 h (within_runs f)
within_runs (suc f) (X ∖ (Y ∖ Z)) h = by_step f t5 h (within_runs f)
within_runs (suc f) (X ∩ (Y ∖ Z)) h = by_step f t6 h (within_runs f)
within_runs (suc f) ((X ∖ Y) ∩ leaf i) h = by_step f t65 h (within_runs f)
within_runs (suc f) ((X ∪ Y) ∖ leaf i) h = by_step f t7 h (within_runs f)
within_runs (suc f) ((X ∪ Y) ∩ leaf i) h = by_step f t8 h (within_runs f)
within_runs (suc f) (leaf j ∩ leaf i) h = by_cut meet f (leaf j) i refl h (within_runs f)
within_runs (suc f) ((X ∩ Y) ∩ leaf i) h = by_cut meet f (X ∩ Y) i refl h (within_runs f)
within_runs (suc f) (leaf j ∖ leaf i) h = by_cut less f (leaf j) i refl h (within_runs f)
within_runs (suc f) ((X ∩ Y) ∖ leaf i) h = by_cut less f (X ∩ Y) i refl h (within_runs f)
within_runs (suc f) ((X ∖ Y) ∖ leaf i) h = by_cut less f (X ∖ Y) i refl h (within_runs f)

-- ---- a run has one end, and any depth that is enough comes to it
within_same : {T N : Form} → Runs T N → (f : ℕ) → Deep f T → within f T ≡ N
within_same (bare {i = i}) f h = within_leaf f i
within_same (step {T = T} t r) zero h = absurd (no_depth T h)
within_same (step t r) (suc f) h = within_step f t ∙ within_same r f (deep_step f t h)
within_same (both {X = X} {Y = Y} r s) zero h = absurd (no_depth (X ∪ Y) h)
within_same (both {X = X} {Y = Y} r s) (suc f) h =
    let d = deep_union f X Y h in within_union f X Y ∙ ap₂ ◌∪◌ (within_same r f d.0) (within_same s f d.1)
within_same (again o X A B i e r s) zero h = absurd (no_depth (by o X (leaf i)) h)
within_same (again o X A B i e r s) (suc f) h =
    within_cut o f X i e ∙ ap (λ (M : Form). until (within f) (not (is_union M)) (by o M (leaf i))) (within_same r f (deep_left o f X i e h))
    ∙ until_again o f A B i ∙ within_same s f (deep_again o f X A B i e r h)
within_same (done o X M i e r u) zero h = absurd (no_depth (by o X (leaf i)) h)
within_same (done o X M i e r u) (suc f) h =
    within_cut o f X i e ∙ ap (λ (M : Form). until (within f) (not (is_union M)) (by o M (leaf i))) (within_same r f (deep_left o f X i e h))
    ∙ until_done o f M i u

-- ---- 16 to the number of leaves is enough
-- in the tree and out of it
abbrev Light : Form → Bool → Type 0
Light T s = (2 * weight T s ≤ 16 ^ leaves T) × (16 ≤ 16 ^ leaves T)

light_sum : (a b m n : ℕ) → (2 * a ≤ 16 ^ m) × (16 ≤ 16 ^ m) → (2 * b ≤ 16 ^ n) × (16 ≤ 16 ^ n)
    → (2 * (a + b + 5) ≤ 16 ^ (m + n)) × (16 ≤ 16 ^ (m + n))
light_sum a b m n h k =
    let p : 16 * 16 ^ n ≤ 16 ^ m * 16 ^ n = mul-le-mul_right (16 ^ n) h.1 in
    let q : 16 ^ m * 16 ≤ 16 ^ m * 16 ^ n = mul-le-mul_left (16 ^ m) k.1 in
    (omega (arith, pow-add 16 m n, h.0, h.1, k.0, k.1), omega (arith, pow-add 16 m n, h.1, k.1))

light_product : (a b c m n : ℕ) → c ≤ 2 → 2 ≤ a → (2 * a ≤ 16 ^ m) × (16 ≤ 16 ^ m) → (2 * b ≤ 16 ^ n) × (16 ≤ 16 ^ n)
    → (2 * ((a + c) * b) ≤ 16 ^ (m + n)) × (16 ≤ 16 ^ (m + n))
light_product a b c m n hc ha h k =
    let p : (a + c) * (2 * b) ≤ 16 ^ m * 16 ^ n = mul-le-mul (omega (arith, h.0)) k.0 in
    let q : (a + c) * (2 * b) ≡ 2 * ((a + c) * b) = mul_left_comm (a + c) 2 b in
    let u : 16 ^ m * 16 ≤ 16 ^ m * 16 ^ n = mul-le-mul_left (16 ^ m) k.1 in
    (omega (arith, pow-add 16 m n), omega (arith, pow-add 16 m n, h.1))

light : (T : Form) (s : Bool) → Light T s
unfolding weight leaves
light (leaf i) true = (omega arith, omega arith)
light (leaf i) false = (omega arith, omega arith)
light (X ∪ Y) true = light_sum (weight X true) (weight Y true) (leaves X) (leaves Y) (light X true) (light Y true)
light (X ∪ Y) false = light_product (weight X false) (weight Y false) 2 (leaves X) (leaves Y) (omega arith) (weight_two X false) (light X false) (light Y false)
light (X ∩ Y) true = light_product (weight X true) (weight Y true) 1 (leaves X) (leaves Y) (omega arith) (weight_two X true) (light X true) (light Y true)
light (X ∩ Y) false = light_sum (weight X false) (weight Y false) (leaves X) (leaves Y) (light X false) (light Y false)
light (X ∖ Y) true = light_product (weight X true) (weight Y false) 2 (leaves X) (leaves Y) (omega arith) (weight_two X true) (light X true) (light Y false)
light (X ∖ Y) false = light_sum (weight X false) (weight Y true) (leaves X) (leaves Y) (light X false) (light Y true)

deep_enough : (T : Form) → Deep (16 ^ leaves T) T
deep_enough T = omega (arith, (light T true).0)

-- THE PROCEDURE ENDS
pub normalize_runs : (T : Form) → Runs T (normalize T)
unfolding normalize
normalize_runs T = within_runs (16 ^ leaves T) T (deep_enough T)

pub run_end : {T N : Form} → Runs T N → normalize T ≡ N
unfolding normalize
run_end {T} r = within_same r (16 ^ leaves T) (deep_enough T)

-- ---- and these are its steps
pub normalize_leaf : (i : ℕ) → normalize (leaf i) ≡ leaf i
normalize_leaf i = run_end bare

pub normalize_step : {T U : Form} → Taken T U → normalize T ≡ normalize U
normalize_step {U = U} t = run_end (step t (normalize_runs U))

pub normalize_union : (X Y : Form) → normalize (X ∪ Y) ≡ normalize X ∪ normalize Y
normalize_union X Y = run_end (both (normalize_runs X) (normalize_runs Y))

pub normalize_again : (o : Cutting) (X A B : Form) (i : ℕ) → lowest (by o X (leaf i)) ≡ none → normalize X ≡ A ∪ B
    → normalize (by o X (leaf i)) ≡ normalize (by o (A ∪ B) (leaf i))
normalize_again o X A B i e m = run_end (again o X A B i e (subst (λ (N : Form). Runs X N) m (normalize_runs X)) (normalize_runs (by o (A ∪ B) (leaf i))))

pub normalize_done : (o : Cutting) (X : Form) (i : ℕ) → lowest (by o X (leaf i)) ≡ none → is_union (normalize X) ≡ false
    → normalize (by o X (leaf i)) ≡ by o (normalize X) (leaf i)
normalize_done o X i e u = run_end (done o X (normalize X) i e (normalize_runs X) u)
