-- What a run keeps: the points and the ways of choosing; no leaf is lost, the weight does not rise, the depth stays, and it ends in normal form.
-- Assumes nothing.
use Prim.Native.Nat.{ℕ, ◌+◌, ◌*◌, ◌≤◌, max}
use mathlib.Core.Bool.{Bool, true, false, not, ◌&&◌, ◌||◌}
use mathlib.Core.List.{List, [], ◌∷◌, ◌++◌}
use mathlib.Core.Path.{◌≡◌, refl, ap, ap₂, ◌∙◌}
use native.Mathlib.Nat.{le_refl}
use native.Mathlib.Omega.{arith}
use Rattle.rules.specs.Form.{Form, leaf, ◌∪◌, ◌∩◌, ◌∖◌, holds_at, leaves}
use Rattle.rules.specs.Procedure.{is_primitive, is_union}
use Rattle.rules.specs.NormalForm.{is_product, is_normal}
use Rattle.paper.specs.Ways.{cross, Joins, ways}
use Rattle.paper.specs.Runs.{Cutting, meet, less, by, Runs, bare, step, both, again, done}
use Rattle.paper.specs.Measures.{weight, calls, high}
use Rattle.paper.proofs.Equivalences.{rule_points, rule_leaves}
use Rattle.paper.proofs.Taking.{taken_rule, taken_ways, taken_high, taken_falls}

-- ---- from a left part to the product with one primitive more
cut_points : (o : Cutting) (X M : Form) (i : ℕ) (p : ℕ → Bool) → holds_at p X ≡ holds_at p M → holds_at p (by o X (leaf i)) ≡ holds_at p (by o M (leaf i))
unfolding holds_at
cut_points meet X M i p e = ap (λ (b : Bool). b && p i) e
cut_points less X M i p e = ap (λ (b : Bool). b && not (p i)) e

pub runs_points : {T N : Form} → Runs T N → (p : ℕ → Bool) → holds_at p T ≡ holds_at p N
unfolding holds_at
runs_points bare p = refl
runs_points (step t r) p = rule_points (taken_rule t).1 p ∙ runs_points r p
runs_points (both r s) p = ap₂ ◌||◌ (runs_points r p) (runs_points s p)
runs_points (again o X A B i e r s) p = cut_points o X (A ∪ B) i p (runs_points r p) ∙ runs_points s p
runs_points (done o X M i e r u) p = cut_points o X M i p (runs_points r p)

pub cut_leaves : (o : Cutting) (X : Form) (i : ℕ) → leaves (by o X (leaf i)) ≡ leaves X + 1
unfolding leaves
cut_leaves meet X i = refl
cut_leaves less X i = refl

pub runs_leaves : {T N : Form} → Runs T N → leaves T ≤ leaves N
unfolding leaves
runs_leaves bare = le_refl 1
runs_leaves (step t r) = omega (arith, rule_leaves (taken_rule t).1, runs_leaves r)
runs_leaves (both r s) = omega (arith, runs_leaves r, runs_leaves s)
runs_leaves (again o X A B i e r s) = omega (arith, runs_leaves r, runs_leaves s, cut_leaves o X i, cut_leaves o (A ∪ B) i)
runs_leaves (done o X M i e r u) = omega (arith, runs_leaves r, cut_leaves o X i, cut_leaves o M i)

-- a primitive more weighs so much
unfoldable pub extra : Cutting → ℕ
extra meet = 2
extra less = 4

pub cut_weight : (o : Cutting) (X : Form) (i : ℕ) → weight (by o X (leaf i)) true ≡ weight X true * 2 + extra o
unfolding weight extra
cut_weight meet X i = omega arith
cut_weight less X i = omega arith

pub runs_weight : {T N : Form} → Runs T N → weight N true ≤ weight T true
unfolding weight
runs_weight bare = le_refl 2
runs_weight (step t r) = omega (arith, taken_falls t, runs_weight r)
runs_weight (both r s) = omega (arith, runs_weight r, runs_weight s)
runs_weight (again o X A B i e r s) = omega (arith, runs_weight r, runs_weight s, cut_weight o X i, cut_weight o (A ∪ B) i)
runs_weight (done o X M i e r u) = omega (arith, runs_weight r, cut_weight o X i, cut_weight o M i)

cut_high : (o : Cutting) (X : Form) (i : ℕ) → high (by o X (leaf i)) true ≡ 1 + high X true
unfolding high
cut_high meet X i = omega arith
cut_high less X i = omega arith

pub runs_high : {T N : Form} → Runs T N → high T true ≡ high N true
unfolding high
runs_high bare = refl
runs_high (step t r) = taken_high t ∙ runs_high r
runs_high (both r s) = ap₂ (λ (m n : ℕ). 1 + max m n) (runs_high r) (runs_high s)
runs_high (again o X A B i e r s) = omega (arith, runs_high r, runs_high s, cut_high o X i, cut_high o (A ∪ B) i)
runs_high (done o X M i e r u) = omega (arith, runs_high r, cut_high o X i, cut_high o M i)

-- ---- the ways of choosing, whatever they are made of
module _ {A : Type 0} (join : A → A → A) (J : Joins A join) (plain cut : ℕ → A) where
  cut_ways : (o : Cutting) (X M : Form) (i : ℕ) → ways join plain cut X true ≡ ways join plain cut M true
      → ways join plain cut (by o X (leaf i)) true ≡ ways join plain cut (by o M (leaf i)) true
  unfolding ways
  cut_ways meet X M i e = ap {B = List A} (λ l. cross join l (plain i ∷ [])) e
  cut_ways less X M i e = ap {B = List A} (λ l. cross join l (cut i ∷ [])) e

  pub runs_ways : {T N : Form} → Runs T N → ways join plain cut T true ≡ ways join plain cut N true
  unfolding ways
  runs_ways bare = refl
  runs_ways (step t r) = taken_ways join J plain cut t ∙ runs_ways r
  runs_ways (both r s) = ap₂ {C = List A} (λ k l. k ++ l) (runs_ways r) (runs_ways s)
  runs_ways (again o X B C i e r s) = cut_ways o X (B ∪ C) i (runs_ways r) ∙ runs_ways s
  runs_ways (done o X M i e r u) = cut_ways o X M i (runs_ways r)

-- ---- it ends in normal form
normal_product : (T : Form) → is_union T ≡ false → is_normal T ≡ true → is_product T ≡ true
unfolding is_union is_normal is_product
normal_product (leaf i) u n = refl
normal_product (X ∪ Y) u n = sym_absurd u
  where
    sym_absurd : true ≡ false → ◌≡◌ {A = Bool} false true
    sym_absurd e = cc
normal_product (X ∩ Y) u n = n
normal_product (X ∖ Y) u n = n

cut_normal : (o : Cutting) (M : Form) (i : ℕ) → is_product M ≡ true → is_normal (by o M (leaf i)) ≡ true
unfolding is_normal is_primitive
cut_normal meet M i e = ap (λ (b : Bool). b && true) e
cut_normal less M i e = ap (λ (b : Bool). b && true) e

pub runs_normal : {T N : Form} → Runs T N → is_normal N ≡ true
unfolding is_normal
runs_normal bare = refl
runs_normal (step t r) = runs_normal r
runs_normal (both r s) = ap₂ ◌&&◌ (runs_normal r) (runs_normal s)
runs_normal (again o X A B i e r s) = runs_normal s
runs_normal (done o X M i e r u) = cut_normal o M i (normal_product M u (runs_normal r))

-- ---- calls go no deeper than the leaves of the tree that a run began with, less one
calls_high : (T : Form) → calls T ≤ high T true
unfolding calls high
calls_high (leaf i) = omega arith
calls_high (X ∪ Y) = omega (arith, calls_high X, calls_high Y)
calls_high (X ∩ Y) = omega (arith, calls_high X)
calls_high (X ∖ Y) = omega (arith, calls_high X)

high_leaves : (T : Form) (s : Bool) → high T s + 1 ≤ leaves T
unfolding high leaves
high_leaves (leaf i) true = omega arith
high_leaves (leaf i) false = omega arith
high_leaves (X ∪ Y) true = omega (arith, high_leaves X true, high_leaves Y true)
high_leaves (X ∪ Y) false = omega (arith, high_leaves X false, high_leaves Y false)
high_leaves (X ∩ Y) true = omega (arith, high_leaves X true, high_leaves Y true)
high_leaves (X ∩ Y) false = omega (arith, high_leaves X false, high_leaves Y false)
high_leaves (X ∖ Y) true = omega (arith, high_leaves X true, high_leaves Y false)
high_leaves (X ∖ Y) false = omega (arith, high_leaves X false, high_leaves Y true)

pub runs_calls : {T N : Form} → Runs T N → calls N + 1 ≤ leaves T
runs_calls {T} {N} r = omega (arith, calls_high N, runs_high r, high_leaves T true)
