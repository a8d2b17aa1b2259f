-- Of equal products only the first stays: what a last one adds, and how many there are. Assumes nothing.
use Prim.Native.Nat.{◌≤◌}
use native.Mathlib.Omega.{arith}
use mathlib.Core.Bool.{Bool, true, false, not, ◌&&◌, ◌||◌}
use mathlib.Core.List.{List, [], ◌∷◌, ◌++◌}
use mathlib.Core.Path.{◌≡◌, refl, ap, ap₂, ◌∙◌}
use borrow.Author.Tests.{eqb-true, eq-eqb}
use lib.Dec.{eqb}
use lib.ListN.{length}
use Rattle.std.specs.Prelude.{if◌then◌else◌}
use Rattle.ground.specs.Lists.{any_of, keep_if}
use Rattle.ground.proofs.Branches.{and_left, and_right}
use Rattle.rules.specs.declared.Product.{Product}
use Rattle.rules.specs.Products.{same, firsts}
use Rattle.ground.proofs.Kept.{kept_append, kept_length}

pub same_equal : (c d : Product) → same c d ≡ true → c ≡ d
same_equal c d h =
    let p = eqb c.plain d.plain in
    let q = eqb c.cuts d.cuts in
    let u : c.plain ≡ d.plain = eqb-true c.plain d.plain (and_left p q h) in
    let v : c.cuts ≡ d.cuts = eqb-true c.cuts d.cuts (and_right p q h) in
    λ i. record { plain = u i; cuts = v i }

pub equal_same : (c d : Product) → c ≡ d → same c d ≡ true
equal_same c d e = ap₂ ◌&&◌ (eq-eqb c.plain d.plain (λ i. (e i).plain)) (eq-eqb c.cuts d.cuts (λ i. (e i).cuts))

-- a last product stays unless an equal one stands before it
pub firsts_last : (xs : List Product) (x : Product) → firsts (xs ++ (x ∷ [])) ≡ firsts xs ++ (if any_of (λ y. same y x) xs then [] else (x ∷ []))
unfolding firsts any_of keep_if
firsts_last [] x = refl
firsts_last (c ∷ xs) x =
    ap (λ (l : List Product). c ∷ keep_if (λ y. not (same c y)) l) (firsts_last xs x)
    ∙ ap {B = List Product} (λ l. c ∷ l) (kept_append (λ y. not (same c y)) (firsts xs) (if any_of (λ y. same y x) xs then [] else (x ∷ [])))
    ∙ ap {B = List Product} (λ l. (c ∷ keep_if (λ y. not (same c y)) (firsts xs)) ++ l) (go (same c x) refl (any_of (λ y. same y x) xs))
  where
    go : (s : Bool) → same c x ≡ s → (t : Bool) → keep_if (λ y. not (same c y)) (if t then [] else (x ∷ [])) ≡ (if (s || t) then [] else (x ∷ []))
    go true e true = refl
    go true e false = rw e refl
    go false e true = refl
    go false e false = rw e refl

pub firsts_length : (xs : List Product) → length (firsts xs) ≤ length xs
unfolding firsts
firsts_length [] = omega arith
firsts_length (c ∷ xs) = omega (arith, kept_length (λ y. not (same c y)) (firsts xs), firsts_length xs)
