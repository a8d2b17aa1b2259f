-- Stretches of a line: an axis, a half space, two of them together, and where something else lets it through. Assumes nothing.
use Prim.Native.Nat.{ℕ, zero, suc, ◌<◌, ◌≤◌, ◌*◌, ◌+◌, ◌/◌, min, max}
use native.Mathlib.Nat.{le-div_iff_mul-le, div-lt_iff_lt-mul, mul_comm, zero-mul}
use native.Mathlib.Omega.{arith}
use mathlib.Core.Bool.{Bool, true, false, ◌&&◌, and-true, and-false}
use mathlib.Core.Path.{◌≡◌, refl, sym, ap, ap₂, subst, ◌∙◌}
use borrow.Author.Tests.{leb-true, leb-false, le-leb, lt-leb, ltb-true, ltb-false}
use lib.Dec.{leb}
use lib.IntN.{ℤ, pos, negsuc, neg_ℤ, nat_abs, ◌*ℤ◌}
use lib.Signed.{le_z, lt_z}
use Rattle.std.proofs.lemmas.Grind.{div_ceil_times}
use Rattle.std.specs.Int.{div_ceil}
use Rattle.ground.proofs.Branches.{false_true, and_left, and_right, bool_both}
use Rattle.ground.proofs.Order.{leb_same}
use Rattle.rules.specs.declared.Axis.TheVariants.{Frame}
use Rattle.rules.specs.Ranges.{within, frames}
use Rattle.rules.specs.ListWords.{most_word, raised}
use Rattle.laws.proofs.Spaces.{and_swap}
use Rattle.span.specs.declared.Stretch.{Stretch}
use Rattle.span.specs.Along.{places, value, shared, Along}
use Rattle.span.proofs.Order.{from_place, to_place}

pub as_along : {p q : ℕ → Bool} {s : Stretch} → ((v : ℕ) → v < places → p v ≡ q v) → Along q s → Along p s
as_along e A = record { each = λ v l. e v l ∙ A.each v l }

pub empty_along : Along (λ v. false) (record { lo = 1; hi = 0 })
empty_along = record { each = λ v l. go v }
  where
    go : (v : ℕ) → false ≡ (leb 1 v && leb v 0)
    go zero = refl
    go (suc v) = sym (ap (λ (b : Bool). leb 1 (suc v) && b) (lt-leb (suc v) 0 (omega arith)) ∙ and-false (leb 1 (suc v)))

abbrev last : ℕ
last = most_word Frame

pub whole_along : Along (λ v. true) (record { lo = 0; hi = last })
whole_along = record { each = λ v l. sym (ap₂ ◌&&◌ (le-leb 0 v (omega arith)) (le-leb v last (omega arith))) }

pub axis_along : (lo hi : ℤ) → within frames lo ≡ true → within frames hi ≡ true
    → Along (λ v. within (record { lo = lo; hi = hi }) (value v)) (record { lo = raised Frame lo; hi = raised Frame hi })
axis_along lo hi g h = record { each = λ v l. ap₂ ◌&&◌ (from_place lo g v) (to_place hi h v) }

-- ---- two together

both_lo : (a b v : ℕ) → (leb a v && leb b v) ≡ leb (max a b) v
both_lo a b v = bool_both (leb a v && leb b v) (leb (max a b) v)
    (λ h. le-leb (max a b) v (omega (arith, leb-true a v (and_left (leb a v) (leb b v) h), leb-true b v (and_right (leb a v) (leb b v) h))))
    (λ h. let l = leb-true (max a b) v h in ap₂ ◌&&◌ (le-leb a v (omega arith)) (le-leb b v (omega arith)))

both_hi : (a b v : ℕ) → (leb v a && leb v b) ≡ leb v (min a b)
both_hi a b v = bool_both (leb v a && leb v b) (leb v (min a b))
    (λ h. le-leb v (min a b) (omega (arith, leb-true v a (and_left (leb v a) (leb v b) h), leb-true v b (and_right (leb v a) (leb v b) h))))
    (λ h. let l = leb-true v (min a b) h in ap₂ ◌&&◌ (le-leb v a (omega arith)) (le-leb v b (omega arith)))

pub both_along : {p q : ℕ → Bool} {a b : Stretch} → Along p a → Along q b → Along (λ v. p v && q v) (shared a b)
both_along {a = a} {b = b} P Q = record {
  each = λ v l. ap₂ ◌&&◌ (P.each v l) (Q.each v l) ∙ and_swap (leb a.lo v) (leb v a.hi) (leb b.lo v) (leb v b.hi)
      ∙ ap₂ ◌&&◌ (both_lo a.lo b.lo v) (both_hi a.hi b.hi v);
}

-- ---- what else lets it through

pub let_through : (p : ℕ → Bool) (g : Bool) {s : Stretch} → g ≡ true → Along p s → Along (λ v. g && p v) s
let_through p g h A = as_along (λ v l. ap (λ (b : Bool). b && p v) h) A

-- ---- a half space: s v <= e, by the signs of s and e

abbrev Half : ℤ → ℤ → Stretch → Type 0
Half s e r = Along (λ v. le_z (s *ℤ pos v) e) r

half_rising : (n t : ℕ) → Half (pos (suc n)) (pos t) (record { lo = 0; hi = t / suc n })
half_rising n t = record { each = λ v l. leb_same (suc n * v) t v (t / suc n) (to v) (from v) ∙ ap (λ (b : Bool). b && leb v (t / suc n)) (sym (le-leb 0 v (omega arith))) }
  where
    to : (v : ℕ) → suc n * v ≤ t → v ≤ t / suc n
    to v h = (le-div_iff_mul-le {k = suc n} {x = v} {y = t} (omega arith)).1 (subst (λ k. k ≤ t) (mul_comm (suc n) v) h)

    from : (v : ℕ) → v ≤ t / suc n → suc n * v ≤ t
    from v h = subst (λ k. k ≤ t) (mul_comm v (suc n)) ((le-div_iff_mul-le {k = suc n} {x = v} {y = t} (omega arith)).0 h)

negated : (m t : ℕ) → le_z (neg_ℤ (pos m)) (negsuc t) ≡ leb (suc t) m
negated zero t = sym (lt-leb (suc t) 0 (omega arith))
negated (suc m) t = leb_same t m (suc t) (suc m) (λ h. omega arith) (λ h. omega arith)

half_falling : (n t : ℕ) → Half (negsuc n) (negsuc t) (record { lo = t / suc n + 1; hi = last })
half_falling n t = record {
  each = λ v l. negated (suc n * v) t ∙ leb_same (suc t) (suc n * v) (t / suc n + 1) v (to v) (from v) ∙ sym (and-true (leb (t / suc n + 1) v))
      ∙ ap (λ (b : Bool). leb (t / suc n + 1) v && b) (sym (le-leb v last (omega arith)));
}
  where
    to : (v : ℕ) → t < suc n * v → t / suc n + 1 ≤ v
    to v h = let l : t / suc n < v = (div-lt_iff_lt-mul {k = suc n} {x = t} {y = v} (omega arith)).1 (subst (λ k. t < k) (mul_comm (suc n) v) h) in omega arith

    from : (v : ℕ) → t / suc n + 1 ≤ v → t < suc n * v
    from v h = subst (λ k. t < k) (mul_comm v (suc n)) ((div-lt_iff_lt-mul {k = suc n} {x = t} {y = v} (omega arith)).0 (omega arith))

negated_all : (m t : ℕ) → le_z (neg_ℤ (pos m)) (pos t) ≡ true
negated_all zero t = le-leb 0 t (omega arith)
negated_all (suc m) t = refl

not_positive : {A : Type 0} (n : ℕ) → lt_z (pos 0) (pos (suc n)) ≡ false → A
not_positive n h = absurd (omega (arith, ltb-false 0 (suc n) h))

not_negative : {A : Type 0} (n : ℕ) → lt_z (pos n) (pos 0) ≡ true → A
not_negative n h = absurd (omega (arith, ltb-true n 0 h))

pub rises_none : (s e : ℤ) {r : Stretch} → lt_z (pos 0) s ≡ true → lt_z e (pos 0) ≡ true → Along (λ v. false) r → Half s e r
rises_none (pos n) (pos t) h k A = not_negative t k
rises_none (pos n) (negsuc t) h k A = record { each = A.each }
rises_none (negsuc n) e h k A = false_true h

pub rises_to : (s e : ℤ) → lt_z (pos 0) s ≡ true → lt_z e (pos 0) ≡ false → Half s e (record { lo = 0; hi = nat_abs e / nat_abs s })
rises_to (pos zero) e h k = absurd (omega (arith, ltb-true 0 0 h))
rises_to (pos (suc n)) (pos t) h k = half_rising n t
rises_to (pos (suc n)) (negsuc t) h k = false_true (sym k)
rises_to (negsuc n) e h k = false_true h

pub falls_all : (s e : ℤ) {r : Stretch} → lt_z (pos 0) s ≡ false → le_z (pos 0) e ≡ true → Along (λ v. true) r → Half s e r
falls_all s (negsuc t) h k A = false_true k
falls_all (pos zero) (pos t) h k A = as_along (λ v l. ap (λ (n : ℕ). leb n t) (zero-mul v) ∙ le-leb 0 t (omega arith)) A
falls_all (pos (suc n)) (pos t) h k A = not_positive n h
falls_all (negsuc n) (pos t) h k A = as_along (λ v l. negated_all (suc n * v) t) A

-- a number divided, rounded up, is the one before it divided, and one
rounded_up : (n k : ℕ) → 0 < k → div_ceil (suc n) k ≡ n / k + 1
rounded_up n k l = go (div_ceil (suc n) k) (div_ceil_times (suc n) k l).0 (div_ceil_times (suc n) k l).1
  where
    go : (c : ℕ) → suc n ≤ c * k → c * k < suc n + k → c ≡ n / k + 1
    go zero h m = absurd (omega (arith, zero-mul k))
    go (suc c) h m =
        let low : c ≤ n / k = (le-div_iff_mul-le {k = k} {x = c} {y = n} l).1 (omega arith) in
        let high : n / k < suc c = (div-lt_iff_lt-mul {k = k} {x = n} {y = suc c} l).1 (omega arith) in
        omega arith

pub falls_from : (s e : ℤ) → lt_z s (pos 0) ≡ true → le_z (pos 0) e ≡ false → Half s e (record { lo = div_ceil (nat_abs e) (nat_abs s); hi = last })
falls_from (pos n) e h k = not_negative n h
falls_from (negsuc n) (pos t) h k = absurd (omega (arith, leb-false 0 t k))
falls_from (negsuc n) (negsuc t) h k = rw (rounded_up t (suc n) (omega arith)) (half_falling n t)

pub flat_none : (s e : ℤ) {r : Stretch} → lt_z (pos 0) s ≡ false → lt_z s (pos 0) ≡ false → le_z (pos 0) e ≡ false → Along (λ v. false) r → Half s e r
flat_none (pos zero) (pos t) h k m A = absurd (omega (arith, leb-false 0 t m))
flat_none (pos zero) (negsuc t) h k m A = record { each = A.each }
flat_none (pos (suc n)) e h k m A = not_positive n h
flat_none (negsuc n) e h k m A = false_true (sym k)

-- what the divisions ask for
pub some_size : (s : ℤ) → lt_z (pos 0) s ≡ true → 0 < nat_abs s
some_size (pos n) h = ltb-true 0 n h
some_size (negsuc n) h = omega arith

pub some_size_below : (s : ℤ) → lt_z s (pos 0) ≡ true → 0 < nat_abs s
some_size_below (pos n) h = not_negative n h
some_size_below (negsuc n) h = omega arith
