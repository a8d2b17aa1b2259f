-- What is decided within a set stays decided within a smaller one; no choice is without a primitive. Assumes nothing.
use Prim.Native.Nat.{ℕ, zero, suc, ◌+◌, ◌-◌, ◌/◌, ◌%◌, ◌^◌, ◌≤◌, ◌<◌}
use native.Mathlib.Omega.{arith}
use mathlib.Core.Bool.{Bool, true, false, not, ◌&&◌, ◌||◌}
use mathlib.Core.Path.{◌≡◌, refl, sym, ap, ap₂, ◌∙◌}
use borrow.Author.Tests.{ltb-true, ltb-false, eq-eqb, ne_eqb, eqb-true}
use lib.Bits.{bit_and}
use lib.Dec.{ltb, eqb}
use lib.Pow.{pow_pos}
use Rattle.std.specs.Prelude.{if◌then◌else◌}
use Rattle.ground.proofs.Masks.{Within}
use Rattle.rules.specs.declared.Product.{Product}
use Rattle.laws.specs.Plans.{Plan, with_it, without, either, both, count, kth, blank, hollow, fresh}
use Rattle.laws.proofs.Ways.{place_left}
use Rattle.repeats.specs.Repeats.{clear}
use Rattle.walk.proofs.Sets.{none_in_less, or_most}

pub some_bit : (p : Plan) (k : ℕ) → k < count p → 0 < (kth p k).plain + (kth p k).cuts
unfolding kth count
some_bit (with_it i) k h = omega (arith, pow_pos i)
some_bit (without i) k h = omega (arith, pow_pos i)
some_bit (either a b) k h = go (ltb k (count a)) refl (some_bit a) (some_bit b)
  where
    go : (t : Bool) → ltb k (count a) ≡ t → ((j : ℕ) → j < count a → 0 < (kth a j).plain + (kth a j).cuts) → ((j : ℕ) → j < count b → 0 < (kth b j).plain + (kth b j).cuts)
        → 0 < (if◌then◌else◌ (ltb k (count a)) (kth a k) (kth b (k - count a))).plain + (if◌then◌else◌ (ltb k (count a)) (kth a k) (kth b (k - count a))).cuts
    go true e f g = rw e (f k (ltb-true k (count a) e))
    go false e f g = rw e (let l : count a ≤ k = ltb-false k (count a) e in g (k - count a) (omega arith))
some_bit (both a b) k h =
    omega (
      arith,
      some_bit a (k % count a) (place_left (count a) (count b) k h),
      or_most (kth a (k % count a)).plain (kth b (k / count a)).plain,
      or_most (kth a (k % count a)).cuts (kth b (k / count a)).cuts,
    )

pub clear_yes : (m P N : ℕ) → bit_and P m ≡ 0 → bit_and N m ≡ 0 → clear m P N ≡ true
clear_yes m P N p n = rw (p, n)

pub clear_no : (m P N x y : ℕ) → bit_and P m ≡ x → bit_and N m ≡ y → 0 < x + y → clear m P N ≡ false
clear_no m P N x y p n h = rw (p, n) (go x y h)
  where
    go : (x y : ℕ) → 0 < x + y → (eqb x 0 && eqb y 0) ≡ false
    go zero zero h = absurd (omega arith)
    go zero (suc y) h = ne_eqb (suc y) 0 (λ e. omega arith)
    go (suc x) y h = ap (λ (b : Bool). b && eqb y 0) (ne_eqb (suc x) 0 (λ e. omega arith))

-- ---- what is decided early stays: a smaller reach only makes more choices equal

pub or_mono : (a b c d : Bool) → (a ≡ true → c ≡ true) → (b ≡ true → d ≡ true) → (a || b) ≡ true → (c || d) ≡ true
or_mono true b c d f g e = ap (λ (x : Bool). x || d) (f refl)
or_mono false b true d f g e = refl
or_mono false b false d f g e = g e

pub and_mono : (a b c d : Bool) → (a ≡ true → c ≡ true) → (b ≡ true → d ≡ true) → (a && b) ≡ true → (c && d) ≡ true
and_mono true b c d f g e = ap₂ (λ (x y : Bool). x && y) (f refl) (g e)
and_mono false b c d f g e = let z : false ≡ true = e in (cc)

not_mono : (a b : Bool) → (a ≡ true → b ≡ true) → not b ≡ true → not a ≡ true
not_mono true true f e = e
not_mono true false f e = let z : false ≡ true = f refl in (cc)
not_mono false b f e = refl

pub blank_smaller : (p : Plan) (R S : ℕ) → Within S R → blank p R ≡ true → blank p S ≡ true
unfolding blank
blank_smaller (with_it i) R S h e = e
blank_smaller (without i) R S h e = eq-eqb (bit_and (2 ^ i) S) 0 (none_in_less (2 ^ i) R S h (eqb-true (bit_and (2 ^ i) R) 0 e))
blank_smaller (either a b) R S h e = or_mono (blank a R) (blank b R) (blank a S) (blank b S) (blank_smaller a R S h) (blank_smaller b R S h) e
blank_smaller (both a b) R S h e = and_mono (blank a R) (blank b R) (blank a S) (blank b S) (blank_smaller a R S h) (blank_smaller b R S h) e

pub hollow_smaller : (x : Product) (R S : ℕ) → Within S R → hollow x R ≡ true → hollow x S ≡ true
hollow_smaller x R S h e =
    and_mono (eqb x.plain 0) (eqb (bit_and x.cuts R) 0) (eqb x.plain 0) (eqb (bit_and x.cuts S) 0) (λ z. z)
    (λ z. eq-eqb (bit_and x.cuts S) 0 (none_in_less x.cuts R S h (eqb-true (bit_and x.cuts R) 0 z))) e

pub fresh_larger : (p : Plan) (k R S : ℕ) → Within S R → fresh p k S ≡ true → fresh p k R ≡ true
unfolding fresh
fresh_larger (with_it i) k R S h e = refl
fresh_larger (without i) k R S h e = refl
fresh_larger (either a b) k R S h e = go (ltb k (count a)) refl (fresh_larger a k R S h) (fresh_larger b (k - count a) R S h) e
  where
    go : (t : Bool) → ltb k (count a) ≡ t → (fresh a k S ≡ true → fresh a k R ≡ true) → (fresh b (k - count a) S ≡ true → fresh b (k - count a) R ≡ true)
        → if◌then◌else◌ (ltb k (count a)) (fresh a k S) (fresh b (k - count a) S && not (hollow (kth b (k - count a)) S && blank a S)) ≡ true
        → if◌then◌else◌ (ltb k (count a)) (fresh a k R) (fresh b (k - count a) R && not (hollow (kth b (k - count a)) R && blank a R)) ≡ true
    go true t f g q = rw t (f (rw t at q))
    go false t f g q =
        rw t (and_mono (fresh b (k - count a) S) (not (hollow (kth b (k - count a)) S && blank a S)) (fresh b (k - count a) R) (not (hollow (kth b (k - count a)) R && blank a R))
        g
        (not_mono (hollow (kth b (k - count a)) R && blank a R) (hollow (kth b (k - count a)) S && blank a S)
        (and_mono (hollow (kth b (k - count a)) R) (blank a R) (hollow (kth b (k - count a)) S) (blank a S) (hollow_smaller (kth b (k - count a)) R S h) (blank_smaller a R S h)))
        (rw t at q))
fresh_larger (both a b) k R S h e =
    and_mono (fresh a (k % count a) S) (fresh b (k / count a) S) (fresh a (k % count a) R) (fresh b (k / count a) R) (fresh_larger a (k % count a) R S h) (fresh_larger b (k / count a) R S h) e

-- BLOCKS: a right choice that is not fresh within R makes nothing fresh in its whole block, within any smaller reach
no_from : (x y : Bool) → (y ≡ true → x ≡ true) → x ≡ false → y ≡ false
no_from x true f e = let z : x ≡ true = f refl in let w : true ≡ false = sym z ∙ e in (cc)
no_from x false f e = refl

pub stale_smaller : (p : Plan) (k R S : ℕ) → Within S R → fresh p k R ≡ false → fresh p k S ≡ false
stale_smaller p k R S h e = no_from (fresh p k R) (fresh p k S) (fresh_larger p k R S h) e
