-- Which cuts matter to the test for repeats: where none of them is dropped, a choice is fresh. Assumes nothing.
use Prim.Native.Nat.{ℕ, zero, suc, ◌+◌, ◌-◌, ◌/◌, ◌%◌, ◌≤◌, ◌<◌}
use native.Mathlib.Omega.{arith}
use mathlib.Core.Bool.{Bool, true, false, not, ◌&&◌}
use mathlib.Core.Path.{◌≡◌, refl, sym, ap, ap₂, ◌∙◌, subst}
use borrow.Author.Tests.{ltb-true, ltb-false, ne_eqb}
use lib.Bits.{bit_and, bit_or, and_zero_l}
use lib.Dec.{ltb, eqb}
use Rattle.std.specs.Prelude.{if◌then◌else◌}
use Rattle.ground.proofs.Branches.{and_left, and_right}
use Rattle.ground.proofs.Masks.{Within, has, within_has, has_within, has_both, both_has, has_left, has_right}
use Rattle.rules.specs.declared.Product.{Product}
use Rattle.laws.specs.Plans.{Plan, with_it, without, either, both, count, kth, mask, blank, hollow, fresh}
use Rattle.laws.proofs.Blanks.{hollow_means, found_blank}
use Rattle.laws.proofs.Ways.{kth_within, place_left, place_right}
use Rattle.rows.specs.Masks.{risk}
use Rattle.walk.proofs.Older.{some_bit, blank_smaller}

-- with a smaller cut and a smaller risk there is less to keep
less : (c d r s R : ℕ) → ((i : ℕ) → has i c ≡ true → has i d ≡ true) → ((i : ℕ) → has i r ≡ true → has i s ≡ true) → Within (bit_and d s) R → Within (bit_and c r) R
less c d r s R f g h = has_within (bit_and c r) R (λ i q. within_has (bit_and d s) R h i (has_both d s i (f i (both_has c r i q).0) (g i (both_has c r i q).1)))

full_cut : (x : Product) (R : ℕ) → 0 < x.plain + x.cuts → Within x.cuts R → hollow x R ≡ false
full_cut x R h s = rw s (go x.plain x.cuts h)
  where
    go : (u v : ℕ) → 0 < u + v → (eqb u 0 && eqb v 0) ≡ false
    go zero zero h = absurd (omega arith)
    go zero (suc v) h = ne_eqb (suc v) 0 (λ e. omega arith)
    go (suc u) v h = ap (λ (b : Bool). b && eqb v 0) (ne_eqb (suc u) 0 (λ e. omega arith))

pub fresh_risk : (p : Plan) (k R : ℕ) → k < count p → Within (bit_and (kth p k).cuts (risk p)) R → fresh p k R ≡ true
unfolding kth count fresh risk
fresh_risk (with_it i) k R l h = refl
fresh_risk (without i) k R l h = refl
fresh_risk (either a b) k R l h = go (ltb k (count a)) refl (fresh_risk a k R) (fresh_risk b (k - count a) R)
  where
    rest : (x : ℕ) → ((i : ℕ) → has i x ≡ true → has i (bit_or (risk a) (risk b)) ≡ true) → (i : ℕ) → has i x ≡ true → has i (bit_or (if◌then◌else◌ (blank a 0 && blank b 0) (mask b) 0) (bit_or (risk a) (risk b))) ≡ true
    rest x f i q = has_right (if◌then◌else◌ (blank a 0 && blank b 0) (mask b) 0) (bit_or (risk a) (risk b)) i (f i q)

    apart : k - count a < count b → Within (bit_and (kth b (k - count a)).cuts (bit_or (if◌then◌else◌ (blank a 0 && blank b 0) (mask b) 0) (bit_or (risk a) (risk b)))) R → not (hollow (kth b (k - count a)) R && blank a R) ≡ true
    apart lj hh = case (blank a 0 && blank b 0) refl
      where
        case : (t : Bool) → (blank a 0 && blank b 0) ≡ t → not (hollow (kth b (k - count a)) R && blank a R) ≡ true
        case true e = ap (λ (t : Bool). not (t && blank a R)) (full_cut (kth b (k - count a)) R (some_bit b (k - count a) lj)
            (has_within (kth b (k - count a)).cuts R (λ i q. within_has _ R hh i (has_both (kth b (k - count a)).cuts _ i q
            (has_left (if◌then◌else◌ (blank a 0 && blank b 0) (mask b) 0) (bit_or (risk a) (risk b)) i (rw e (within_has (kth b (k - count a)).cuts (mask b) (kth_within b (k - count a) lj).1 i q)))))))
        case false e = both (hollow (kth b (k - count a)) R && blank a R) refl
          where
            both : (t : Bool) → (hollow (kth b (k - count a)) R && blank a R) ≡ t → not t ≡ true
            both true q =
                let u : blank a 0 ≡ true = blank_smaller a R 0 (and_zero_l R) (and_right (hollow (kth b (k - count a)) R) (blank a R) q) in
                let v : blank b 0 ≡ true = blank_smaller b R 0 (and_zero_l R) (found_blank b R (k - count a) lj (hollow_means R (kth b (k - count a)) (and_left (hollow (kth b (k - count a)) R) (blank a R) q))) in
                let w : true ≡ false = sym (ap₂ (λ (s t : Bool). s && t) u v) ∙ e in (cc)
            both false q = refl

    go : (t : Bool) → ltb k (count a) ≡ t → (k < count a → Within (bit_and (kth a k).cuts (risk a)) R → fresh a k R ≡ true) → (k - count a < count b → Within (bit_and (kth b (k - count a)).cuts (risk b)) R → fresh b (k - count a) R ≡ true)
        → if◌then◌else◌ (ltb k (count a)) (fresh a k R) (fresh b (k - count a) R && not (hollow (kth b (k - count a)) R && blank a R)) ≡ true
    go true e f g =
        let hh : Within (bit_and (kth a k).cuts (bit_or (if◌then◌else◌ (blank a 0 && blank b 0) (mask b) 0) (bit_or (risk a) (risk b)))) R = subst (λ (t : Bool). Within (bit_and (if◌then◌else◌ t (kth a k) (kth b (k - count a))).cuts (bit_or (if◌then◌else◌ (blank a 0 && blank b 0) (mask b) 0) (bit_or (risk a) (risk b)))) R) e h in
        rw e (f (ltb-true k (count a) e) (less (kth a k).cuts (kth a k).cuts (risk a) _ R (λ i q. q) (rest (risk a) (λ i q. has_left (risk a) (risk b) i q)) hh))
    go false e f g =
        let z : count a ≤ k = ltb-false k (count a) e in
        let lj : k - count a < count b = omega arith in
        let hh : Within (bit_and (kth b (k - count a)).cuts (bit_or (if◌then◌else◌ (blank a 0 && blank b 0) (mask b) 0) (bit_or (risk a) (risk b)))) R = subst (λ (t : Bool). Within (bit_and (if◌then◌else◌ t (kth a k) (kth b (k - count a))).cuts (bit_or (if◌then◌else◌ (blank a 0 && blank b 0) (mask b) 0) (bit_or (risk a) (risk b)))) R) e h in
        rw e (ap₂ (λ (s t : Bool). s && t) (g lj (less (kth b (k - count a)).cuts (kth b (k - count a)).cuts (risk b) _ R (λ i q. q) (rest (risk b) (λ i q. has_right (risk a) (risk b) i q)) hh)) (apart lj hh))
fresh_risk (both a b) k R l h =
    ap₂ (λ (s t : Bool). s && t)
    (fresh_risk a (k % count a) R (place_left (count a) (count b) k l) (less (kth a (k % count a)).cuts _ (risk a) _ R (λ i q. has_left (kth a (k % count a)).cuts (kth b (k / count a)).cuts i q) (λ i q. has_left (risk a) (risk b) i q) h))
    (fresh_risk b (k / count a) R (place_right (count a) (count b) k l) (less (kth b (k / count a)).cuts _ (risk b) _ R (λ i q. has_right (kth a (k % count a)).cuts (kth b (k / count a)).cuts i q) (λ i q. has_right (risk a) (risk b) i q) h))
