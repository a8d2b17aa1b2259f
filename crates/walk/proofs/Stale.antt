-- Whether a choice is fresh, seen from its bits alone: the side that an `either` took is the side that has a bit. Assumes nothing.
use Prim.Native.Nat.{ℕ, ◌-◌, ◌/◌, ◌%◌, ◌≤◌, ◌<◌}
use native.Mathlib.Omega.{arith}
use mathlib.Core.Bool.{Bool, true, false, not, ◌&&◌, ◌||◌}
use mathlib.Core.Path.{◌≡◌, refl, sym, ap, ap₂, ◌∙◌, subst}
use borrow.Author.Tests.{ltb-true, ltb-false, eqb-true}
use lib.Bits.{bit_and, bit_or, or_zero_r, or_zero_l, and_comm}
use lib.Dec.{ltb, eqb}
use Rattle.std.specs.Prelude.{if◌then◌else◌}
use Rattle.ground.proofs.Masks.{and_assoc, within_none, part_left, part_right, has, within_has, has_within, has_both, both_has}
use Rattle.laws.specs.Plans.{Plan, with_it, without, either, both, count, kth, mask, Apart, blank, hollow, fresh}
use Rattle.laws.proofs.Ways.{Of, kth_within, place_left, place_right}
use Rattle.rows.specs.Masks.{risk}
use Rattle.repeats.specs.Repeats.{clear, safe, stale}
use Rattle.walk.proofs.Older.{some_bit, clear_yes, clear_no}
use Rattle.walk.proofs.Risk.{fresh_risk}

not_both : (x y : Bool) → (not x || not y) ≡ not (x && y)
not_both true y = refl
not_both false y = refl

not_right : (f h e : Bool) → ((h && e) || not f) ≡ not (f && not (h && e))
not_right true true true = refl
not_right true true false = refl
not_right true false e = refl
not_right false true true = refl
not_right false true false = refl
not_right false false e = refl

safe_fresh : (p : Plan) (k R N : ℕ) → k < count p → bit_and N (mask p) ≡ (kth p k).cuts → safe (risk p) N R ≡ true → fresh p k R ≡ true
safe_fresh p k R N l e h =
    fresh_risk p k R l (has_within _ R (λ i q. within_has (bit_and N (risk p)) R (eqb-true _ _ h) i (has_both N (risk p) i (both_has N (mask p) i (subst (λ (x : ℕ). has i x ≡ true) (sym e) (both_has (kth p k).cuts (risk p) i q).0)).0 (both_has (kth p k).cuts (risk p) i q).1)))

-- where nothing that matters is dropped, the has may be left out
unless_safe : (p : Plan) (k R N : ℕ) → k < count p → bit_and N (mask p) ≡ (kth p k).cuts → (t : Bool) → t ≡ not (fresh p k R) → if◌then◌else◌ (safe (risk p) N R) false t ≡ not (fresh p k R)
unless_safe p k R N l e t q = go (safe (risk p) N R) refl
  where
    go : (s : Bool) → safe (risk p) N R ≡ s → if◌then◌else◌ s false t ≡ not (fresh p k R)
    go true h = sym (ap not (safe_fresh p k R N l e h))
    go false h = q

pub stale_fresh : (p : Plan) → Apart p → (R k : ℕ) → k < count p → (P N : ℕ) → bit_and P (mask p) ≡ (kth p k).plain → bit_and N (mask p) ≡ (kth p k).cuts → stale p P N R ≡ not (fresh p k R)
unfolding stale count mask kth fresh Apart
stale_fresh (with_it i) h R k hk P N eP eN = refl
stale_fresh (without i) h R k hk P N eP eN = refl
stale_fresh (either a b) h R k hk P N eP eN = unless_safe (either a b) k R N hk eN _ (go (ltb k (count a)) refl (stale_fresh a h.1.0 R) (stale_fresh b h.1.1 R))
  where
    go : (t : Bool) → ltb k (count a) ≡ t
        → ((j : ℕ) → j < count a → (P N : ℕ) → bit_and P (mask a) ≡ (kth a j).plain → bit_and N (mask a) ≡ (kth a j).cuts → stale a P N R ≡ not (fresh a j R))
        → ((j : ℕ) → j < count b → (P N : ℕ) → bit_and P (mask b) ≡ (kth b j).plain → bit_and N (mask b) ≡ (kth b j).cuts → stale b P N R ≡ not (fresh b j R))
        → if◌then◌else◌ (clear (mask a) P N) ((clear (mask b) P (bit_and N R) && blank a R) || stale b P N R) (stale a P N R)
        ≡ not (if◌then◌else◌ (ltb k (count a)) (fresh a k R) (fresh b (k - count a) R && not (hollow (kth b (k - count a)) R && blank a R)))
    go true e f g =
        let l : k < count a = ltb-true k (count a) e in
        let w : Of (mask a) (kth a k) = kth_within a k l in
        let p0 : bit_and P (bit_or (mask a) (mask b)) ≡ bit_or (kth a k).plain 0 = eP ∙ ap (λ (t : Bool). (if◌then◌else◌ t (kth a k) (kth b (k - count a))).plain) e ∙ sym (or_zero_r (kth a k).plain) in
        let n0 : bit_and N (bit_or (mask a) (mask b)) ≡ bit_or (kth a k).cuts 0 = eN ∙ ap (λ (t : Bool). (if◌then◌else◌ t (kth a k) (kth b (k - count a))).cuts) e ∙ sym (or_zero_r (kth a k).cuts) in
        let pa : bit_and P (mask a) ≡ (kth a k).plain = part_left (kth a k).plain 0 P (mask a) (mask b) w.0 (within_none (mask b)) h.0 p0 in
        let na : bit_and N (mask a) ≡ (kth a k).cuts = part_left (kth a k).cuts 0 N (mask a) (mask b) w.1 (within_none (mask b)) h.0 n0 in
        rw (e, clear_no (mask a) P N _ _ pa na (some_bit a k l)) (f k l P N pa na)
    go false e f g =
        let l : count a ≤ k = ltb-false k (count a) e in
        let lj : k - count a < count b = omega arith in
        let w : Of (mask b) (kth b (k - count a)) = kth_within b (k - count a) lj in
        let p0 : bit_and P (bit_or (mask a) (mask b)) ≡ bit_or 0 (kth b (k - count a)).plain = eP ∙ ap (λ (t : Bool). (if◌then◌else◌ t (kth a k) (kth b (k - count a))).plain) e ∙ sym (or_zero_l (kth b (k - count a)).plain) in
        let n0 : bit_and N (bit_or (mask a) (mask b)) ≡ bit_or 0 (kth b (k - count a)).cuts = eN ∙ ap (λ (t : Bool). (if◌then◌else◌ t (kth a k) (kth b (k - count a))).cuts) e ∙ sym (or_zero_l (kth b (k - count a)).cuts) in
        let pb : bit_and P (mask b) ≡ (kth b (k - count a)).plain = part_right 0 (kth b (k - count a)).plain P (mask a) (mask b) (within_none (mask a)) w.0 h.0 p0 in
        let nb : bit_and N (mask b) ≡ (kth b (k - count a)).cuts = part_right 0 (kth b (k - count a)).cuts N (mask a) (mask b) (within_none (mask a)) w.1 h.0 n0 in
        let pa : bit_and P (mask a) ≡ 0 = part_left 0 (kth b (k - count a)).plain P (mask a) (mask b) (within_none (mask a)) w.0 h.0 p0 in
        let na : bit_and N (mask a) ≡ 0 = part_left 0 (kth b (k - count a)).cuts N (mask a) (mask b) (within_none (mask a)) w.1 h.0 n0 in
        let nr : bit_and (bit_and N R) (mask b) ≡ bit_and (kth b (k - count a)).cuts R = and_assoc N R (mask b) ∙ ap (bit_and N) (and_comm R (mask b)) ∙ sym (and_assoc N (mask b) R) ∙ ap (λ (x : ℕ). bit_and x R) nb in
        let c : clear (mask b) P (bit_and N R) ≡ hollow (kth b (k - count a)) R = ap₂ (λ (x y : ℕ). eqb x 0 && eqb y 0) pb nr in
        rw (e, clear_yes (mask a) P N pa na, c, g (k - count a) lj P N pb nb) (not_right (fresh b (k - count a) R) (hollow (kth b (k - count a)) R) (blank a R))
stale_fresh (both a b) h R k hk P N eP eN =
    let li : k % count a < count a = place_left (count a) (count b) k hk in
    let lj : k / count a < count b = place_right (count a) (count b) k hk in
    let v : Of (mask a) (kth a (k % count a)) = kth_within a (k % count a) li in
    let w : Of (mask b) (kth b (k / count a)) = kth_within b (k / count a) lj in
    unless_safe (both a b) k R N hk eN _ (ap₂ (λ (x y : Bool). x || y)
    (stale_fresh a h.1.0 R (k % count a) li P N (part_left (kth a (k % count a)).plain (kth b (k / count a)).plain P (mask a) (mask b) v.0 w.0 h.0 eP) (part_left (kth a (k % count a)).cuts (kth b (k / count a)).cuts N (mask a) (mask b) v.1 w.1 h.0 eN))
    (stale_fresh b h.1.1 R (k / count a) lj P N (part_right (kth a (k % count a)).plain (kth b (k / count a)).plain P (mask a) (mask b) v.0 w.0 h.0 eP) (part_right (kth a (k % count a)).cuts (kth b (k / count a)).cuts N (mask a) (mask b) v.1 w.1 h.0 eN))
    ∙ not_both (fresh a (k % count a) R) (fresh b (k / count a) R))
