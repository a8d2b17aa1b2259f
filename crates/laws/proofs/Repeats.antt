-- A choice is fresh just if no earlier one comes to the same within a set of primitives, where no primitive stands twice. Assumes nothing.
use Prim.Native.Nat.{ℕ, ◌+◌, ◌-◌, ◌*◌, ◌/◌, ◌%◌, ◌≤◌, ◌<◌}
use native.Mathlib.Nat.{div-add-mod', lt_trans}
use native.Mathlib.Omega.{arith}
use mathlib.Core.Bool.{Bool, true, false, not, ◌&&◌}
use mathlib.Core.Logic.{◌⊎◌, inl, inr}
use mathlib.Core.Path.{◌≡◌, refl, sym, ap, ap₂, ◌∙◌}
use borrow.Author.Tests.{lt-ltb, le-ltb, ltb-true, ltb-false, not-true, not-false}
use lib.Arith.{digits_lt}
use lib.Bits.{bit_and}
use lib.Dec.{ltb}
use Rattle.ground.proofs.Branches.{false_true, and_left, and_right}
use Rattle.rules.specs.Choices.{joined}
use Rattle.laws.specs.Plans.{Plan, with_it, without, either, both, count, kth, mask, Apart, blank, hollow, fresh}
use Rattle.laws.proofs.Ways.{kth_within, kth_left, kth_right, kth_after, pair_kth, earlier_part, place_left, place_right}
use Rattle.laws.proofs.Blanks.{Alike, alike_hollow, joined_alike, alike_joined, hollow_means, means_hollow, blank_found, found_blank}

-- of a plan: a fresh choice has no earlier one like it; a choice that is not fresh has one
abbrev Alone : ℕ → Plan → Type 0
Alone r p = (k : ℕ) → k < count p → fresh p k r ≡ true → (j : ℕ) → j < k → Alike r (kth p j) (kth p k) → ⊥

abbrev Repeated : ℕ → Plan → Type 0
Repeated r p = (k : ℕ) → k < count p → fresh p k r ≡ false → (j : ℕ) × (j < k) × Alike r (kth p j) (kth p k)

module _ (a b : Plan) (k r : ℕ) where
  fresh_left : k < count a → fresh (either a b) k r ≡ fresh a k r
  unfolding fresh
  fresh_left h = rw (lt-ltb k (count a) h)

  fresh_right : count a ≤ k → fresh (either a b) k r ≡ (fresh b (k - count a) r && not (hollow (kth b (k - count a)) r && blank a r))
  unfolding fresh
  fresh_right h = rw (le-ltb k (count a) h)

and_cases : (p q : Bool) → (p && q) ≡ false → (p ≡ false) ⊎ (q ≡ false)
and_cases true q h = inr h
and_cases false q h = inl refl

module _ (a b : Plan) (r : ℕ) (apart : bit_and (mask a) (mask b) ≡ 0) where
  either_alone : Alone r a → Alone r b → Alone r (either a b)
  unfolding count
  either_alone left right k hk f j l e = go (ltb k (count a)) refl (ltb j (count a)) refl
    where
      go : (s : Bool) → ltb k (count a) ≡ s → (t : Bool) → ltb j (count a) ≡ t → ⊥
      go true u t v =
          let lk : k < count a = ltb-true k (count a) u in
          left k lk (sym (fresh_left a b k r lk) ∙ f) j l (rw (kth_left a b j (omega arith), kth_left a b k lk) at e)
      go false u true v =
          let lk : count a ≤ k = ltb-false k (count a) u in
          let lj : j < count a = ltb-true j (count a) v in
          let d = kth b (k - count a) in
          let empties =
          alike_hollow (mask a) (mask b) apart r (kth a j) d (kth_within a j lj) (kth_within b (k - count a) (omega arith))
          (rw (kth_left a b j lj, kth_right a b k lk) at e) in
          let paired = hollow d r && blank a r in
          let unpaired = not-true paired (and_right (fresh b (k - count a) r) (not paired) (sym (fresh_right a b k r lk) ∙ f)) in
          false_true (sym unpaired ∙ ap₂ ◌&&◌ (means_hollow r d empties.1) (found_blank a r j lj empties.0))
      go false u false v =
          let lk : count a ≤ k = ltb-false k (count a) u in
          let lj : count a ≤ j = ltb-false j (count a) v in
          let d = kth b (k - count a) in
          right (k - count a) (omega arith) (and_left (fresh b (k - count a) r) (not (hollow d r && blank a r)) (sym (fresh_right a b k r lk) ∙ f))
          (j - count a) (omega arith) (rw (kth_right a b j lj, kth_right a b k lk) at e)

  both_alone : Alone r a → Alone r b → Alone r (both a b)
  unfolding count kth fresh
  both_alone left right k hk f j l e = go (earlier_part n j k ja ka l)
    where
      n : ℕ
      n = count a

      hj : j < n * count b
      hj = omega arith

      ja : j % n < n
      ja = place_left n (count b) j hj

      ka : k % n < n
      ka = place_left n (count b) k hk

      jb : j / n < count b
      jb = place_right n (count b) j hj

      kb : k / n < count b
      kb = place_right n (count b) k hk

      parts : Alike r (kth a (j % n)) (kth a (k % n)) × Alike r (kth b (j / n)) (kth b (k / n))
      parts =
          joined_alike (mask a) (mask b) apart r (kth a (j % n)) (kth b (j / n)) (kth_within a (j % n) ja) (kth_within b (j / n) jb)
          (kth a (k % n)) (kth b (k / n)) (kth_within a (k % n) ka) (kth_within b (k / n) kb) e

      go : (j / n < k / n) ⊎ ((j / n ≡ k / n) × (j % n < k % n)) → ⊥
      go (inl m) = right (k / n) kb (and_right (fresh a (k % n) r) (fresh b (k / n) r) f) (j / n) m parts.1
      go (inr m) = left (k % n) ka (and_left (fresh a (k % n) r) (fresh b (k / n) r) f) (j % n) m.1 parts.0

module _ (a b : Plan) (r : ℕ) where
  either_repeated : Repeated r a → Repeated r b → Repeated r (either a b)
  unfolding count
  either_repeated left right k hk f = go (ltb k (count a)) refl
    where
      here : count a ≤ k → (fresh b (k - count a) r ≡ false) ⊎ (not (hollow (kth b (k - count a)) r && blank a r) ≡ false)
          → (j : ℕ) × (j < k) × Alike r (kth (either a b) j) (kth (either a b) k)
      here lk (inl g) =
          let s = right (k - count a) (omega arith) g in
          let l : s.0 < k - count a = s.1 in
          (count a + s.0, omega arith, rw (kth_after a b s.0, kth_right a b k lk) s.2)
      here lk (inr g) =
          let d = kth b (k - count a) in
          let both_true = not-false (hollow d r && blank a r) g in
          let z = hollow_means r d (and_left (hollow d r) (blank a r) both_true) in
          let s = blank_found a r (and_right (hollow d r) (blank a r) both_true) in
          let l : s.0 < count a = s.1 in
          (s.0, omega arith, rw (kth_left a b s.0 l, kth_right a b k lk) (s.2.0 ∙ sym z.0, s.2.1 ∙ sym z.1))

      go : (t : Bool) → ltb k (count a) ≡ t → (j : ℕ) × (j < k) × Alike r (kth (either a b) j) (kth (either a b) k)
      go true u =
          let lk : k < count a = ltb-true k (count a) u in
          let s = left k lk (sym (fresh_left a b k r lk) ∙ f) in
          let l : s.0 < k = s.1 in
          (s.0, l, rw (kth_left a b s.0 (omega arith), kth_left a b k lk) s.2)
      go false u =
          let lk : count a ≤ k = ltb-false k (count a) u in
          here lk (and_cases (fresh b (k - count a) r) (not (hollow (kth b (k - count a)) r && blank a r)) (sym (fresh_right a b k r lk) ∙ f))

  both_repeated : Repeated r a → Repeated r b → Repeated r (both a b)
  unfolding count fresh
  both_repeated left right k hk f = go (and_cases (fresh a (k % n) r) (fresh b (k / n) r) f)
    where
      n : ℕ
      n = count a

      ka : k % n < n
      ka = place_left n (count b) k hk

      kb : k / n < count b
      kb = place_right n (count b) k hk

      split : k ≡ k / n * n + k % n
      split = sym (div-add-mod' k n)

      self : kth (both a b) k ≡ joined (kth a (k % n)) (kth b (k / n))
      self = ap (kth (both a b)) split ∙ pair_kth a b (k % n) (k / n) ka

      go : (fresh a (k % n) r ≡ false) ⊎ (fresh b (k / n) r ≡ false) → (j : ℕ) × (j < k) × Alike r (kth (both a b) j) (kth (both a b) k)
      go (inl g) =
          let s = left (k % n) ka g in
          let l : s.0 < k % n = s.1 in
          let la : s.0 < n = lt_trans l ka in (
            k / n * n + s.0,
            omega (arith, split, l),
            rw (pair_kth a b s.0 (k / n) la, self) (alike_joined r (kth a s.0) (kth b (k / n)) (kth a (k % n)) (kth b (k / n)) s.2 (refl, refl)),
          )
      go (inr g) =
          let s = right (k / n) kb g in (
            s.0 * n + k % n,
            omega (arith, split, digits_lt s.1 ka),
            rw (pair_kth a b (k % n) s.0 ka, self) (alike_joined r (kth a (k % n)) (kth b s.0) (kth a (k % n)) (kth b (k / n)) (refl, refl) s.2),
          )

alone : (p : Plan) → Apart p → (r : ℕ) → Alone r p
unfolding count Apart
alone (with_it i) h r = λ k hk f j l e. omega arith
alone (without i) h r = λ k hk f j l e. omega arith
alone (either a b) h r = either_alone a b r h.0 (alone a h.1.0 r) (alone b h.1.1 r)
alone (both a b) h r = both_alone a b r h.0 (alone a h.1.0 r) (alone b h.1.1 r)

repeated : (p : Plan) (r : ℕ) → Repeated r p
unfolding fresh
repeated (with_it i) r = λ k hk f. false_true (sym f)
repeated (without i) r = λ k hk f. false_true (sym f)
repeated (either a b) r = either_repeated a b r (repeated a r) (repeated b r)
repeated (both a b) r = both_repeated a b r (repeated a r) (repeated b r)

-- to be fresh is to be the first that comes to its product
pub fresh_first : (p : Plan) → Apart p → (R k : ℕ) → k < count p → fresh p k R ≡ true
    → (j : ℕ) → j < k → (kth p j).plain ≡ (kth p k).plain → bit_and (kth p j).cuts R ≡ bit_and (kth p k).cuts R → ⊥
fresh_first p h R k hk f j l d e = alone p h R k hk f j l (d, e)

-- of the same plans, though it holds of any
pub stale_repeat : (p : Plan) → Apart p → (R k : ℕ) → k < count p → fresh p k R ≡ false
    → (j : ℕ) × (j < k) × ((kth p j).plain ≡ (kth p k).plain) × (bit_and (kth p j).cuts R ≡ bit_and (kth p k).cuts R)
stale_repeat p h R k hk f = let s = repeated p R k hk f in (s.0, s.1, s.2.0, s.2.1)
