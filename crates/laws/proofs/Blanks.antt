-- Choices that come to the same, or to nothing, within a set of primitives; and when a plan has one that comes to nothing. Assumes nothing.
use Prim.Native.Nat.{ℕ, ◌+◌, ◌*◌, ◌/◌, ◌%◌, ◌^◌, ◌<◌}
use native.Mathlib.Omega.{arith}
use mathlib.Core.Bool.{Bool, true, ◌&&◌, ◌||◌, or-true}
use mathlib.Core.Logic.{◌⊎◌, inl, inr}
use mathlib.Core.Path.{◌≡◌, refl, sym, ap, ap₂, subst, ◌∙◌}
use borrow.Author.Tests.{eqb-true, eq-eqb}
use lib.Bits.{bit_and, bit_or, or_zero_l, or_zero_r, or_add_and, and_le_l, and_le_r}
use lib.Dec.{eqb}
use lib.Pow.{pow_pos}
use Rattle.ground.proofs.Branches.{false_true, and_left, and_right, or_cases}
use Rattle.ground.proofs.Masks.{Within, within_none, within_cut, within_or, or_and, part_left, part_right}
use Rattle.rules.specs.declared.Product.{Product}
use Rattle.rules.specs.Choices.{joined}
use Rattle.laws.specs.Plans.{Plan, with_it, without, either, both, count, kth, blank, hollow}
use Rattle.laws.proofs.Ways.{Of, kth_left, kth_after, pair_fits, pair_kth, by_part, place_left, place_right}

-- two choices come to the same within a set of primitives; a choice comes to nothing there
abbrev pub Alike : ℕ → Product → Product → Type 0
Alike r c d = (c.plain ≡ d.plain) × (bit_and c.cuts r ≡ bit_and d.cuts r)

abbrev pub Hollow : ℕ → Product → Type 0
Hollow r c = (c.plain ≡ 0) × (bit_and c.cuts r ≡ 0)

-- ---- choices of primitives that are apart

module _ (a b : ℕ) (apart : bit_and a b ≡ 0) where
  -- sets that are equal together are equal part by part
  parts_same : (u v x y : ℕ) → Within u a → Within v b → Within x a → Within y b → bit_or u v ≡ bit_or x y → (u ≡ x) × (v ≡ y)
  parts_same u v x y hu hv hx hy e =
      let w : bit_and (bit_or x y) (bit_or a b) ≡ bit_or x y = within_or x y a b hx hy in (
        sym (part_left u v (bit_or x y) a b hu hv apart (w ∙ sym e)) ∙ part_left x y (bit_or x y) a b hx hy apart w,
        sym (part_right u v (bit_or x y) a b hu hv apart (w ∙ sym e)) ∙ part_right x y (bit_or x y) a b hx hy apart w,
      )

  -- what lies in both is nothing
  common_none : (u v : ℕ) → Within u a → Within v b → u ≡ v → (u ≡ 0) × (v ≡ 0)
  common_none u v hu hv e =
      let s = parts_same u 0 0 v hu (within_none b) (within_none a) hv (or_zero_r u ∙ e ∙ sym (or_zero_l v)) in
      (s.0, sym s.1)

  module _ (r : ℕ) (c d : Product) (hc : Of a c) (hd : Of b d) where
    pub alike_hollow : Alike r c d → Hollow r c × Hollow r d
    alike_hollow e =
        let p = common_none c.plain d.plain hc.0 hd.0 e.0 in
        let q = common_none (bit_and c.cuts r) (bit_and d.cuts r) (within_cut c.cuts a r hc.1) (within_cut d.cuts b r hd.1) e.1 in
        ((p.0, q.0), (p.1, q.1))

    pub joined_alike : (x y : Product) → Of a x → Of b y → Alike r (joined c d) (joined x y) → Alike r c x × Alike r d y
    joined_alike x y hx hy e =
        let p = parts_same c.plain d.plain x.plain y.plain hc.0 hd.0 hx.0 hy.0 e.0 in
        let q =
        parts_same (bit_and c.cuts r) (bit_and d.cuts r) (bit_and x.cuts r) (bit_and y.cuts r)
        (within_cut c.cuts a r hc.1) (within_cut d.cuts b r hd.1) (within_cut x.cuts a r hx.1) (within_cut y.cuts b r hy.1)
        (sym (or_and c.cuts d.cuts r) ∙ e.1 ∙ or_and x.cuts y.cuts r) in
        ((p.0, q.0), (p.1, q.1))

pub alike_joined : (r : ℕ) (c d x y : Product) → Alike r c x → Alike r d y → Alike r (joined c d) (joined x y)
alike_joined r c d x y p q =
    (ap₂ bit_or p.0 q.0, or_and c.cuts d.cuts r ∙ ap₂ bit_or p.1 q.1 ∙ sym (or_and x.cuts y.cuts r))

-- ---- the test that a choice comes to nothing

pub hollow_means : (r : ℕ) (c : Product) → hollow c r ≡ true → Hollow r c
hollow_means r c h =
    let p = eqb c.plain 0 in
    let q = eqb (bit_and c.cuts r) 0 in
    (eqb-true c.plain 0 (and_left p q h), eqb-true (bit_and c.cuts r) 0 (and_right p q h))

pub means_hollow : (r : ℕ) (c : Product) → Hollow r c → hollow c r ≡ true
means_hollow r c h = ap₂ ◌&&◌ (eq-eqb c.plain 0 h.0) (eq-eqb (bit_and c.cuts r) 0 h.1)

-- ---- some choice comes to nothing

no_power : {A : Type 0} (i : ℕ) → 2 ^ i ≡ 0 → A
no_power i e = absurd (omega (arith, pow_pos i))

none_or : (u v : ℕ) → u ≡ 0 → v ≡ 0 → bit_or u v ≡ 0
none_or u v p q = ap₂ bit_or p q ∙ or_zero_l 0

or_none : (u v : ℕ) → bit_or u v ≡ 0 → (u ≡ 0) × (v ≡ 0)
or_none u v e = (omega (arith, or_add_and u v, and_le_l u v, and_le_r u v), omega (arith, or_add_and u v, and_le_l u v, and_le_r u v))

pub blank_found : (p : Plan) (r : ℕ) → blank p r ≡ true → (j : ℕ) × (j < count p) × Hollow r (kth p j)
unfolding blank count kth
blank_found (with_it i) r h = false_true h
blank_found (without i) r h = (0, omega arith, (refl, eqb-true (bit_and (2 ^ i) r) 0 h))
blank_found (either a b) r h = go (or_cases (blank a r) (blank b r) h) (blank_found a r) (blank_found b r)
  where
    go : (blank a r ≡ true) ⊎ (blank b r ≡ true) → (blank a r ≡ true → (j : ℕ) × (j < count a) × Hollow r (kth a j))
        → (blank b r ≡ true → (j : ℕ) × (j < count b) × Hollow r (kth b j)) → (j : ℕ) × (j < count a + count b) × Hollow r (kth (either a b) j)
    go (inl e) f g =
        let s = f e in
        let l : s.0 < count a = s.1 in
        (s.0, omega arith, subst (Hollow r) (sym (kth_left a b s.0 l)) s.2)
    go (inr e) f g =
        let s = g e in
        let l : s.0 < count b = s.1 in
        (count a + s.0, omega arith, subst (Hollow r) (sym (kth_after a b s.0)) s.2)
blank_found (both a b) r h =
    let s = blank_found a r (and_left (blank a r) (blank b r) h) in
    let t = blank_found b r (and_right (blank a r) (blank b r) h) in (
      t.0 * count a + s.0,
      pair_fits a b s.0 t.0 s.1 t.1,
      subst (Hollow r) (sym (pair_kth a b s.0 t.0 s.1)) (
        none_or (kth a s.0).plain (kth b t.0).plain s.2.0 t.2.0,
        or_and (kth a s.0).cuts (kth b t.0).cuts r ∙ none_or (bit_and (kth a s.0).cuts r) (bit_and (kth b t.0).cuts r) s.2.1 t.2.1,
      ),
    )

pub found_blank : (p : Plan) (r j : ℕ) → j < count p → Hollow r (kth p j) → blank p r ≡ true
unfolding blank count kth
found_blank (with_it i) r j l h = no_power i h.0
found_blank (without i) r j l h = eq-eqb (bit_and (2 ^ i) r) 0 h.1
found_blank (either a b) r j l h =
    by_part (λ c. Hollow r c → (blank a r || blank b r) ≡ true) a b
    (λ k m e. ap (λ (t : Bool). t || blank b r) (found_blank a r k m e))
    (λ k m e. ap (λ (t : Bool). blank a r || t) (found_blank b r k m e) ∙ or-true (blank a r)) j l h
found_blank (both a b) r j l h =
    let c = kth a (j % count a) in
    let d = kth b (j / count a) in
    let p = or_none c.plain d.plain h.0 in
    let q = or_none (bit_and c.cuts r) (bit_and d.cuts r) (sym (or_and c.cuts d.cuts r) ∙ h.1) in
    ap₂ ◌&&◌
    (found_blank a r (j % count a) (place_left (count a) (count b) j l) (p.0, q.0))
    (found_blank b r (j / count a) (place_right (count a) (count b) j l) (p.1, q.1))
