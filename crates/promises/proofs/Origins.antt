-- A list holds the product of each choice that stays, once, in the order of the choices that first come to it. Assumes nothing.
use Prim.Native.Nat.{ℕ, zero, suc, ◌+◌, ◌≤◌, ◌<◌}
use native.Mathlib.Nat.{le_refl, lt_trans}
use native.Mathlib.Numerals.{add-one}
use native.Mathlib.Omega.{arith}
use mathlib.Core.Bool.{Bool, true, false, not, ◌&&◌}
use mathlib.Core.List.{List, [], ◌∷◌, ◌++◌, map, map-append}
use mathlib.Core.Path.{◌≡◌, refl, sym, ap, ap₂, ◌∙◌}
use borrow.Author.Tests.{not-true}
use lib.ListN.{length, get_or, take, length-map}
use lib.Seq.{take-length}
use Rattle.ground.specs.Lists.{from, below, any_of, keep_if}
use Rattle.std.specs.Prelude.{if◌then◌else◌}
use Rattle.ground.proofs.Branches.{false_true, and_left, and_right}
use Rattle.ground.proofs.Counting.{below_last}
use Rattle.ground.proofs.Lists.{map_at}
use Rattle.rules.specs.declared.Product.{Product}
use Rattle.laws.specs.Survivors.{pruned, survivors}
use Rattle.ground.proofs.Kept.{kept_append, kept_at, kept_passes, kept_rising, passes_kept}
use Rattle.laws.proofs.Survivors.{comes, new, survivors_step, came_at, at_came, survivors_none}

-- the choice behind each product of a list: in the same order, and the first of those that stay and come to that product
pub record Origins (alive : ℕ → Bool) (reach : ℕ → ℕ) (cs : List Product) (d : Product) : Type 0 where
  pub place : ℕ → ℕ
  pub in_list : (j : ℕ) → j < length (survivors alive reach cs) → place j < length cs
  pub rises : (i j : ℕ) → i < j → j < length (survivors alive reach cs) → place i < place j
  pub gives : (j : ℕ) → j < length (survivors alive reach cs) → get_or (survivors alive reach cs) j d ≡ pruned alive reach (get_or cs (place j) d)
  pub stays : (j : ℕ) → j < length (survivors alive reach cs) → alive (get_or cs (place j) d).plain ≡ true
  pub first : (j : ℕ) → j < length (survivors alive reach cs) → (i : ℕ) → i < place j → alive (get_or cs i d).plain ≡ true
      → pruned alive reach (get_or cs i d) ≡ pruned alive reach (get_or cs (place j) d) → ⊥

module _ (alive : ℕ → Bool) (reach : ℕ → ℕ) (cs : List Product) (d : Product) where
  -- place i holds a choice that stays, and none before it came to its product
  abbrev new_at : ℕ → Bool
  new_at i = new alive reach (take i cs) (get_or cs i d)

  abbrev made : ℕ → Product
  made i = pruned alive reach (get_or cs i d)

  -- the list is what the places that hold such choices give, in order
  survivors_upto : (n : ℕ) → n ≤ length cs → survivors alive reach (take n cs) ≡ map made (keep_if new_at (below n))
  unfolding from keep_if
  survivors_upto zero h = survivors_none alive reach cs
  survivors_upto (suc n) h =
      survivors_step alive reach cs d n h
      ∙ ap₂ ◌++◌ (survivors_upto n (omega arith)) (one (new_at n))
      ∙ sym (map-append made (keep_if new_at (below n)) (keep_if new_at (n ∷ [])))
      ∙ ap (map made) (sym (kept_append new_at (below n) (n ∷ [])))
      ∙ ap (λ (ks : List ℕ). map made (keep_if new_at ks)) (sym (below_last n) ∙ ap below (add-one n))
    where
      one : (b : Bool) → (if b then made n ∷ [] else []) ≡ map made (if b then n ∷ [] else [])
      one true = refl
      one false = refl

  survivors_places : survivors alive reach cs ≡ map made (keep_if new_at (below (length cs)))
  survivors_places = ap (survivors alive reach) (sym (take-length cs)) ∙ survivors_upto (length cs) (le_refl (length cs))

  as_many : length (survivors alive reach cs) ≡ length (keep_if new_at (below (length cs)))
  as_many = ap length survivors_places ∙ length-map (keep_if new_at (below (length cs))) made

  abbrev place_of : ℕ → ℕ
  place_of = kept_at new_at 0 (length cs)

  module _ (j : ℕ) (l : j < length (survivors alive reach cs)) where
    at_place : j < length (keep_if new_at (below (length cs)))
    at_place = rw (sym as_many) l

    place_passes : (0 ≤ place_of j) × (place_of j < 0 + length cs) × (new_at (place_of j) ≡ true)
    place_passes = kept_passes new_at 0 (length cs) j at_place

    place_in : place_of j < length cs
    place_in = omega (arith, place_passes.1)

    place_gives : get_or (survivors alive reach cs) j d ≡ made (place_of j)
    place_gives = ap (λ (xs : List Product). get_or xs j d) survivors_places ∙ map_at made 0 d (keep_if new_at (below (length cs))) j at_place

    place_stays : alive (get_or cs (place_of j) d).plain ≡ true
    place_stays =
        let c = get_or cs (place_of j) d in
        and_left (alive c.plain) (not (any_of (comes alive reach c) (take (place_of j) cs))) place_passes.2

    place_first : (i : ℕ) → i < place_of j → alive (get_or cs i d).plain ≡ true → made i ≡ made (place_of j) → ⊥
    place_first i h a e =
        let c = get_or cs (place_of j) d in
        let came = any_of (comes alive reach c) (take (place_of j) cs) in
        let no : came ≡ false = not-true came (and_right (alive c.plain) (not came) place_passes.2) in
        false_true (sym no ∙ at_came alive reach cs d (place_of j) (omega (arith, place_in)) c i h a e)

  -- the products stand in the order of the choices that first come to them
  pub survivors_order : Origins alive reach cs d
  survivors_order = record {
    place = place_of;
    in_list = place_in;
    rises = λ i j h l. kept_rising new_at 0 (length cs) i j h (at_place j l);
    gives = place_gives;
    stays = place_stays;
    first = place_first;
  }

  -- no product stands there twice
  pub survivors_distinct : (i j : ℕ) → i < j → j < length (survivors alive reach cs)
      → get_or (survivors alive reach cs) i d ≡ get_or (survivors alive reach cs) j d → ⊥
  survivors_distinct i j h l e =
      let k : i < length (survivors alive reach cs) = lt_trans h l in
      let o = survivors_order in
      o.first j l (o.place i) (o.rises i j h l) (o.stays i k) (sym (o.gives i k) ∙ e ∙ o.gives j l)

  -- the product of each choice that stays is in the list
  pub survivors_has : (i : ℕ) → i < length cs → alive (get_or cs i d).plain ≡ true
      → (j : ℕ) × (j < length (survivors alive reach cs)) × (get_or (survivors alive reach cs) j d ≡ pruned alive reach (get_or cs i d))
  survivors_has i l a = go (suc i) i (omega arith) l a
    where
      Stands : ℕ → Type 0
      Stands i = (j : ℕ) × (j < length (survivors alive reach cs)) × (get_or (survivors alive reach cs) j d ≡ made i)

      by : (i : ℕ) → i < length cs → alive (get_or cs i d).plain ≡ true → (t : Bool) → any_of (comes alive reach (get_or cs i d)) (take i cs) ≡ t
          → ((k : ℕ) → k < i → k < length cs → alive (get_or cs k d).plain ≡ true → Stands k) → Stands i
      by i l a true e f =
          let s = came_at alive reach cs d i (omega arith) (get_or cs i d) e in
          let m : s.0 < i = s.1 in
          let r = f s.0 m (omega arith) s.2 in
          (r.0, r.1, r.2 ∙ s.3)
      by i l a false e f =
          let s = passes_kept new_at 0 (length cs) i (omega arith) (omega arith) (ap₂ (λ (p q : Bool). p && not q) a e) in
          let m : s.0 < length (survivors alive reach cs) = rw as_many s.1 in
          (s.0, m, place_gives s.0 m ∙ ap made s.2)

      go : (n i : ℕ) → i < n → i < length cs → alive (get_or cs i d).plain ≡ true → Stands i
      go zero i h l a = absurd (omega arith)
      go (suc n) i h l a = by i l a (any_of (comes alive reach (get_or cs i d)) (take i cs)) refl (λ k m. go n k (omega arith))
