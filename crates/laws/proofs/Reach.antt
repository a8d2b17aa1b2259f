-- The primitives in reach of the chosen ones decide what stays of the choices in a window; and such sets, place by place. Assumes nothing.
use Prim.Native.Nat.{ℕ, zero, suc, ◌+◌, ◌*◌, ◌/◌, ◌%◌, ◌^◌, ◌≤◌, ◌<◌}
use native.Mathlib.Nat.{not-suc-le-zero, le_of_suc-le-suc, one-mul, pow-suc}
use native.Mathlib.Omega.{arith}
use mathlib.Core.Bool.{Bool, true, false, not, ◌&&◌, ◌||◌, and_assoc, and_comm}
use mathlib.Core.List.{List, [], ◌∷◌, ◌++◌, map}
use mathlib.Core.Path.{◌≡◌, refl, sym, ap, ap₂, ◌∙◌}
use borrow.Author.Tests.{eqb-true, eqb-false, eq-eqb, ne_eqb}
use lib.Bits.{bit_and, bit_or, or_zero_r, or_shifted_r, and_zero_r}
use lib.Dec.{eqb}
use lib.ListN.{length, get_or, take}
use lib.Seq.{take-suc, length-take-le}
use Rattle.ground.specs.Bits.{odd, selected, places_of, places_where}
use Rattle.ground.specs.Lists.{All, all_of, any_of, keep_if}
use Rattle.std.specs.Prelude.{if◌then◌else◌}
use Rattle.ground.proofs.Lists.{all_map}
use Rattle.ground.proofs.Masks.{has, has_and, has_none, same_places}
use Rattle.rules.specs.declared.Primitive.{Primitive}
use Rattle.rules.specs.declared.Product.{Product}
use Rattle.rules.specs.declared.Window.{Window}
use Rattle.rules.specs.Boxes.{window_box, empty, share}
use Rattle.rules.specs.Choices.{choices, in_of}
use Rattle.rules.specs.Products.{box_of, product_box, stays, trimmed, firsts, products}
use Rattle.rules.specs.Tree.{Tree}
use Rattle.laws.specs.Survivors.{pruned, survivors}
use Rattle.laws.specs.Reach.{cut_down, reach_in, alive_in}
use Rattle.laws.proofs.Spaces.{share_all, left_pairwise}

-- ---- the places at which a test holds

abbrev digit : Bool → ℕ
digit b = if b then 1 else 0

pub digit_odd : (b : Bool) (n : ℕ) → odd (digit b + 2 * n) ≡ b
digit_odd true n = eq-eqb ((1 + 2 * n) % 2) 1 (omega arith)
digit_odd false n = ne_eqb ((0 + 2 * n) % 2) 1 (λ e. omega arith)

pub digit_half : (b : Bool) (n : ℕ) → (digit b + 2 * n) / 2 ≡ n
digit_half true n = omega arith
digit_half false n = omega arith

pub and_digit : (c : ℕ) (b : Bool) (n : ℕ) → bit_and c (digit b + 2 * n) ≡ digit (odd c && b) + 2 * bit_and (c / 2) n
unfolding has
and_digit c b n = same_places _ _ at
  where
    at : (i : ℕ) → has i (bit_and c (digit b + 2 * n)) ≡ has i (digit (odd c && b) + 2 * bit_and (c / 2) n)
    at zero = has_and zero c (digit b + 2 * n) ∙ ap (λ (t : Bool). odd c && t) (digit_odd b n) ∙ sym (digit_odd (odd c && b) (bit_and (c / 2) n))
    at (suc i) =
        has_and (suc i) c (digit b + 2 * n)
        ∙ ap (λ (m : ℕ). has i (c / 2) && has i m) (digit_half b n)
        ∙ sym (has_and i (c / 2) n)
        ∙ ap (has i) (sym (digit_half (odd c && b) (bit_and (c / 2) n)))

eqb_same : (a b c d : ℕ) → (a ≡ b → c ≡ d) → (c ≡ d → a ≡ b) → eqb a b ≡ eqb c d
eqb_same a b c d f g = go (eqb a b) refl
  where
    go : (t : Bool) → eqb a b ≡ t → t ≡ eqb c d
    go true e = sym (eq-eqb c d (f (eqb-true a b e)))
    go false e = sym (ne_eqb c d (λ k. eqb-false a b e (g k)))

module _ {A : Type 0} (test : A → Bool) where
  pub places_where_bits : (xs : List A) (set : ℕ) → places_where test set xs ≡ bit_and set (places_of test xs)
  unfolding places_of places_where
  places_where_bits [] set = sym (and_zero_r set)
  places_where_bits (x ∷ xs) set =
      ap (λ (n : ℕ). digit (odd set && test x) + 2 * n) (places_where_bits xs (set / 2)) ∙ sym (and_digit set (test x) (places_of test xs))

  pub has_places : (d : A) (xs : List A) (i : ℕ) → i < length xs → has i (places_of test xs) ≡ test (get_or xs i d)
  unfolding has places_of
  has_places d [] i l = absurd (not-suc-le-zero l)
  has_places d (x ∷ xs) zero l = digit_odd (test x) (places_of test xs)
  has_places d (x ∷ xs) (suc i) l = ap (has i) (digit_half (test x) (places_of test xs)) ∙ has_places d xs i (le_of_suc-le-suc l)

  pub places_past : (xs : List A) (i : ℕ) → length xs ≤ i → has i (places_of test xs) ≡ false
  unfolding has places_of
  places_past [] i l = has_none i
  places_past (x ∷ xs) zero l = absurd (not-suc-le-zero l)
  places_past (x ∷ xs) (suc i) l = ap (has i) (digit_half (test x) (places_of test xs)) ∙ places_past xs i (le_of_suc-le-suc l)

  pub places_bound : (xs : List A) → places_of test xs < 2 ^ length xs
  unfolding places_of
  places_bound [] = omega arith
  places_bound (x ∷ xs) = go (test x) (places_bound xs)
    where
      go : (b : Bool) → places_of test xs < 2 ^ length xs → digit b + 2 * places_of test xs < 2 ^ suc (length xs)
      go true h = omega (arith, pow-suc 2 (length xs))
      go false h = omega (arith, pow-suc 2 (length xs))

  -- the places of the first k, then that of element k
  pub places_next : (d : A) (xs : List A) (k : ℕ) → k < length xs
      → places_of test (take (suc k) xs) ≡ bit_or (places_of test (take k xs)) (if test (get_or xs k d) then 2 ^ k else 0)
  unfolding places_of
  places_next d xs k l =
      ap (places_of test) (take-suc xs k d l)
      ∙ last (take k xs) (get_or xs k d)
      ∙ sym (above (test (get_or xs k d)) (length (take k xs)) (places_of test (take k xs)) (places_bound (take k xs)))
      ∙ ap (λ (n : ℕ). bit_or (places_of test (take k xs)) (if test (get_or xs k d) then 2 ^ n else 0)) (length-take-le k xs (omega arith))
    where
      last : (ys : List A) (z : A) → places_of test (ys ++ (z ∷ [])) ≡ (if test z then 2 ^ length ys else 0) + places_of test ys
      last [] z = refl
      last (y ∷ ys) z = ap (λ (n : ℕ). digit (test y) + 2 * n) (last ys z) ∙ go (test z)
        where
          go : (b : Bool) → digit (test y) + 2 * ((if b then 2 ^ length ys else 0) + places_of test ys)
              ≡ (if b then 2 ^ suc (length ys) else 0) + (digit (test y) + 2 * places_of test ys)
          go true = omega (arith, pow-suc 2 (length ys))
          go false = omega arith

      above : (b : Bool) (k n : ℕ) → n < 2 ^ k → bit_or n (if b then 2 ^ k else 0) ≡ (if b then 2 ^ k else 0) + n
      above true k n h = ap (bit_or n) (sym (one-mul (2 ^ k))) ∙ or_shifted_r 1 k n h ∙ ap (λ (m : ℕ). m + n) (one-mul (2 ^ k))
      above false k n h = or_zero_r n ∙ omega arith

  -- a set lies within the places just if the test holds of all that it selects
  pub chosen_places : (xs : List A) (chosen : ℕ) → chosen < 2 ^ length xs → eqb (bit_and chosen (places_of test xs)) chosen ≡ all_of test (selected chosen xs)
  unfolding places_of selected all_of
  chosen_places [] chosen h = eq-eqb (bit_and chosen 0) chosen (and_zero_r chosen ∙ omega arith)
  chosen_places (x ∷ xs) chosen h =
      ap (λ (n : ℕ). eqb n chosen) (and_digit chosen (test x) (places_of test xs))
      ∙ go (test x) (odd chosen) refl (bit_and (chosen / 2) (places_of test xs))
      ∙ ap (λ (t : Bool). (if odd chosen then test x else true) && t) (chosen_places xs (chosen / 2) (omega (arith, pow-suc 2 (length xs))))
      ∙ take_in (odd chosen)
    where
      go : (b o : Bool) → odd chosen ≡ o → (n : ℕ) → eqb (digit (o && b) + 2 * n) chosen ≡ ((if o then b else true) && eqb n (chosen / 2))
      go true true e n =
          let r : chosen % 2 ≡ 1 = eqb-true (chosen % 2) 1 e in
          eqb_same (1 + 2 * n) chosen n (chosen / 2) (λ k. omega arith) (λ k. omega arith)
      go false true e n =
          let r : chosen % 2 ≡ 1 = eqb-true (chosen % 2) 1 e in
          ne_eqb (0 + 2 * n) chosen (λ k. omega arith)
      go b false e n =
          let r : chosen % 2 ≡ 1 → ⊥ = eqb-false (chosen % 2) 1 e in
          let z : chosen % 2 ≡ 0 = omega arith in
          eqb_same (0 + 2 * n) chosen n (chosen / 2) (λ k. omega arith) (λ k. omega arith)

      take_in : (o : Bool) → ((if o then test x else true) && all_of test (selected (chosen / 2) xs))
          ≡ all_of test (if o then x ∷ selected (chosen / 2) xs else selected (chosen / 2) xs)
      take_in true = refl
      take_in false = refl

  -- and has none of them just if the test holds of none that it selects
  pub chosen_none : (xs : List A) (chosen : ℕ) → eqb (bit_and chosen (places_of test xs)) 0 ≡ not (any_of test (selected chosen xs))
  unfolding places_of selected any_of
  chosen_none [] chosen = eq-eqb (bit_and chosen 0) 0 (and_zero_r chosen)
  chosen_none (x ∷ xs) chosen =
      ap (λ (n : ℕ). eqb n 0) (and_digit chosen (test x) (places_of test xs))
      ∙ go (odd chosen) (test x) (bit_and (chosen / 2) (places_of test xs)) (chosen_none xs (chosen / 2))
      ∙ ap not (taken (odd chosen))
    where
      later : List A
      later = selected (chosen / 2) xs

      go : (o b : Bool) (n : ℕ) → eqb n 0 ≡ not (any_of test later) → eqb (digit (o && b) + 2 * n) 0 ≡ not ((o && b) || any_of test later)
      go true true n e = ne_eqb (1 + 2 * n) 0 (λ k. omega arith)
      go true false n e = eqb_same (0 + 2 * n) 0 n 0 (λ k. omega arith) (λ k. omega arith) ∙ e
      go false b n e = eqb_same (0 + 2 * n) 0 n 0 (λ k. omega arith) (λ k. omega arith) ∙ e

      taken : (o : Bool) → ((o && test x) || any_of test later) ≡ any_of test (if o then x ∷ later else later)
      taken true = refl
      taken false = refl

module _ {A : Type 0} where
  places_and : (p q : A → Bool) (xs : List A) → bit_and (places_of p xs) (places_of q xs) ≡ places_of (λ x. p x && q x) xs
  unfolding places_of
  places_and p q [] = and_zero_r 0
  places_and p q (x ∷ xs) =
      and_digit (digit (p x) + 2 * places_of p xs) (q x) (places_of q xs)
      ∙ ap₂ (λ (b : Bool) (n : ℕ). digit (b && q x) + 2 * bit_and n (places_of q xs)) (digit_odd (p x) (places_of p xs)) (digit_half (p x) (places_of p xs))
      ∙ ap (λ (n : ℕ). digit (p x && q x) + 2 * n) (places_and p q xs)

  -- cut by each chosen one, the places are those of the elements that meet each chosen one
  cut_places : (meet : A → A → Bool) (xs ts : List A) (chosen : ℕ) (test : A → Bool)
      → cut_down (map (λ t. places_of (λ s. meet s t) xs) ts) chosen (places_of test xs) ≡ places_of (λ s. all_of (meet s) (selected chosen ts) && test s) xs
  unfolding cut_down selected all_of
  cut_places meet xs [] chosen test = refl
  cut_places meet xs (t ∷ ts) chosen test = go (odd chosen) (cut_places meet xs ts (chosen / 2))
    where
      rows : List ℕ
      rows = map (λ u. places_of (λ s. meet s u) xs) ts

      go : (o : Bool)
          → ((test : A → Bool) → cut_down rows (chosen / 2) (places_of test xs) ≡ places_of (λ s. all_of (meet s) (selected (chosen / 2) ts) && test s) xs)
          → cut_down rows (chosen / 2) (if o then bit_and (places_of (λ s. meet s t) xs) (places_of test xs) else places_of test xs)
          ≡ places_of (λ s. all_of (meet s) (if o then t ∷ selected (chosen / 2) ts else selected (chosen / 2) ts) && test s) xs
      go true rest =
          ap (cut_down rows (chosen / 2)) (places_and (λ s. meet s t) test xs)
          ∙ rest (λ s. meet s t && test s)
          ∙ (λ i. places_of (λ s. turn (all_of (meet s) (selected (chosen / 2) ts)) (meet s t) (test s) i) xs)
        where
          turn : (p q r : Bool) → (p && (q && r)) ≡ ((q && p) && r)
          turn p q r = sym (and_assoc p q r) ∙ ap (λ (b : Bool). b && r) (and_comm p q)
      go false rest = rest test

  kept_same : {B : Type 0} (p q : A → Bool) (f g : A → B) (xs : List A) → All (λ x. (p x ≡ q x) × (p x ≡ true → f x ≡ g x)) xs
      → map f (keep_if p xs) ≡ map g (keep_if q xs)
  unfolding keep_if
  kept_same p q f g [] h = refl
  kept_same p q f g (x ∷ xs) h =
      go (p x) h.0.1 (kept_same p q f g xs h.1)
      ∙ ap (λ (b : Bool). map g (if b then x ∷ keep_if q xs else keep_if q xs)) h.0.0
    where
      go : (b : Bool) → (b ≡ true → f x ≡ g x) → map f (keep_if p xs) ≡ map g (keep_if q xs)
          → map f (if b then x ∷ keep_if p xs else keep_if p xs) ≡ map g (if b then x ∷ keep_if q xs else keep_if q xs)
      go true e rest = λ i. e refl i ∷ rest i
      go false e rest = rest

-- ---- the two answers are exact

module _ (w : Window) (solids : List Primitive) where
  abbrev in_reach : ℕ → Primitive → Bool
  in_reach chosen s = all_of (λ t. share (box_of s) (box_of t)) (selected chosen solids) && share (box_of s) (window_box w)

  reach_places : (chosen : ℕ) → reach_in w solids chosen ≡ places_of (in_reach chosen) solids
  reach_places chosen = cut_places (λ s t. share (box_of s) (box_of t)) solids solids chosen (λ s. share (box_of s) (window_box w))

  -- the reach is what shares a point with the product's box
  pub reach_exact : (c : Product) → stays w solids c ≡ true → reach_in w solids c.plain ≡ places_of (λ s. share (box_of s) (product_box w solids c)) solids
  reach_exact c h =
      reach_places c.plain
      ∙ (λ i. places_of (λ s. sym (share_all box_of (window_box w) (box_of s) (selected c.plain solids) h) i) solids)

  pub trimmed_pruned : (c : Product) → stays w solids c ≡ true → trimmed w solids c ≡ pruned (alive_in w solids) (reach_in w solids) c
  trimmed_pruned c h =
      ap (λ (cuts : ℕ). record { plain = c.plain; cuts = cuts })
      (places_where_bits (λ s. share (box_of s) (product_box w solids c)) solids c.cuts ∙ ap (bit_and c.cuts) (sym (reach_exact c h)))

  module _ (filled : empty (window_box w) ≡ false) where
    -- the box is there just if each chosen primitive is in reach
    pub alive_exact : (c : Product) → c.plain < 2 ^ length solids → stays w solids c ≡ alive_in w solids c.plain
    alive_exact c l =
        left_pairwise box_of (window_box w) (ap not filled) (selected c.plain solids)
        ∙ sym (chosen_places (in_reach c.plain) solids c.plain l)
        ∙ ap (λ (r : ℕ). eqb (bit_and c.plain r) c.plain) (sym (reach_places c.plain))

    pub products_survivors : (tree : Tree) → All (λ c. c.plain < 2 ^ length solids) (choices in_of tree)
        → products w solids tree ≡ survivors (alive_in w solids) (reach_in w solids) (choices in_of tree)
    unfolding products survivors
    products_survivors tree h = ap firsts (kept_same (stays w solids) (λ c. alive_in w solids c.plain) (trimmed w solids) prune (choices in_of tree) agree)
      where
        prune : Product → Product
        prune = pruned (alive_in w solids) (reach_in w solids)

        Agree : Product → Type 0
        Agree c = (stays w solids c ≡ alive_in w solids c.plain) × (stays w solids c ≡ true → trimmed w solids c ≡ prune c)

        agree : All Agree (choices in_of tree)
        agree = all_map (λ c. c.plain < 2 ^ length solids) Agree (λ c l. (alive_exact c l, trimmed_pruned c)) (choices in_of tree) h
