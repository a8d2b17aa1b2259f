-- The choices of a tree are the ways of its plan: how many, which is the k-th, and which primitives it can name. Assumes nothing.
use Prim.Native.Nat.{ℕ, zero, suc, ◌+◌, ◌-◌, ◌*◌, ◌/◌, ◌%◌, ◌^◌, ◌≤◌, ◌<◌}
use native.Mathlib.Nat.{zero-mul, mul-zero, mul-suc, suc-mul, mul_comm, mod-lt, div-add-mod', div-lt_iff_lt-mul, le_of_suc-le-suc, not-suc-le-zero}
use native.Mathlib.Omega.{arith}
use mathlib.Core.Bool.{Bool, true, false}
use mathlib.Core.Logic.{◌⊎◌, inl, inr}
use mathlib.Core.List.{List, [], ◌∷◌, ◌++◌, map}
use mathlib.Core.Path.{◌≡◌, refl, sym, ap, ap₂, subst, ◌∙◌}
use borrow.Author.Tests.{lt-ltb, le-ltb, ltb-true, ltb-false}
use lib.Arith.{digits_lt, digits_div, digits_mod}
use lib.Bits.{bit_or}
use lib.Dec.{ltb}
use lib.ListN.{length, get_or, length-append, length-map, get_or-append}
use lib.Seq.{get_or-append-add}
use Rattle.std.specs.Prelude.{if◌then◌else◌}
use Rattle.ground.proofs.Lists.{map_at}
use Rattle.ground.proofs.Masks.{Within, within_self, within_none, within_left, within_right, within_or}
use Rattle.rules.specs.declared.Product.{Product}
use Rattle.rules.specs.Tree.{Tree, solid, union, inter, diff}
use Rattle.rules.specs.Choices.{Side, in_of, out_of, joined, ◌crossed_with◌, choices}
use Rattle.laws.specs.Plans.{Plan, with_it, without, either, both, plan, ways, count, kth, mask}

pub choices_ways : (s : Side) (t : Tree) → choices s t ≡ ways (plan s t)
unfolding choices ways plan
choices_ways in_of (solid i s) = refl
choices_ways out_of (solid i s) = refl
choices_ways in_of (union l r) = ap₂ ◌++◌ (choices_ways in_of l) (choices_ways in_of r)
choices_ways out_of (union l r) = ap₂ ◌crossed_with◌ (choices_ways out_of l) (choices_ways out_of r)
choices_ways in_of (inter l r) = ap₂ ◌crossed_with◌ (choices_ways in_of l) (choices_ways in_of r)
choices_ways out_of (inter l r) = ap₂ ◌++◌ (choices_ways out_of l) (choices_ways out_of r)
choices_ways in_of (diff l r) = ap₂ ◌crossed_with◌ (choices_ways in_of l) (choices_ways out_of r)
choices_ways out_of (diff l r) = ap₂ ◌++◌ (choices_ways out_of l) (choices_ways in_of r)

-- ---- two lists crossed

length_crossed : (xs ys : List Product) → length (xs crossed_with ys) ≡ length xs * length ys
unfolding ◌crossed_with◌
length_crossed xs [] = sym (mul-zero (length xs))
length_crossed xs (y ∷ ys) =
    let e = length-append (map (λ x. joined x y) xs) (xs crossed_with ys) in
    let m = length-map xs (λ x. joined x y) in
    omega (arith, e, m, length_crossed xs ys, mul-suc (length xs) (length ys))

crossed_at : (d : Product) (xs ys : List Product) (i j : ℕ) → i < length xs → j < length ys
    → get_or (xs crossed_with ys) (j * length xs + i) d ≡ joined (get_or xs i d) (get_or ys j d)
unfolding ◌crossed_with◌
crossed_at d xs [] i j hi hj = absurd (not-suc-le-zero hj)
crossed_at d xs (y ∷ ys) i zero hi hj =
    let m : length (map (λ x. joined x y) xs) ≡ length xs = length-map xs (λ x. joined x y) in
    let s : zero * length xs + i ≡ i = omega (arith, zero-mul (length xs)) in
    ap (λ (n : ℕ). get_or (map (λ x. joined x y) xs ++ (xs crossed_with ys)) n d) s
    ∙ get_or-append (map (λ x. joined x y) xs) (xs crossed_with ys) d i (omega arith)
    ∙ map_at (λ x. joined x y) d d xs i hi
crossed_at d xs (y ∷ ys) i (suc j) hi hj =
    let m : length (map (λ x. joined x y) xs) ≡ length xs = length-map xs (λ x. joined x y) in
    let s : suc j * length xs + i ≡ length (map (λ x. joined x y) xs) + (j * length xs + i) = omega (arith, suc-mul j (length xs)) in
    ap (λ (n : ℕ). get_or (map (λ x. joined x y) xs ++ (xs crossed_with ys)) n d) s
    ∙ get_or-append-add (map (λ x. joined x y) xs) (xs crossed_with ys) (j * length xs + i) d
    ∙ crossed_at d xs ys i j hi (le_of_suc-le-suc hj)

-- ---- how many

pub ways_count : (p : Plan) → length (ways p) ≡ count p
unfolding ways count
ways_count (with_it i) = refl
ways_count (without i) = refl
ways_count (either a b) = length-append (ways a) (ways b) ∙ ap₂ ◌+◌ (ways_count a) (ways_count b)
ways_count (both a b) = length_crossed (ways a) (ways b) ∙ ap₂ ◌*◌ (ways_count a) (ways_count b)

-- ---- the place of a choice in the parts

-- a place of n times m: a place of the n, and one of the m
module _ (n m k : ℕ) (h : k < n * m) where
  some_left : 0 < n
  some_left = go n h
    where
      go : (n : ℕ) → k < n * m → 0 < n
      go zero h = absurd (omega (arith, zero-mul m))
      go (suc n) h = omega arith

  pub place_left : k % n < n
  place_left = mod-lt k some_left

  pub place_right : k / n < m
  place_right = (div-lt_iff_lt-mul some_left).1 (rw mul_comm h)

module _ (a b : Plan) (k : ℕ) where
  pub kth_left : k < count a → kth (either a b) k ≡ kth a k
  unfolding kth
  kth_left h = rw (lt-ltb k (count a) h)

  pub kth_right : count a ≤ k → kth (either a b) k ≡ kth b (k - count a)
  unfolding kth
  kth_right h = rw (le-ltb k (count a) h)

pub kth_after : (a b : Plan) (j : ℕ) → kth (either a b) (count a + j) ≡ kth b j
kth_after a b j =
    let back : count a + j - count a ≡ j = omega arith in kth_right a b (count a + j) (omega arith) ∙ ap (kth b) back

module _ (a b : Plan) (i j : ℕ) (hi : i < count a) where
  pub pair_fits : j < count b → j * count a + i < count (both a b)
  unfolding count
  pair_fits hj = rw (mul_comm (count a) (count b)) (digits_lt hj hi)

  pub pair_kth : kth (both a b) (j * count a + i) ≡ joined (kth a i) (kth b j)
  unfolding kth
  pair_kth = ap₂ (λ (x y : ℕ). joined (kth a x) (kth b y)) (digits_mod j hi) (digits_div j hi)

-- an earlier place is earlier in the right part, or there in the same place and earlier in the left
pub earlier_part : (n j k : ℕ) → j % n < n → k % n < n → j < k → (j / n < k / n) ⊎ ((j / n ≡ k / n) × (j % n < k % n))
earlier_part n j k hj hk l = go (ltb (j / n) (k / n)) refl (ltb (k / n) (j / n)) refl
  where
    go : (s : Bool) → ltb (j / n) (k / n) ≡ s → (t : Bool) → ltb (k / n) (j / n) ≡ t → (j / n < k / n) ⊎ ((j / n ≡ k / n) × (j % n < k % n))
    go true e t f = inl (ltb-true (j / n) (k / n) e)
    go false e true f = absurd (omega (arith, digits_lt (ltb-true (k / n) (j / n) f) hk, div-add-mod' j n, div-add-mod' k n))
    go false e false f =
        let s : j / n ≡ k / n = omega (arith, ltb-false (j / n) (k / n) e, ltb-false (k / n) (j / n) f) in
        inr (s, omega (arith, ap (λ (q : ℕ). q * n) s, div-add-mod' j n, div-add-mod' k n))

-- what holds of each choice of either part holds of each choice of the two
pub by_part : (P : Product → Type 0) (a b : Plan) → ((k : ℕ) → k < count a → P (kth a k)) → ((k : ℕ) → k < count b → P (kth b k))
    → (k : ℕ) → k < count a + count b → P (kth (either a b) k)
by_part P a b f g k h = go (ltb k (count a)) refl
  where
    go : (t : Bool) → ltb k (count a) ≡ t → P (kth (either a b) k)
    go true e = let l = ltb-true k (count a) e in subst P (sym (kth_left a b k l)) (f k l)
    go false e = let l : count a ≤ k = ltb-false k (count a) e in subst P (sym (kth_right a b k l)) (g (k - count a) (omega arith))

-- ---- the k-th

one_way : (c d : Product) (k : ℕ) → k < 1 → get_or (c ∷ []) k d ≡ c
one_way c d zero h = refl
one_way c d (suc k) h = absurd (omega arith)

pub ways_kth : (p : Plan) (k : ℕ) (d : Product) → k < count p → get_or (ways p) k d ≡ kth p k
unfolding ways count kth
ways_kth (with_it i) k d h = one_way _ d k h
ways_kth (without i) k d h = one_way _ d k h
ways_kth (either a b) k d h = go (ltb k (count a)) refl (ways_kth a) (ways_kth b)
  where
    go : (t : Bool) → ltb k (count a) ≡ t → ((j : ℕ) (d : Product) → j < count a → get_or (ways a) j d ≡ kth a j)
        → ((j : ℕ) (d : Product) → j < count b → get_or (ways b) j d ≡ kth b j)
        → get_or (ways a ++ ways b) k d ≡ (if ltb k (count a) then kth a k else kth b (k - count a))
    go true e f g =
        let l : k < count a = ltb-true k (count a) e in
        rw e (get_or-append (ways a) (ways b) d k (rw (ways_count a) l) ∙ f k d l)
    go false e f g =
        let l : count a ≤ k = ltb-false k (count a) e in
        let s : k ≡ length (ways a) + (k - count a) = omega (arith, ways_count a) in
        rw e (ap (λ (j : ℕ). get_or (ways a ++ ways b) j d) s ∙ get_or-append-add (ways a) (ways b) (k - count a) d ∙ g (k - count a) d (omega arith))
ways_kth (both a b) k d h =
    let i : k % count a < count a = place_left (count a) (count b) k h in
    let j : k / count a < count b = place_right (count a) (count b) k h in
    let s : k ≡ k / count a * length (ways a) + k % count a = rw (ways_count a) (sym (div-add-mod' k (count a))) in
    ap (λ (n : ℕ). get_or (ways a crossed_with ways b) n d) s
    ∙ crossed_at d (ways a) (ways b) (k % count a) (k / count a) (rw (ways_count a) i) (rw (ways_count b) j)
    ∙ ap₂ joined (ways_kth a (k % count a) d i) (ways_kth b (k / count a) d j)

-- ---- the primitives that it can name

-- a choice of some primitives
abbrev pub Of : ℕ → Product → Type 0
Of m c = Within c.plain m × Within c.cuts m

pub kth_within : (p : Plan) (k : ℕ) → k < count p → Within (kth p k).plain (mask p) × Within (kth p k).cuts (mask p)
unfolding kth count mask
kth_within (with_it i) k h = (within_self (2 ^ i), within_none (2 ^ i))
kth_within (without i) k h = (within_none (2 ^ i), within_self (2 ^ i))
kth_within (either a b) k h =
    by_part (Of (bit_or (mask a) (mask b))) a b
    (λ j l. let w = kth_within a j l in (within_left (kth a j).plain (mask a) (mask b) w.0, within_left (kth a j).cuts (mask a) (mask b) w.1))
    (λ j l. let w = kth_within b j l in (within_right (kth b j).plain (mask a) (mask b) w.0, within_right (kth b j).cuts (mask a) (mask b) w.1)) k h
kth_within (both a b) k h =
    let v = kth_within a (k % count a) (place_left (count a) (count b) k h) in
    let w = kth_within b (k / count a) (place_right (count a) (count b) k h) in
    (within_or _ _ (mask a) (mask b) v.0 w.0, within_or _ _ (mask a) (mask b) v.1 w.1)
