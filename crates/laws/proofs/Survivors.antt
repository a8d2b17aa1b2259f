-- The list of some choices: what the next choice adds, and how long the list is. Assumes nothing.
use Prim.Native.Nat.{ℕ, suc, ◌≤◌, ◌<◌}
use native.Mathlib.Omega.{arith}
use mathlib.Core.Bool.{Bool, true, false, not, ◌&&◌}
use mathlib.Core.List.{List, [], ◌∷◌, ◌++◌, map, append-nil, map-append}
use mathlib.Core.Path.{◌≡◌, refl, sym, ap, ap₂, subst, ◌∙◌}
use lib.Bits.{bit_and}
use lib.ListN.{length, get_or, take, length-map}
use lib.Seq.{take-suc, take-length, length-take-le, get_or-take}
use Rattle.std.specs.Prelude.{if◌then◌else◌}
use Rattle.ground.specs.Lists.{any_of, keep_if}
use Rattle.ground.proofs.Branches.{false_true, and_left, and_right}
use Rattle.rules.specs.declared.Product.{Product}
use Rattle.rules.specs.Products.{same, firsts}
use Rattle.laws.specs.Plans.{Plan, ways, count, kth, Apart, fresh}
use Rattle.laws.specs.Survivors.{pruned, survivors}
use Rattle.laws.proofs.Ways.{ways_count, ways_kth}
use Rattle.laws.proofs.Repeats.{fresh_first, stale_repeat}
use Rattle.ground.proofs.Kept.{kept_append, kept_length, any_found, found_any, any_made}
use Rattle.laws.proofs.Firsts.{same_equal, equal_same, firsts_last, firsts_length}

pub survivors_all : (p : Plan) → take (count p) (ways p) ≡ ways p
survivors_all p = ap (λ (n : ℕ). take n (ways p)) (sym (ways_count p)) ∙ take-length (ways p)

module _ (alive : ℕ → Bool) (reach : ℕ → ℕ) where
  -- ---- what one more choice adds

  -- a choice stays, and comes to the same product as another
  abbrev pub comes : Product → Product → Bool
  comes c d = alive d.plain && same (pruned alive reach d) (pruned alive reach c)

  -- a choice stays, and none before it came to its product
  abbrev pub new : List Product → Product → Bool
  new before c = alive c.plain && not (any_of (comes c) before)

  survivors_last : (cs : List Product) (c : Product)
      → survivors alive reach (cs ++ (c ∷ [])) ≡ survivors alive reach cs ++ (if new cs c then pruned alive reach c ∷ [] else [])
  unfolding survivors keep_if
  survivors_last cs c =
      ap (λ (l : List Product). firsts (map (pruned alive reach) l)) (kept_append stays cs (c ∷ []))
      ∙ ap firsts (map-append (pruned alive reach) kept (keep_if stays (c ∷ [])))
      ∙ go (alive c.plain)
    where
      stays : Product → Bool
      stays d = alive d.plain

      kept : List Product
      kept = keep_if stays cs

      go : (b : Bool)
          → firsts (map (pruned alive reach) kept ++ map (pruned alive reach) (if b then c ∷ [] else []))
          ≡ firsts (map (pruned alive reach) kept) ++ (if b && not (any_of (comes c) cs) then pruned alive reach c ∷ [] else [])
      go true =
          firsts_last (map (pruned alive reach) kept) (pruned alive reach c)
          ∙ ap (λ (l : List Product). firsts (map (pruned alive reach) kept) ++ l)
          (ap (λ (t : Bool). if t then [] else pruned alive reach c ∷ []) (any_made (λ d. same d (pruned alive reach c)) (pruned alive reach) stays cs)
          ∙ turn (any_of (comes c) cs))
        where
          turn : (t : Bool) → (if t then [] else pruned alive reach c ∷ []) ≡ (if not t then pruned alive reach c ∷ [] else [])
          turn true = refl
          turn false = refl
      go false = ap firsts (append-nil (map (pruned alive reach) kept)) ∙ sym (append-nil (firsts (map (pruned alive reach) kept)))

  module _ (cs : List Product) (d : Product) where
    pub survivors_step : (k : ℕ) → k < length cs → survivors alive reach (take (suc k) cs)
        ≡ survivors alive reach (take k cs) ++ (if new (take k cs) (get_or cs k d) then pruned alive reach (get_or cs k d) ∷ [] else [])
    survivors_step k l = ap (survivors alive reach) (take-suc cs k d l) ∙ survivors_last (take k cs) (get_or cs k d)

    -- ---- one of the first i choices came to a product, by its place

    module _ (i : ℕ) (in_list : i ≤ length cs) (c : Product) where
      pub came_at : any_of (comes c) (take i cs) ≡ true
          → (j : ℕ) × (j < i) × (alive (get_or cs j d).plain ≡ true) × (pruned alive reach (get_or cs j d) ≡ pruned alive reach c)
      came_at h =
          let s = any_found (comes c) d (take i cs) h in
          let l : s.0 < i = subst (λ (n : ℕ). s.0 < n) (length-take-le i cs in_list) s.1 in
          let x = get_or cs s.0 d in
          let t : comes c x ≡ true = subst (λ (y : Product). comes c y ≡ true) (get_or-take i cs s.0 d l) s.2 in
          let p = pruned alive reach x in
          let q = pruned alive reach c in
          (s.0, l, and_left (alive x.plain) (same p q) t, same_equal p q (and_right (alive x.plain) (same p q) t))

      pub at_came : (j : ℕ) → j < i → alive (get_or cs j d).plain ≡ true → pruned alive reach (get_or cs j d) ≡ pruned alive reach c
          → any_of (comes c) (take i cs) ≡ true
      at_came j l a e =
          found_any (comes c) d (take i cs) j (subst (λ (n : ℕ). j < n) (sym (length-take-le i cs in_list)) l)
          (subst (λ (y : Product). comes c y ≡ true) (sym (get_or-take i cs j d l))
          (ap₂ ◌&&◌ a (equal_same (pruned alive reach (get_or cs j d)) (pruned alive reach c) e)))

  -- ---- the choices of a plan, one after another

  -- the k-th choice adds its product just if it stays and is fresh
  pub survivors_next : (p : Plan) → Apart p → (k : ℕ) → k < count p → survivors alive reach (take (suc k) (ways p))
      ≡ survivors alive reach (take k (ways p))
      ++ (if alive (kth p k).plain && fresh p k (reach (kth p k).plain) then pruned alive reach (kth p k) ∷ [] else [])
  survivors_next p apart k h =
      survivors_step (ways p) c k in_list
      ∙ ap (λ (x : Product). survivors alive reach (take k (ways p)) ++ (if new (take k (ways p)) x then pruned alive reach x ∷ [] else [])) (ways_kth p k c h)
      ∙ ap (λ (t : Bool). survivors alive reach (take k (ways p)) ++ (if t then pruned alive reach c ∷ [] else [])) (go (alive c.plain) refl)
    where
      c : Product
      c = kth p k

      in_list : k < length (ways p)
      in_list = rw (ways_count p) h

      up_to : k ≤ length (ways p)
      up_to = omega (arith, in_list)

      before : List Product
      before = take k (ways p)

      turn : (f t : Bool) → fresh p k (reach c.plain) ≡ f → any_of (comes c) before ≡ t → alive c.plain ≡ true → not t ≡ f
      turn true true f e a =
          let s = came_at (ways p) c k up_to c e in
          let l : s.0 < k = s.1 in
          let at : get_or (ways p) s.0 c ≡ kth p s.0 = ways_kth p s.0 c (omega arith) in
          let q : pruned alive reach (kth p s.0) ≡ pruned alive reach c = ap (pruned alive reach) (sym at) ∙ s.3 in
          let u : (kth p s.0).plain ≡ c.plain = λ i. (q i).plain in
          absurd (fresh_first p apart (reach c.plain) k h f s.0 l u
          (ap (λ (n : ℕ). bit_and (kth p s.0).cuts (reach n)) (sym u) ∙ (λ i. (q i).cuts)))
      turn true false f e a = refl
      turn false true f e a = refl
      turn false false f e a =
          let s = stale_repeat p apart (reach c.plain) k h f in
          let l : s.0 < k = s.1 in
          let at : kth p s.0 ≡ get_or (ways p) s.0 c = sym (ways_kth p s.0 c (omega arith)) in
          let cuts = ap (λ (n : ℕ). bit_and (kth p s.0).cuts (reach n)) s.2 ∙ s.3 in
          let q : pruned alive reach (kth p s.0) ≡ pruned alive reach c = λ i. record { plain = s.2 i; cuts = cuts i } in
          false_true (sym e ∙ at_came (ways p) c k up_to c s.0 l
          (subst (λ (x : Product). alive x.plain ≡ true) at (ap alive s.2 ∙ a)) (ap (pruned alive reach) (sym at) ∙ q))

      go : (b : Bool) → alive c.plain ≡ b → new before c ≡ (alive c.plain && fresh p k (reach c.plain))
      go true a = ap (λ (t : Bool). alive c.plain && t) (turn (fresh p k (reach c.plain)) (any_of (comes c) before) refl refl a)
      go false a = rw a refl

  -- ---- how long

  pub survivors_none : (cs : List Product) → survivors alive reach (take 0 cs) ≡ []
  unfolding survivors firsts keep_if
  survivors_none cs = refl

  pub survivors_length : (cs : List Product) → length (survivors alive reach cs) ≤ length cs
  unfolding survivors
  survivors_length cs =
      let kept = keep_if (λ c. alive c.plain) cs in
      omega (arith, firsts_length (map (pruned alive reach) kept), length-map kept (pruned alive reach), kept_length (λ c. alive c.plain) cs)
