-- A tree and its choices agree at every point: the point is inside the tree just if some choice in it holds the point. Assumes nothing.
use Prim.Native.Nat.{ℕ, zero, suc, ◌/◌, ◌^◌, ◌<◌}
use native.Mathlib.Nat.{not-suc-le-zero, le_of_suc-le-suc, zero-lt-suc, pow-suc, mul-div_cancel}
use mathlib.Core.Bool.{Bool, true, false, not, ◌&&◌, ◌||◌, and-true, and-false, or-false, or_assoc, and-or_distrib_left, and-or_distrib_right, not-not}
use mathlib.Core.List.{List, [], ◌∷◌, ◌++◌, map}
use mathlib.Core.Path.{◌≡◌, refl, sym, ap, ap₂, ◌∙◌}
use lib.Bits.{bit_or, or_shr}
use lib.Dec.{eqb-zero-suc}
use lib.ListN.{length, get_or}
use Rattle.ground.specs.Bits.{odd, selected}
use Rattle.ground.specs.Lists.{all_of, any_of}
use Rattle.std.specs.Prelude.{if◌then◌else◌}
use Rattle.ground.proofs.Masks.{has, has_or, has_one}
use Rattle.rules.specs.declared.Point.{Point}
use Rattle.rules.specs.declared.Primitive.{Primitive}
use Rattle.rules.specs.declared.Product.{Product}
use Rattle.rules.specs.Tree.{Tree, solid, union, inter, diff, nowhere}
use Rattle.rules.specs.Inside.{inside, inside_solid}
use Rattle.rules.specs.Choices.{Side, in_of, out_of, choices, joined, ◌crossed_with◌}
use Rattle.rules.specs.ListInside.{inside_product}
use Rattle.laws.specs.Placed.{Placed}
use Rattle.laws.proofs.Spaces.{and_swap}

-- ---- tests

not_or : (a b : Bool) → not (a || b) ≡ (not a && not b)
not_or true b = refl
not_or false b = refl

not_and : (a b : Bool) → not (a && b) ≡ (not a || not b)
not_and true b = refl
not_and false b = refl

-- ---- the elements at the places of a set

module _ {A : Type 0} where
  none_is : (test : A → Bool) (xs : List A) → not (any_of test xs) ≡ all_of (λ x. not (test x)) xs
  unfolding any_of all_of
  none_is test [] = refl
  none_is test (x ∷ xs) = not_or (test x) (any_of test xs) ∙ ap (λ (b : Bool). not (test x) && b) (none_is test xs)

module _ {A : Type 0} (test : A → Bool) where
  all_of_none : (xs : List A) → all_of test (selected 0 xs) ≡ true
  unfolding selected all_of
  all_of_none [] = refl
  all_of_none (x ∷ xs) = all_of_none xs

  all_of_one : (d : A) (xs : List A) (i : ℕ) → i < length xs → all_of test (selected (2 ^ i) xs) ≡ test (get_or xs i d)
  unfolding selected all_of has
  all_of_one d [] i l = absurd (not-suc-le-zero l)
  all_of_one d (x ∷ xs) zero l = ap (λ (b : Bool). test x && b) (all_of_none xs) ∙ and-true (test x)
  all_of_one d (x ∷ xs) (suc i) l =
      let later : odd (2 ^ suc i) ≡ false = has_one zero (suc i) ∙ eqb-zero-suc i in
      let halved : 2 ^ suc i / 2 ≡ 2 ^ i = ap (λ (n : ℕ). n / 2) (pow-suc 2 i) ∙ mul-div_cancel (2 ^ i) (zero-lt-suc 1) in
      ap₂ (λ (o : Bool) (n : ℕ). all_of test (if o then x ∷ selected n xs else selected n xs)) later halved
      ∙ all_of_one d xs i (le_of_suc-le-suc l)

  all_of_both : (xs : List A) (a b : ℕ) → all_of test (selected (bit_or a b) xs) ≡ (all_of test (selected a xs) && all_of test (selected b xs))
  unfolding selected all_of has
  all_of_both [] a b = refl
  all_of_both (x ∷ xs) a b =
      ap₂ (λ (o : Bool) (n : ℕ). all_of test (if o then x ∷ selected n xs else selected n xs)) (has_or zero a b) (or_shr a b 1)
      ∙ picked (odd a || odd b) (selected (bit_or (a / 2) (b / 2)) xs)
      ∙ ap (λ (r : Bool). asked (odd a || odd b) && r) (all_of_both xs (a / 2) (b / 2))
      ∙ ap (λ (r : Bool). r && (all_of test (selected (a / 2) xs) && all_of test (selected (b / 2) xs))) (either (odd a) (odd b) (test x))
      ∙ and_swap (asked (odd a)) (asked (odd b)) (all_of test (selected (a / 2) xs)) (all_of test (selected (b / 2) xs))
      ∙ sym (ap₂ ◌&&◌ (picked (odd a) (selected (a / 2) xs)) (picked (odd b) (selected (b / 2) xs)))
    where
      asked : Bool → Bool
      asked o = if o then test x else true

      picked : (o : Bool) (ys : List A) → all_of test (if o then x ∷ ys else ys) ≡ (asked o && all_of test ys)
      picked true ys = refl
      picked false ys = refl

      either : (o p t : Bool) → (if o || p then t else true) ≡ ((if o then t else true) && (if p then t else true))
      either true true true = refl
      either true true false = refl
      either true false t = sym (and-true t)
      either false p t = refl

-- ---- some element of two lists put together

module _ {A : Type 0} (test : A → Bool) where
  any_append : (xs ys : List A) → any_of test (xs ++ ys) ≡ (any_of test xs || any_of test ys)
  unfolding any_of
  any_append [] ys = refl
  any_append (x ∷ xs) ys = ap (λ (b : Bool). test x || b) (any_append xs ys) ∙ sym (or_assoc (test x) (any_of test xs) (any_of test ys))

module _ (test : Product → Bool) (split : (a b : Product) → test (joined a b) ≡ (test a && test b)) where
  any_joined : (lefts : List Product) (r : Product) → any_of test (map (λ l. joined l r) lefts) ≡ (any_of test lefts && test r)
  unfolding any_of
  any_joined [] r = refl
  any_joined (l ∷ lefts) r = ap₂ ◌||◌ (split l r) (any_joined lefts r) ∙ sym (and-or_distrib_right (test l) (any_of test lefts) (test r))

  any_crossed : (lefts rights : List Product) → any_of test (lefts crossed_with rights) ≡ (any_of test lefts && any_of test rights)
  unfolding any_of ◌crossed_with◌
  any_crossed lefts [] = sym (and-false (any_of test lefts))
  any_crossed lefts (r ∷ rights) =
      any_append test (map (λ l. joined l r) lefts) (lefts crossed_with rights)
      ∙ ap₂ ◌||◌ (any_joined lefts r) (any_crossed lefts rights)
      ∙ sym (and-or_distrib_left (any_of test lefts) (test r) (any_of test rights))

-- ---- the tree

-- what a side asks of the answer
abbrev on : Side → Bool → Bool
on in_of answer = answer
on out_of answer = not answer

module _ (solids : List Primitive) (p : Point) where
  abbrev holding : Product → Bool
  holding c = inside_product solids c p

  abbrev in_it : Primitive → Bool
  in_it s = inside_solid s p

  abbrev out_of_it : Primitive → Bool
  out_of_it s = not (inside_solid s p)

  -- in all of the plain ones, and out of all of the cuts
  by_all : (c : Product) → holding c ≡ (all_of in_it (selected c.plain solids) && all_of out_of_it (selected c.cuts solids))
  unfolding inside_product
  by_all c = ap (λ (b : Bool). all_of in_it (selected c.plain solids) && b) (none_is in_it (selected c.cuts solids))

  holding_joined : (a b : Product) → holding (joined a b) ≡ (holding a && holding b)
  holding_joined a b =
      by_all (joined a b)
      ∙ ap₂ ◌&&◌ (all_of_both in_it solids a.plain b.plain) (all_of_both out_of_it solids a.cuts b.cuts)
      ∙ and_swap (all_of in_it (selected a.plain solids)) (all_of in_it (selected b.plain solids))
      (all_of out_of_it (selected a.cuts solids)) (all_of out_of_it (selected b.cuts solids))
      ∙ sym (ap₂ ◌&&◌ (by_all a) (by_all b))

  in_either : (l r : List Product) {a b : Bool} → any_of holding l ≡ a → any_of holding r ≡ b → any_of holding (l ++ r) ≡ (a || b)
  in_either l r e f = any_append holding l r ∙ ap₂ ◌||◌ e f

  in_both : (l r : List Product) {a b : Bool} → any_of holding l ≡ a → any_of holding r ≡ b → any_of holding (l crossed_with r) ≡ (a && b)
  in_both l r e f = any_crossed holding holding_joined l r ∙ ap₂ ◌&&◌ e f

  side_agrees : (side : Side) (tree : Tree) → Placed solids tree → any_of holding (choices side tree) ≡ on side (inside tree p)
  unfolding any_of choices inside Placed
  side_agrees in_of (solid i s) h =
      or-false (holding (record { plain = 2 ^ i; cuts = 0 }))
      ∙ by_all (record { plain = 2 ^ i; cuts = 0 })
      ∙ ap₂ ◌&&◌ (all_of_one in_it nowhere solids i h.0 ∙ ap in_it h.1) (all_of_none out_of_it solids)
      ∙ and-true (in_it s)
  side_agrees out_of (solid i s) h =
      or-false (holding (record { plain = 0; cuts = 2 ^ i }))
      ∙ by_all (record { plain = 0; cuts = 2 ^ i })
      ∙ ap₂ ◌&&◌ (all_of_none in_it solids) (all_of_one out_of_it nowhere solids i h.0 ∙ ap out_of_it h.1)
  side_agrees in_of (union left right) h =
      in_either (choices in_of left) (choices in_of right) (side_agrees in_of left h.0) (side_agrees in_of right h.1)
  side_agrees out_of (union left right) h =
      in_both (choices out_of left) (choices out_of right) (side_agrees out_of left h.0) (side_agrees out_of right h.1)
      ∙ sym (not_or (inside left p) (inside right p))
  side_agrees in_of (inter left right) h =
      in_both (choices in_of left) (choices in_of right) (side_agrees in_of left h.0) (side_agrees in_of right h.1)
  side_agrees out_of (inter left right) h =
      in_either (choices out_of left) (choices out_of right) (side_agrees out_of left h.0) (side_agrees out_of right h.1)
      ∙ sym (not_and (inside left p) (inside right p))
  side_agrees in_of (diff left right) h =
      in_both (choices in_of left) (choices out_of right) (side_agrees in_of left h.0) (side_agrees out_of right h.1)
  side_agrees out_of (diff left right) h =
      in_either (choices out_of left) (choices in_of right) (side_agrees out_of left h.0) (side_agrees in_of right h.1)
      ∙ sym (not_and (inside left p) (not (inside right p)) ∙ ap (λ (b : Bool). not (inside left p) || b) (not-not (inside right p)))

  module _ (tree : Tree) (placed : Placed solids tree) where
    -- a point is inside a tree just if it is inside one of the choices in it
    pub choices_inside : inside tree p ≡ any_of (λ c. inside_product solids c p) (choices in_of tree)
    choices_inside = sym (side_agrees in_of tree placed)
