-- Crossing, which keeps its order however its lists are grouped; how many ways there are, and how many primitives they name. Assumes nothing.
use Prim.Native.Nat.{ℕ, ◌+◌, ◌*◌, ◌≤◌}
use mathlib.Core.Bool.{Bool, true, false}
use mathlib.Core.List.{List, [], ◌∷◌, ◌++◌, map, append-nil, append_assoc}
use mathlib.Core.Path.{◌≡◌, refl, sym, ap, ap₂, ◌∙◌}
use native.Mathlib.Nat.{add_assoc, add_comm, mul-zero, mul-suc, zero-mul, mul-add, add-mul, mul_assoc, le_refl, mul-le-mul_left, mul-le-mul_right}
use native.Mathlib.Omega.{arith}
use lib.ListN.{length, length-append, length-map}
use Rattle.rules.specs.Form.{Form, leaf, ◌∪◌, ◌∩◌, ◌∖◌, leaves}
use Rattle.paper.specs.Ways.{cross, Joins, ways, plus, sizes, count, sum, total}

map_append : {A B : Type 0} (f : A → B) (xs ys : List A) → map f (xs ++ ys) ≡ map f xs ++ map f ys
map_append f [] ys = refl
map_append {B} f (x ∷ xs) ys = ap {B = List B} (λ l. f x ∷ l) (map_append f xs ys)

map_map : {A : Type 0} (f g h : A → A) → ((x : A) → f (g x) ≡ h x) → (xs : List A) → map f (map g xs) ≡ map h xs
map_map f g h e [] = refl
map_map {A} f g h e (x ∷ xs) = ap₂ {C = List A} (λ a l. a ∷ l) (e x) (map_map f g h e xs)

pub cross_append : {A : Type 0} (join : A → A → A) (xs ys zs : List A) → cross join xs (ys ++ zs) ≡ cross join xs ys ++ cross join xs zs
cross_append join xs [] zs = refl
cross_append {A} join xs (y ∷ ys) zs =
    ap {B = List A} (λ l. map (λ x. join x y) xs ++ l) (cross_append join xs ys zs) ∙ sym (append_assoc (map (λ x. join x y) xs) (cross join xs ys) (cross join xs zs))

module _ {A : Type 0} (join : A → A → A) (J : Joins A join) where
  map_cross : (xs ys : List A) (z : A) → map (λ x. join x z) (cross join xs ys) ≡ cross join xs (map (λ y. join y z) ys)
  map_cross xs [] z = refl
  map_cross xs (y ∷ ys) z =
      map_append (λ x. join x z) (map (λ x. join x y) xs) (cross join xs ys)
      ∙ ap₂ {C = List A} (λ k l. k ++ l) (map_map (λ x. join x z) (λ x. join x y) (λ x. join x (join y z)) (λ x. J.assoc x y z) xs) (map_cross xs ys z)

  pub cross_assoc : (xs ys zs : List A) → cross join xs (cross join ys zs) ≡ cross join (cross join xs ys) zs
  cross_assoc xs ys [] = refl
  cross_assoc xs ys (z ∷ zs) =
      cross_append join xs (map (λ y. join y z) ys) (cross join ys zs)
      ∙ ap₂ {C = List A} (λ k l. k ++ l) (sym (map_cross xs ys z)) (cross_assoc xs ys zs)

  one_left : (z : A) (ys : List A) → cross join (z ∷ []) ys ≡ cross join ys (z ∷ [])
  one_left z [] = refl
  one_left z (y ∷ ys) = ap₂ {C = List A} (λ k l. k ∷ l) (J.comm z y) (one_left z ys)

  -- 6.5, where the second is one choice
  pub cross_swap : (xs ys : List A) (z : A) → cross join (cross join xs ys) (z ∷ []) ≡ cross join (cross join xs (z ∷ [])) ys
  cross_swap xs ys z = sym (cross_assoc xs ys (z ∷ [])) ∙ ap (cross join xs) (sym (one_left z ys)) ∙ cross_assoc xs (z ∷ []) ys

  -- 7 and 8, where the second is one choice
  pub append_cross : (xs ys : List A) (z : A) → cross join (xs ++ ys) (z ∷ []) ≡ cross join xs (z ∷ []) ++ cross join ys (z ∷ [])
  append_cross xs ys z =
      append-nil (map (λ x. join x z) (xs ++ ys)) ∙ map_append (λ x. join x z) xs ys
      ∙ ap₂ {C = List A} (λ k l. k ++ l) (sym (append-nil (map (λ x. join x z) xs))) (sym (append-nil (map (λ x. join x z) ys)))

pub adds : Joins ℕ plus
adds = record { assoc = add_assoc; comm = add_comm }

-- ---- how many ways; how many primitives in all
pub length_cross : {A : Type 0} (join : A → A → A) (xs ys : List A) → length (cross join xs ys) ≡ length xs * length ys
length_cross join xs [] = sym (mul-zero (length xs))
length_cross join xs (y ∷ ys) =
    length-append (map (λ x. join x y) xs) (cross join xs ys) ∙ omega (arith, length-map xs (λ x. join x y), length_cross join xs ys, mul-suc (length xs) (length ys))

sum_append : (xs ys : List ℕ) → sum (xs ++ ys) ≡ sum xs + sum ys
unfolding sum
sum_append [] ys = omega arith
sum_append (x ∷ xs) ys = omega (arith, sum_append xs ys)

sum_plus : (y : ℕ) (xs : List ℕ) → sum (map (λ x. x + y) xs) ≡ sum xs + length xs * y
unfolding sum
sum_plus y [] = omega (arith, zero-mul y)
sum_plus y (x ∷ xs) = omega (arith, sum_plus y xs, native.Mathlib.Nat.suc-mul (length xs) y)

sum_cross : (xs ys : List ℕ) → sum (cross plus xs ys) ≡ sum xs * length ys + length xs * sum ys
unfolding sum
sum_cross xs [] = omega (arith, mul-zero (sum xs), mul-zero (length xs))
sum_cross xs (y ∷ ys) =
    omega (arith, sum_append (map (λ x. x + y) xs) (cross plus xs ys), sum_plus y xs, sum_cross xs ys, mul-suc (sum xs) (length ys), mul-add (length xs) y (sum ys))

-- ---- the ways of two trees, one after the other or crossed: none is empty, no leaf is lost, and none names a primitive more often than the tree
pub record Fair (leafs : ℕ) (xs : List ℕ) : Type 0 where
  pub some : 1 ≤ length xs
  pub least : leafs ≤ sum xs
  pub most : sum xs ≤ leafs * length xs

fair_one : Fair 1 (1 ∷ [])
unfolding sum
fair_one = record { some = le_refl 1; least = le_refl 1; most = le_refl 1 }

fair_append : (m n : ℕ) (xs ys : List ℕ) → Fair m xs → Fair n ys → Fair (m + n) (xs ++ ys)
fair_append m n xs ys f g = record {
  some = omega (arith, length-append xs ys, f.some);
  least = omega (arith, sum_append xs ys, f.least, g.least);
  most =
      rw (sum_append xs ys, length-append xs ys, add-mul m n (length xs + length ys), mul-add m (length xs) (length ys), mul-add n (length xs) (length ys))
      (omega (arith, f.most, g.most));
}

fair_cross : (m n : ℕ) (xs ys : List ℕ) → Fair m xs → Fair n ys → Fair (m + n) (cross plus xs ys)
fair_cross m n xs ys f g =
    let a : ℕ = length xs in
    let b : ℕ = length ys in
    let e : sum (cross plus xs ys) ≡ sum xs * b + a * sum ys = sum_cross xs ys in
    let c : length (cross plus xs ys) ≡ a * b = length_cross plus xs ys in
    let p : sum xs * 1 ≤ sum xs * b = mul-le-mul_left (sum xs) g.some in
    let q : 1 * sum ys ≤ a * sum ys = mul-le-mul_right (sum ys) f.some in
    let u : sum xs * b ≤ m * a * b = mul-le-mul_right b f.most in
    let v : a * sum ys ≤ a * (n * b) = mul-le-mul_left a g.most in
    record {
      some = rw c (native.Mathlib.Nat.one-le-mul f.some g.some);
      least = omega (arith, f.least, g.least, e);
      most = rw (e, c) (omega (arith, mul_assoc m a b, native.Mathlib.Nat.mul_left_comm a n b, add-mul m n (a * b)));
    }

fair_ways : (T : Form) (s : Bool) → Fair (leaves T) (sizes T s)
unfolding ways leaves
fair_ways (leaf i) true = fair_one
fair_ways (leaf i) false = fair_one
fair_ways (X ∪ Y) true = fair_append (leaves X) (leaves Y) (sizes X true) (sizes Y true) (fair_ways X true) (fair_ways Y true)
fair_ways (X ∪ Y) false = fair_cross (leaves X) (leaves Y) (sizes X false) (sizes Y false) (fair_ways X false) (fair_ways Y false)
fair_ways (X ∩ Y) true = fair_cross (leaves X) (leaves Y) (sizes X true) (sizes Y true) (fair_ways X true) (fair_ways Y true)
fair_ways (X ∩ Y) false = fair_append (leaves X) (leaves Y) (sizes X false) (sizes Y false) (fair_ways X false) (fair_ways Y false)
fair_ways (X ∖ Y) true = fair_cross (leaves X) (leaves Y) (sizes X true) (sizes Y false) (fair_ways X true) (fair_ways Y false)
fair_ways (X ∖ Y) false = fair_append (leaves X) (leaves Y) (sizes X false) (sizes Y true) (fair_ways X false) (fair_ways Y true)

-- a tree has no more leaves than its ways have primitives, and they have at most all its leaves each
pub leaves_total : (T : Form) → leaves T ≤ total T true
leaves_total T = (fair_ways T true).least

pub total_le : (T : Form) → total T true ≤ leaves T * count T true
total_le T = (fair_ways T true).most
