-- The tree of numbers of a zone: its ways of choosing are the zone's choices, it has as many leaves as the table has primitives at most, its numbers are
-- theirs, and it holds the zone's points. Assumes nothing.
use Prim.Native.Nat.{ℕ, ◌+◌, ◌-◌, ◌*◌, ◌≤◌, ◌<◌}
use mathlib.Core.Bool.{Bool, true, false, not, ◌&&◌, ◌||◌}
use mathlib.Core.Bool as bool
use mathlib.Core.List.{List, [], ◌∷◌, ◌++◌, map}
use mathlib.Core.Path.{◌≡◌, refl, sym, ap, ap₂, ◌∙◌}
use native.Mathlib.Nat.{mul-le-mul}
use native.Mathlib.Omega.{arith}
use lib.Bits.{bit_or}
use lib.Bits as bits
use lib.Count.{ones-le}
use lib.IntN.{ℤ}
use lib.ListN.{length, length-append, get_or}
use Rattle.ground.proofs.Masks.{has, has_or, same_places}
use Rattle.rules.specs.declared.Point.{Point}
use Rattle.rules.specs.declared.Primitive.{Primitive}
use Rattle.rules.specs.declared.Product.{Product}
use Rattle.rules.specs.Table.{row_count, primitives}
use Rattle.rules.specs.Tree.{Tree, solid, union, inter, diff, nowhere, tree_of}
use Rattle.rules.specs.Inside.{inside, inside_solid}
use Rattle.rules.specs.Choices.{Side, in_of, out_of, joined, ◌crossed_with◌, choices, expansion}
use Rattle.rules.specs.Form.{Form, leaf, ◌∪◌, ◌∩◌, ◌∖◌, form_of, holds_at, leaves}
use Rattle.laws.specs.Placed.{Placed}
use Rattle.laws.specs.Plans.{plan, mask, only, except}
use Rattle.laws.specs.Sound.{Sound}
use Rattle.laws.proofs.Apart.{table_apart, mask_in_table}
use Rattle.laws.proofs.Expansion as expansion
use Rattle.laws.proofs.Expansion.{leaves_ones}
use Rattle.laws.proofs.Placing.{tree_placed}
use Rattle.paper.specs.Ways.{cross, Joins, ways, plus, count}
use Rattle.paper.specs.Runs.{Runs}
use Rattle.paper.proofs.Crossing.{length_cross}
use Rattle.paper.proofs.Products.{runs_room}

-- ---- the choices
crossed : (xs ys : List Product) → xs crossed_with ys ≡ cross joined xs ys
unfolding ◌crossed_with◌
crossed xs [] = refl
crossed xs (y ∷ ys) = ap (λ (l : List Product). map (λ x. joined x y) xs ++ l) (crossed xs ys)

both_crossed : {a b x y : List Product} → a ≡ x → b ≡ y → a crossed_with b ≡ cross joined x y
both_crossed {a} {b} {x} {y} e f = crossed a b ∙ ap₂ (λ (u v : List Product). cross joined u v) e f

both_listed : {a b x y : List Product} → a ≡ x → b ≡ y → a ++ b ≡ x ++ y
both_listed {a} {b} {x} {y} e f = ap₂ (λ (u v : List Product). u ++ v) e f

-- a side as a test
abbrev is_in : Side → Bool
is_in in_of = true
is_in out_of = false

choices_ways : (T : Tree) (s : Side) → choices s T ≡ ways joined only except (form_of T) (is_in s)
unfolding choices form_of ways
choices_ways (solid i p) in_of = refl
choices_ways (solid i p) out_of = refl
choices_ways (union l r) in_of = both_listed (choices_ways l in_of) (choices_ways r in_of)
choices_ways (union l r) out_of = both_crossed (choices_ways l out_of) (choices_ways r out_of)
choices_ways (inter l r) in_of = both_crossed (choices_ways l in_of) (choices_ways r in_of)
choices_ways (inter l r) out_of = both_listed (choices_ways l out_of) (choices_ways r out_of)
choices_ways (diff l r) in_of = both_crossed (choices_ways l in_of) (choices_ways r out_of)
choices_ways (diff l r) out_of = both_listed (choices_ways l out_of) (choices_ways r in_of)

pub choices_form : (T : Tree) → choices in_of T ≡ ways joined only except (form_of T) true
choices_form T = choices_ways T in_of

or_assoc : (a b c : ℕ) → bit_or (bit_or a b) c ≡ bit_or a (bit_or b c)
or_assoc a b c = same_places _ _ (λ i. simp has_or (bool.or_assoc (has i a) (has i b) (has i c)))

pub joins_products : Joins Product joined
joins_products = record {
  assoc = λ a b c i. record { plain = or_assoc a.plain b.plain c.plain i; cuts = or_assoc a.cuts b.cuts c.cuts i };
  comm = λ a b i. record { plain = bits.or_comm a.plain b.plain i; cuts = bits.or_comm a.cuts b.cuts i };
}

-- ---- their number, whatever they are made of
module _ {A B : Type 0} (j : A → A → A) (p c : ℕ → A) (k : B → B → B) (q d : ℕ → B) where
  abbrev Many : Form → Bool → Type 0
  Many T s = length (ways j p c T s) ≡ length (ways k q d T s)

  many_listed : (X Y : Form) (s r : Bool) → Many X s → Many Y r → length (ways j p c X s ++ ways j p c Y r) ≡ length (ways k q d X s ++ ways k q d Y r)
  many_listed X Y s r e f = omega (arith, length-append (ways j p c X s) (ways j p c Y r), length-append (ways k q d X s) (ways k q d Y r))

  many_crossed : (X Y : Form) (s r : Bool) → Many X s → Many Y r
      → length (cross j (ways j p c X s) (ways j p c Y r)) ≡ length (cross k (ways k q d X s) (ways k q d Y r))
  many_crossed X Y s r e f =
      length_cross j (ways j p c X s) (ways j p c Y r) ∙ ap₂ (λ (m n : ℕ). m * n) e f ∙ sym (length_cross k (ways k q d X s) (ways k q d Y r))

  ways_many : (T : Form) (s : Bool) → Many T s
  unfolding ways
  ways_many (leaf i) true = refl
  ways_many (leaf i) false = refl
  ways_many (X ∪ Y) true = many_listed X Y true true (ways_many X true) (ways_many Y true)
  ways_many (X ∪ Y) false = many_crossed X Y false false (ways_many X false) (ways_many Y false)
  ways_many (X ∩ Y) true = many_crossed X Y true true (ways_many X true) (ways_many Y true)
  ways_many (X ∩ Y) false = many_listed X Y false false (ways_many X false) (ways_many Y false)
  ways_many (X ∖ Y) true = many_crossed X Y true false (ways_many X true) (ways_many Y false)
  ways_many (X ∖ Y) false = many_listed X Y false true (ways_many X false) (ways_many Y true)

expansion_count : (T : Tree) → expansion T ≡ count (form_of T) true
expansion_count T = ap length (choices_form T) ∙ ways_many joined only except plus (λ i. 1) (λ i. 1) (form_of T) true

-- ---- the leaves
plan_leaves : (T : Tree) (s : Side) → leaves (form_of T) ≡ expansion.leaves (plan s T)
unfolding leaves form_of plan expansion.leaves
plan_leaves (solid i p) in_of = refl
plan_leaves (solid i p) out_of = refl
plan_leaves (union l r) in_of = ap₂ ◌+◌ (plan_leaves l in_of) (plan_leaves r in_of)
plan_leaves (union l r) out_of = ap₂ ◌+◌ (plan_leaves l out_of) (plan_leaves r out_of)
plan_leaves (inter l r) in_of = ap₂ ◌+◌ (plan_leaves l in_of) (plan_leaves r in_of)
plan_leaves (inter l r) out_of = ap₂ ◌+◌ (plan_leaves l out_of) (plan_leaves r out_of)
plan_leaves (diff l r) in_of = ap₂ ◌+◌ (plan_leaves l in_of) (plan_leaves r out_of)
plan_leaves (diff l r) out_of = ap₂ ◌+◌ (plan_leaves l out_of) (plan_leaves r in_of)

-- ---- the points
-- which primitives hold a point
abbrev pub holding : List Primitive → Point → ℕ → Bool
holding solids p i = inside_solid (get_or solids i nowhere) p

form_inside : (solids : List Primitive) (p : Point) (T : Tree) → Placed solids T → holds_at (holding solids p) (form_of T) ≡ inside T p
unfolding Placed form_of holds_at inside
form_inside solids p (solid i s) k = ap (λ (x : Primitive). inside_solid x p) k.1
form_inside solids p (union l r) k = ap₂ ◌||◌ (form_inside solids p l k.0) (form_inside solids p r k.1)
form_inside solids p (inter l r) k = ap₂ ◌&&◌ (form_inside solids p l k.0) (form_inside solids p r k.1)
form_inside solids p (diff l r) k = ap₂ (λ (a b : Bool). a && not b) (form_inside solids p l k.0) (form_inside solids p r k.1)

-- ---- in a sound table
module _ (t : List ℤ) (S : Sound t) where
  pub leaves_few : leaves (form_of (tree_of t)) ≤ length (primitives t)
  leaves_few =
      let root : row_count t - 1 < row_count t = omega (arith, S.some_row) in
      let m = ones-le (length (primitives t)) (mask (plan in_of (tree_of t))) (mask_in_table t S (row_count t - 1) root in_of) in
      omega (arith, plan_leaves (tree_of t) in_of, leaves_ones (plan in_of (tree_of t)) (table_apart t S (row_count t - 1) root in_of), m)

  pub root_inside : (p : Point) → holds_at (holding (primitives t) p) (form_of (tree_of t)) ≡ inside (tree_of t) p
  root_inside p = form_inside (primitives t) p (tree_of t) (tree_placed t S)

  -- AT MOST 4,096 LEAVES, also on the way
  pub room_enough : length (primitives t) ≤ 16 → expansion (tree_of t) ≤ 256 → {N : Form} → Runs (form_of (tree_of t)) N → leaves N ≤ 4096
  room_enough few many {N} r =
      let a : leaves (form_of (tree_of t)) ≤ 16 = omega (arith, leaves_few) in
      let b : count (form_of (tree_of t)) true ≤ 256 = omega (arith, expansion_count (tree_of t)) in
      let m : leaves (form_of (tree_of t)) * count (form_of (tree_of t)) true ≤ 16 * 256 = mul-le-mul a b in
      omega (arith, runs_room r)
