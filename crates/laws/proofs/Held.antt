-- Sets of primitives decide a tree's answer and a list's; and a list's window lies in the range. Assumes nothing.
use Prim.Native.Nat.{ℕ, zero, suc, ◌+◌, ◌-◌, ◌^◌, ◌<◌}
use native.Mathlib.Omega.{arith}
use mathlib.Core.Bool.{Bool, true, not, ◌&&◌, ◌||◌}
use mathlib.Core.List.{List}
use mathlib.Core.Option.{some}
use mathlib.Core.Path.{◌≡◌, sym, ap, ap₂, subst, ◌∙◌}
use lib.IntN.{ℤ}
use lib.ListN.{length}
use Rattle.ground.specs.Lists.{below}
use Rattle.ground.proofs.Branches.{and_left, and_right}
use Rattle.ground.proofs.Counting.{numbers_below}
use Rattle.ground.proofs.Lists.{all_map, any_mapped, any_same}
use Rattle.ground.proofs.Masks.{has_shifted}
use Rattle.rules.specs.declared.Axis.TheVariants.{Column, Code, Frame}
use Rattle.rules.specs.declared.Point.{Point}
use Rattle.rules.specs.declared.Primitive.{Primitive}
use Rattle.rules.specs.declared.Product.{Product}
use Rattle.rules.specs.declared.Row.{Row}
use Rattle.rules.specs.declared.Row.TheVariants.{Solid, Union, Inter, Diff}
use Rattle.rules.specs.Boxes.{holds, everywhere}
use Rattle.rules.specs.Inside.{inside_solid, inside}
use Rattle.rules.specs.ListInside.{inside_product, inside_list}
use Rattle.rules.specs.ListWords.{word, list_window, product_count, primitive_count, product_at}
use Rattle.rules.specs.Ranges.{within}
use Rattle.rules.specs.Table.{row_count, row_at, primitives_before, primitives}
use Rattle.rules.specs.Tree.{Tree, nowhere, row_tree, tree_at, tree_of}
use Rattle.laws.specs.Held.{held, tree_says, suits, suits_some}
use Rattle.laws.specs.Sound.{RowRight, Sound}
use Rattle.laws.specs.SoundList.{SoundHeader, SoundList}
use Rattle.laws.proofs.Apart.{number_below}
use Rattle.laws.proofs.Axes.{lowered_in}
use Rattle.laws.proofs.Numbers.{at_number}
use Rattle.laws.proofs.Reach.{has_places, chosen_places, chosen_none}
use Rattle.laws.proofs.Trees.{tree_row}

-- ---- a tree by sets

module _ (t : List ℤ) (S : Sound t) (p : Point) where
  abbrev BySet : Tree → Type 0
  BySet tree = inside tree p ≡ tree_says tree (held (primitives t) p)

  -- a primitive is in the set at its number; an operation goes by the trees of earlier rows
  row_by_set : (row : ℕ) → row < row_count t → (r : Row) → row_at t row ≡ some r → RowRight row r → ((a : ℕ) → a < row → BySet (tree_at t a))
      → BySet (row_tree (length (primitives_before t row)) (tree_at t) (some r))
  unfolding inside tree_says
  row_by_set row l (Solid s) e right earlier =
      let number = length (primitives_before t row) in
      ap (λ (x : Primitive). inside_solid x p) (sym (at_number t row l e))
      ∙ sym (has_places (λ x. inside_solid x p) nowhere (primitives t) number (number_below t S row l e))
      ∙ has_shifted number (held (primitives t) p)
  row_by_set row l (Union a b) e right earlier = ap₂ ◌||◌ (earlier a right.0) (earlier b right.1)
  row_by_set row l (Inter a b) e right earlier = ap₂ ◌&&◌ (earlier a right.0) (earlier b right.1)
  row_by_set row l (Diff a b) e right earlier = ap₂ (λ (x y : Bool). x && not y) (earlier a right.0) (earlier b right.1)

  rows_by_set : (n row : ℕ) → row < n → row < row_count t → BySet (tree_at t row)
  rows_by_set zero row h l = absurd (omega arith)
  rows_by_set (suc n) row h l =
      let s = S.rows row l in
      subst BySet (sym (tree_row t S row l ∙ ap (row_tree (length (primitives_before t row)) (tree_at t)) s.is))
      (row_by_set row l s.reads s.is s.right (λ a k. rows_by_set n a (omega arith) (omega arith)))

  pub tree_by_set : inside (tree_of t) p ≡ tree_says (tree_of t) (held (primitives t) p)
  tree_by_set = rows_by_set (row_count t) (row_count t - 1) (omega (arith, S.some_row)) (omega (arith, S.some_row))

-- ---- products by sets

module _ (solids : List Primitive) (p : Point) where
  by_set : (c : Product) → c.plain < 2 ^ length solids → inside_product solids c p ≡ suits (held solids p) c
  unfolding inside_product
  by_set c l = sym (ap₂ ◌&&◌ (chosen_places (λ s. inside_solid s p) solids c.plain l) (chosen_none (λ s. inside_solid s p) solids c.cuts))

  pub list_by_set : (list : List ℕ) → SoundList list → primitive_count list ≡ length solids → inside_list solids list p ≡ suits_some list (held solids p)
  unfolding inside_list
  list_by_set list S e =
      any_mapped in_it (product_at list) (below n)
      ∙ any_same (λ k. in_it (product_at list k)) (λ k. suits (held solids p) (product_at list k)) (below n)
      (all_map (λ k. k < 0 + n) (λ k. in_it (product_at list k) ≡ suits (held solids p) (product_at list k)) each (below n) (numbers_below 0 n))
    where
      n : ℕ
      n = product_count list

      in_it : Product → Bool
      in_it c = inside_product solids c p

      each : (k : ℕ) → k < 0 + n → in_it (product_at list k) ≡ suits (held solids p) (product_at list k)
      each k l = by_set (product_at list k) (subst (λ (m : ℕ). (product_at list k).plain < 2 ^ m) e (S.named k (omega arith)))

-- ---- the window of a list

-- a point of a list's window is in range
pub list_window_in_range : (list : List ℕ) → SoundHeader list → (p : Point) → holds (list_window list) p ≡ true → holds everywhere p ≡ true
list_window_in_range list S p h =
    let b = list_window list in
    let x = within b.x p.x in
    let y = within b.y p.y in
    let z = within b.z p.z in
    ap₂ ◌&&◌ (lowered_in Column (word list 1) (word list 2) S.x.hi p.x (and_left x (y && z) h))
    (ap₂ ◌&&◌ (lowered_in Code (word list 3) (word list 4) S.y.hi p.y (and_left y z (and_right x (y && z) h)))
    (lowered_in Frame (word list 5) (word list 6) S.z.hi p.z (and_right y z (and_right x (y && z) h))))
