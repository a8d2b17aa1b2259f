-- In a sound table a primitive's number is its place among the table's primitives. Assumes nothing.
use Prim.Native.Nat.{ℕ, zero, suc, ◌-◌, ◌<◌}
use native.Mathlib.Omega.{arith}
use mathlib.Core.List.{List}
use mathlib.Core.Option.{some}
use mathlib.Core.Path.{◌≡◌, sym, ap, subst, ◌∙◌}
use lib.IntN.{ℤ}
use lib.ListN.{length}
use Rattle.rules.specs.declared.Row.{Row}
use Rattle.rules.specs.declared.Row.TheVariants.{Solid, Union, Inter, Diff}
use Rattle.rules.specs.Table.{row_count, row_at, primitives_before, primitives}
use Rattle.rules.specs.Tree.{row_tree, tree_at, tree_of}
use Rattle.laws.specs.Placed.{Placed}
use Rattle.laws.specs.Sound.{RowRight, Sound}
use Rattle.laws.proofs.Trees.{tree_row}
use Rattle.laws.proofs.Apart.{number_below}
use Rattle.laws.proofs.Numbers.{at_number}

module _ (t : List ℤ) (S : Sound t) where
  placed_by : (row : ℕ) → row < row_count t → (r : Row) → row_at t row ≡ some r → RowRight row r → ((a : ℕ) → a < row → Placed (primitives t) (tree_at t a))
      → Placed (primitives t) (row_tree (length (primitives_before t row)) (tree_at t) (some r))
  unfolding Placed
  placed_by row l (Solid s) e right earlier = (number_below t S row l e, at_number t row l e)
  placed_by row l (Union a b) e right earlier = (earlier a right.0, earlier b right.1)
  placed_by row l (Inter a b) e right earlier = (earlier a right.0, earlier b right.1)
  placed_by row l (Diff a b) e right earlier = (earlier a right.0, earlier b right.1)

  placed_to : (n row : ℕ) → row < n → row < row_count t → Placed (primitives t) (tree_at t row)
  placed_to zero row h l = absurd (omega arith)
  placed_to (suc n) row h l =
      let s = S.rows row l in
      subst (Placed (primitives t)) (sym (tree_row t S row l ∙ ap (row_tree (length (primitives_before t row)) (tree_at t)) s.is))
      (placed_by row l s.reads s.is s.right (λ a k. placed_to n a (omega arith) (omega arith)))

  pub tree_placed : Placed (primitives t) (tree_of t)
  tree_placed = placed_to (row_count t) (row_count t - 1) (omega (arith, S.some_row)) (omega (arith, S.some_row))
