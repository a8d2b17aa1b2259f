-- Section 4 of docs/RULES.md: the tree of solids, and the tree that a table stands for.
use Rattle.std.specs.Prelude.{ℕ, zero, suc, ◌-◌, List, [], ◌∷◌, ◌++◌, ℤ, pos, length, get_or}
use Rattle.std.proofs.Math.Option.{Option, none, some}
use Rattle.rules.specs.declared.Primitive.{Primitive}
use Rattle.rules.specs.declared.Primitive.TheVariants as primitive
use Rattle.rules.specs.declared.Row.{Row}
use Rattle.rules.specs.declared.Row.TheVariants.{Solid, Union, Inter, Diff}
use Rattle.rules.specs.Table.{row_at, row_count, primitives_before}

-- a primitive with its number, or an operation on two subtrees, left and right
pub data Tree : Type 0 where
  solid : ℕ → Primitive → Tree
  union inter diff : Tree → Tree → Tree

-- a box that holds no point: what stands for a row that cannot be read. A sound table has no such row
abbrev pub nowhere : Primitive
nowhere = primitive.Box (record { xlo = pos 1; xhi = pos 0; ylo = pos 1; yhi = pos 0; zlo = pos 1; zhi = pos 0 })

-- a row's tree, from its number as a primitive and the trees of the rows that it names
abbrev pub row_tree : ℕ → (ℕ → Tree) → Option Row → Tree
row_tree number tree none = solid number nowhere
row_tree number tree (some (Solid s)) = solid number s
row_tree number tree (some (Union left right)) = union (tree left) (tree right)
row_tree number tree (some (Inter left right)) = inter (tree left) (tree right)
row_tree number tree (some (Diff left right)) = diff (tree left) (tree right)

-- the tree at a place of a list of trees
abbrev pub tree_in : List Tree → ℕ → Tree
tree_in trees row = get_or trees row (solid 0 nowhere)

-- the trees of the first n rows, in row order: a row names earlier rows, whose trees are there already
unfoldable pub trees : List ℤ → ℕ → List Tree
trees t zero = []
trees t (suc row) = trees t row ++ (row_tree (length (primitives_before t row)) (tree_in (trees t row)) (row_at t row) ∷ [])

abbrev pub tree_at : List ℤ → ℕ → Tree
tree_at t row = tree_in (trees t (suc row)) row

-- the root is the last row
abbrev pub tree_of : List ℤ → Tree
tree_of t = tree_at t (row_count t - 1)
