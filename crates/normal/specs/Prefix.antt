-- A tree of numbers in prefix form, a word a node.
use Rattle.std.specs.Prelude.{ℕ, ◌≤◌, ◌<◌, Bool, true, false, List, [], ◌∷◌, ◌++◌, ◌≡◌, ℤ, pos, drop}
use Rattle.rules.specs.Form.{Form, leaf, ◌∪◌, ◌∩◌, ◌∖◌}
use Rattle.rules.specs.TreeRows.{rows_in}
use Rattle.moves.specs.declared.Operation.{Operation}
use Rattle.moves.specs.declared.Operation.TheVariants.{Union, Inter, Diff}
use Rattle.moves.specs.Moves.{most_words, node}
use Rattle.normal.specs.declared.Top.{Top}
use Rattle.normal.specs.declared.Top.TheVariants.{Primitive, Node}

-- a node's word, then its left part, then its right one: as many words as the tree has rows
unfoldable pub flat : Form → List ℤ
flat (leaf i) = pos i ∷ []
flat (X ∪ Y) = node 19 (rows_in X) ∷ (flat X ++ flat Y)
flat (X ∩ Y) = node 20 (rows_in X) ∷ (flat X ++ flat Y)
flat (X ∖ Y) = node 21 (rows_in X) ∷ (flat X ++ flat Y)

-- what stands at its root
abbrev pub top : Form → Top
top (leaf i) = Primitive i
top (X ∪ Y) = Node Union
top (X ∩ Y) = Node Inter
top (X ∖ Y) = Node Diff

-- whether that operation does
abbrev pub has_top : Operation → Form → Bool
has_top Union (X ∪ Y) = true
has_top Inter (X ∩ Y) = true
has_top Diff (X ∖ Y) = true
has_top operation T = false

-- what a node's word tells: a number or an operation, ..
unfoldable pub head : Form → ℕ
head (leaf i) = i
head (X ∪ Y) = 19
head (X ∩ Y) = 20
head (X ∖ Y) = 21

-- .. and the words of the left part
unfoldable pub left_words : Form → ℕ
left_words (leaf i) = 0
left_words (X ∪ Y) = rows_in X
left_words (X ∩ Y) = rows_in X
left_words (X ∖ Y) = rows_in X

unfoldable pub left_of : Form → Form
left_of (leaf i) = leaf i
left_of (X ∪ Y) = X
left_of (X ∩ Y) = X
left_of (X ∖ Y) = X

unfoldable pub right_of : Form → Form
right_of (leaf i) = leaf i
right_of (X ∪ Y) = Y
right_of (X ∩ Y) = Y
right_of (X ∖ Y) = Y

-- the numbers of its primitives are below 16
unfoldable pub Small : Form → Type 0
Small (leaf i) = i < 16
Small (X ∪ Y) = Small X × Small Y
Small (X ∩ Y) = Small X × Small Y
Small (X ∖ Y) = Small X × Small Y

-- the words from `at` on begin with the tree's
pub record Lies (w : List ℤ) (at : ℕ) (T : Form) : Type 0 where
  pub small : Small T
  pub few : rows_in T ≤ most_words
  pub rest : List ℤ
  pub here : drop at w ≡ flat T ++ rest
