-- Section 19 of docs/RULES.md: a tree of numbers, and the equivalences of document 000: the eight of its figure 2, and number 6.5.
use Rattle.std.specs.Prelude.{ℕ, ◌+◌, Bool, not, ◌&&◌, ◌||◌}
use Rattle.rules.specs.Tree.{Tree, solid, union, inter, diff}

infix 6 ◌∪◌ ◌∩◌ ◌∖◌
-- a primitive's number, or two trees joined by a union, an intersection or a difference, X ∖ Y, which document 000 writes as X - Y
pub data Form : Type 0 where
  leaf : ℕ → Form
  ◌∪◌ ◌∩◌ ◌∖◌ : Form → Form → Form

-- the form of a zone's tree: its shape, and the numbers of its primitives
unfoldable pub form_of : Tree → Form
form_of (solid i s) = leaf i
form_of (union left right) = form_of left ∪ form_of right
form_of (inter left right) = form_of left ∩ form_of right
form_of (diff left right) = form_of left ∖ form_of right

-- whether it holds a point, from which primitives do
unfoldable pub holds_at : (ℕ → Bool) → Form → Bool
holds_at holding (leaf i) = holding i
holds_at holding (X ∪ Y) = holds_at holding X || holds_at holding Y
holds_at holding (X ∩ Y) = holds_at holding X && holds_at holding Y
holds_at holding (X ∖ Y) = holds_at holding X && not (holds_at holding Y)

-- how many primitives it names, each as often as it is named
unfoldable pub leaves : Form → ℕ
leaves (leaf i) = 1
leaves (X ∪ Y) = leaves X + leaves Y
leaves (X ∩ Y) = leaves X + leaves Y
leaves (X ∖ Y) = leaves X + leaves Y

-- `Rule k T U` says that T is the left side of an equivalence and U its right side; k is ten times its number in 000
pub data Rule : ℕ → Form → Form → Type 0 where
  rule1 : {X Y Z : Form} → Rule 10 (X ∖ (Y ∪ Z)) ((X ∖ Y) ∖ Z)
  rule2 : {X Y Z : Form} → Rule 20 (X ∩ (Y ∪ Z)) ((X ∩ Y) ∪ (X ∩ Z))
  rule3 : {X Y Z : Form} → Rule 30 (X ∖ (Y ∩ Z)) ((X ∖ Y) ∪ (X ∖ Z))
  rule4 : {X Y Z : Form} → Rule 40 (X ∩ (Y ∩ Z)) ((X ∩ Y) ∩ Z)
  rule5 : {X Y Z : Form} → Rule 50 (X ∖ (Y ∖ Z)) ((X ∖ Y) ∪ (X ∩ Z))
  rule6 : {X Y Z : Form} → Rule 60 (X ∩ (Y ∖ Z)) ((X ∩ Y) ∖ Z)
  rule65 : {X Y Z : Form} → Rule 65 ((X ∖ Y) ∩ Z) ((X ∩ Z) ∖ Y)
  rule7 : {X Y Z : Form} → Rule 70 ((X ∪ Y) ∖ Z) ((X ∖ Z) ∪ (Y ∖ Z))
  rule8 : {X Y Z : Form} → Rule 80 ((X ∪ Y) ∩ Z) ((X ∩ Z) ∪ (Y ∩ Z))
