-- Section 19 of docs/RULES.md: the rows of a tree of numbers, three words each, and the tree that rows stand for.
use Rattle.std.specs.Prelude.{ℕ, zero, suc, ◌+◌, ◌-◌, ◌*◌, ◌/◌, List, [], ◌∷◌, ◌++◌, eqb, ℤ, pos, nat_abs, get_or, if◌then◌else◌}
use Rattle.rules.specs.declared.Kind.{Kind}
use Rattle.rules.specs.declared.Kind.TheVariants.{Union, Inter, Diff}
use Rattle.rules.specs.Kinds.{kind_number}
use Rattle.rules.specs.Form.{Form, leaf, ◌∪◌, ◌∩◌, ◌∖◌}

-- one row for each primitive that is named, and for each operation
unfoldable pub rows_in : Form → ℕ
rows_in (leaf i) = 1
rows_in (X ∪ Y) = 1 + rows_in X + rows_in Y
rows_in (X ∩ Y) = 1 + rows_in X + rows_in Y
rows_in (X ∖ Y) = 1 + rows_in X + rows_in Y

-- the row of an operation whose parts have the rows from `first` on: its kind, and the last row of either part
abbrev pub operation_row : Kind → ℕ → Form → Form → List ℤ
operation_row kind first X Y = pos (kind_number kind) ∷ pos (first + rows_in X - 1) ∷ pos (first + rows_in X + rows_in Y - 1) ∷ []

-- the rows from `first` on: left subtree, right subtree, node
unfoldable pub rows_from : ℕ → Form → List ℤ
rows_from first (leaf i) = pos 0 ∷ pos i ∷ pos 0 ∷ []
rows_from first (X ∪ Y) = rows_from first X ++ (rows_from (first + rows_in X) Y ++ operation_row Union first X Y)
rows_from first (X ∩ Y) = rows_from first X ++ (rows_from (first + rows_in X) Y ++ operation_row Inter first X Y)
rows_from first (X ∖ Y) = rows_from first X ++ (rows_from (first + rows_in X) Y ++ operation_row Diff first X Y)

-- what a row of these three words stands for, from what other rows stand for
abbrev pub row_form : (ℕ → Form) → ℕ → ℕ → ℕ → Form
row_form form kind a b =
    if eqb kind (kind_number Union) then form a ∪ form b
    else (if eqb kind (kind_number Inter) then form a ∩ form b
    else (if eqb kind (kind_number Diff) then form a ∖ form b else leaf a))

-- what row `row` of an area stands for, looked into so many rows deep
unfoldable pub form_to : ℕ → List ℤ → ℕ → Form
form_to zero area row = leaf 0
form_to (suc depth) area row =
    let word : ℕ → ℕ = λ k. nat_abs (get_or area (row * 3 + k) (pos 0)) in
    row_form (form_to depth area) (word 0) (word 1) (word 2)

-- the tree in the first n words of an area: its root is the last row
abbrev pub form_in : List ℤ → ℕ → Form
form_in area n = form_to (n / 3) area (n / 3 - 1)
