-- The links of a plan's rows: each row, then its right part, then its left part.
use Rattle.std.specs.Prelude.{ℕ, ◌+◌, ◌<◌, Bool, true, false, List, [], ◌∷◌, ◌++◌, ◌≡◌, length, get_or, Some, None}
use Rattle.std.proofs.Common.{Option}
use Rattle.laws.specs.Plans.{Plan, with_it, without, either, both}
use Rattle.rows.specs.declared.RowKind.{RowKind}
use Rattle.rows.specs.declared.RowKind.TheVariants.{With, Without, Either, Both}
use Rattle.rows.specs.declared.Links.{Links}
use Rattle.rows.specs.declared.Part.{Part}
use Rattle.rows.specs.declared.PlanRow.{PlanRow}
use Rattle.rows.specs.Rows.{blank_links, with_links}

unfoldable pub rows_of : Plan → ℕ
rows_of (with_it i) = 1
rows_of (without i) = 1
rows_of (either a b) = rows_of a + rows_of b + 1
rows_of (both a b) = rows_of a + rows_of b + 1

abbrev pub line : RowKind → ℕ → ℕ → Option ℕ → Links
line kind left next prior = record { kind = kind; left = left; next = next; done = prior }

unfoldable pub lines : Plan → ℕ → ℕ → Option ℕ → List Links
lines (with_it i) x next prior = line With i next prior ∷ []
lines (without i) x next prior = line Without i next prior ∷ []
lines (either a b) x next prior = line Either (x + 1 + rows_of b) next prior ∷ (lines b (x + 1) next None ++ lines a (x + 1 + rows_of b) next None)
lines (both a b) x next prior =
    line Both (x + 1 + rows_of b) next prior ∷ (lines b (x + 1) (x + 1 + rows_of b) None ++ lines a (x + 1 + rows_of b) next (Some (x + 1)))

-- a row that is to come has its side in place of its kind, and its row of the table in place of its left part
abbrev pub side_of : Bool → RowKind
side_of true = With
side_of false = Without

abbrev pub coming_links : Part → ℕ → Option ℕ → Links
coming_links part next prior = line (side_of part.within) part.row next prior

-- a row is given its links, and its parts, as rows that are to come: the right one comes after it, and the left one where its links say
abbrev pub with_pair : List PlanRow → ℕ → Links → Part → Part → ℕ → Option ℕ → List PlanRow
with_pair rows x own lhs rhs follows precedes =
    with_links (with_links (with_links rows x own) (x + 1) (coming_links rhs follows None)) own.left (coming_links lhs own.next precedes)

-- the part that such a row stands for
abbrev pub is_in : RowKind → Bool
is_in With = true
is_in Without = false
is_in Either = false
is_in Both = false

abbrev pub part_of : Links → Part
part_of links = record { row = links.left; within = is_in links.kind }

-- the links of a line
abbrev pub line_in : List Links → ℕ → Links
line_in lines x = get_or lines x blank_links

-- some lines stand among links from a row on
abbrev pub Stands : (ℕ → Links) → ℕ → List Links → Type 0
Stands links x lines = (j : ℕ) → j < length lines → links (x + j) ≡ line_in lines j
