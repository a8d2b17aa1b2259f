-- What the reading of a table and its check answer, as values.
use Rattle.std.specs.Prelude.{ℕ, ◌+◌, ◌*◌, ◌≤◌, ◌<◌, false, ◌≡◌, T, eqb, ℤ, length, get_or, set, replicate}
use Rattle.std.specs.Prelude.{Some, None}
use Rattle.std.specs.Prelude as prelude
use mathlib.Core.List.{List, [], ◌∷◌, flat_map}
use Rattle.std.proofs.Math.Option.{Option, some}
use Rattle.std.specs.Int.Signed.{non_neg}
use Rattle.ground.specs.Lists.{below}
use Rattle.rules.specs.declared.Kind.{Kind}
use Rattle.rules.specs.declared.Refusal.{Refusal}
use Rattle.rules.specs.declared.Rule.TheVariants as rule
use Rattle.rules.specs.Kinds.{is_primitive, kind_of}
use Rattle.rules.specs.Table.{row_words, word_at, row_at}
use Rattle.rules.specs.Refusals.{refuse_unless}
use Rattle.rules.specs.Verdict.{children_of}
use Rattle.laws.specs.Sound.{SoundRow}

-- the table has the row whole
pub record InTable (t : List ℤ) (row : ℕ) : Type 0 where
  pub whole : row * row_words + 11 < length t

-- the row's kind is that of an operation, and words 1 and 2 are row numbers
pub record IsOperation (t : List ℤ) (row : ℕ) (kind : ℤ) : Type 0 where
  pub same : kind ≡ word_at t row 0
  pub known : Kind
  pub is : kind_of kind ≡ some known
  pub combines : is_primitive known ≡ false
  pub left : T (non_neg (word_at t row 1))
  pub right : T (non_neg (word_at t row 2))

-- the children that an answer names
abbrev pub listed : prelude.Option (ℕ × ℕ) → List ℕ
listed None = []
listed (Some (left, right)) = left ∷ right ∷ []

-- the children that the first n rows name
abbrev pub children_to : List ℤ → ℕ → List ℕ
children_to t n = flat_map (λ row. children_of (row_at t row)) (below n)

-- so many whole rows, each sound
pub record SoundRows (t : List ℤ) (rows : ℕ) : Type 0 where
  pub whole : length t ≡ rows * row_words
  pub some_row : 1 ≤ rows
  pub not_over : rows ≤ 127
  pub each : (row : ℕ) → row < rows → SoundRow t row

-- one more at a place, and one more at each of some places
abbrev pub bumped : List ℕ → ℕ → List ℕ
bumped times j = set times j (get_or times j 0 + 1)

unfoldable pub tallied : List ℕ → List ℕ → List ℕ
tallied times [] = times
tallied times (j ∷ js) = tallied (bumped times j) js

-- how often the first n rows name each row as a child
abbrev pub times_to : List ℤ → ℕ → List ℕ
times_to t n = tallied (replicate 127 0) (children_to t n)

-- the rule that a row is a child once, by such a tally
abbrev pub once_rule : List ℕ → ℕ → Option Refusal
once_rule times row = refuse_unless (eqb (get_or times row 0) 1) rule.Once row
