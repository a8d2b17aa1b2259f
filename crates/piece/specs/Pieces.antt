-- What stands at a position of a text, and what reading it answers.
use Rattle.std.specs.Prelude.{ℕ, ◌+◌, ◌≤◌, ◌≡◌, ℤ, pos, length, drop, Option, MatchOption}
use mathlib.Core.List.{List, ◌∷◌, ◌++◌, flat_map}
use Rattle.std.proofs.lemmas.List.Edits.{sets}
use Rattle.ground.specs.Lists.{All}
use Rattle.rules.specs.declared.Kind.{Kind}
use Rattle.rules.specs.Kinds.{kind_number}
use Rattle.rules.specs.Table.{most_rows}
use Rattle.rules.specs.Text.{TextRow, kind_name, field_text, header_line, line_of}
use Rattle.rules.specs.TextForm.{Word32, RightRow}
use Rattle.number.specs.declared.Found.{Found}
use Rattle.number.specs.Reading.{Ended}

-- bytes stand at a position, and `next` is the position after them
pub record Stood (text : List ℕ) (at : ℕ) (bytes : List ℕ) (next : ℕ) : Type 0 where
  pub inside : next ≤ length text
  pub split : drop at text ≡ bytes ++ drop next text

-- Something proper, by its spelling, before bytes that may follow it: nothing such stands at the position.
pub record Missing {A : Type 0} (Proper : A → Type 0) (spelling : A → List ℕ) (Follows : List ℕ → Type 0) (text : List ℕ) (at : ℕ) : Type 0 where
  pub none : (v : A) (rest : List ℕ) → Proper v → Follows rest → drop at text ≡ spelling v ++ rest → ⊥

-- or this stands there and ends here, and nothing else of its sort does
pub record There {A : Type 0} (Proper : A → Type 0) (spelling : A → List ℕ) (Follows : List ℕ → Type 0)
    (text : List ℕ) (at : ℕ) (value : A) (next : ℕ) : Type 0 where
  pub proper : Proper value
  pub stood : Stood text at (spelling value) next
  pub only : (v : A) (rest : List ℕ) → Proper v → Follows rest → drop at text ≡ spelling v ++ rest → (value ≡ v) × (next ≡ at + length (spelling v))

-- what reading it answers
abbrev pub Reads : {A : Type 0} → (A → Type 0) → (A → List ℕ) → (List ℕ → Type 0) → List ℕ → ℕ → Option (Found A) → Type 0
Reads Proper spelling Follows text at o =
    MatchOption o (Missing Proper spelling Follows text at) (λ f. There Proper spelling Follows text at f.value f.next)

-- the same where what stands there is known, or goes elsewhere, and only its end is told
abbrev pub Ends : {A : Type 0} → (A → Type 0) → (A → List ℕ) → (List ℕ → Type 0) → List ℕ → ℕ → A → Option ℕ → Type 0
Ends Proper spelling Follows text at value o =
    MatchOption o (Missing Proper spelling Follows text at) (λ next. There Proper spelling Follows text at value next)

-- anything is proper, or may follow
abbrev pub Any : {A : Type 0} → A → Type 0
Any a = Unit {0}

-- bytes that are given
abbrev pub ReadsBytes : List ℕ → List ℕ → ℕ → Option ℕ → Type 0
ReadsBytes bytes text at o = Ends {A = Unit {0}} Any (λ u. bytes) Any text at tt o

-- the name of one kind
abbrev pub TriesName : List ℕ → ℕ → Kind → Option (Found Kind) → Type 0
TriesName text at kind o = Reads (λ k. k ≡ kind) kind_name Any text at o

-- the name of some kind
abbrev pub ReadsName : List ℕ → ℕ → Option (Found Kind) → Type 0
ReadsName text at o = Reads Any kind_name Any text at o

-- a tab and a number
abbrev pub ReadsField : List ℕ → ℕ → Option (Found ℤ) → Type 0
ReadsField text at o = Reads Word32 field_text Ended text at o

-- so many of them
pub record Fields (count : ℕ) (words : List ℤ) : Type 0 where
  pub counted : length words ≡ count
  pub fit : All Word32 words

-- as many as there are places, which have their numbers afterwards
abbrev pub ReadsFields : List ℕ → ℕ → List ℤ → Option ℕ → Type 0
ReadsFields text at after o = Ends (Fields (length after)) (flat_map field_text) Ended text at after o

-- the line of a row, which is now at the start of a table, but for its spare words
pub record LineRead (text : List ℕ) (at : ℕ) (before after : List ℤ) (next : ℕ) : Type 0 where
  pub row : TextRow
  pub there : There RightRow line_of Any text at row next
  pub written : after ≡ sets before 0 (pos (kind_number row.kind) ∷ row.words)

abbrev pub ReadsLine : List ℕ → ℕ → List ℤ → List ℤ → Option ℕ → Type 0
ReadsLine text at before after o = MatchOption o (Missing RightRow line_of Any text at) (LineRead text at before after)

-- a tab and a row count; the header
pub record RightCount (rows : ℕ) : Type 0 where
  pub some_row : 1 ≤ rows
  pub not_over : rows ≤ most_rows

abbrev pub ReadsCount : List ℕ → ℕ → Option (Found ℕ) → Type 0
ReadsCount text at o = Reads RightCount (λ n. field_text (pos n)) Ended text at o

abbrev pub ReadsHeader : List ℕ → Option (Found ℕ) → Type 0
ReadsHeader text o = Reads RightCount header_line Any text 0 o
