-- Section 2 of docs/RULES.md: the kinds of rows, as its table has them.
use Rattle.std.specs.Prelude.{ℕ, Bool, true, false, List, [], ◌∷◌, ◌≡◌, ℤ, pos, Result, MatchResult}
use Rattle.std.proofs.Math.Option.{Option, none, some}
use Rattle.ground.specs.Tests.{eq_z}
use Rattle.ground.specs.Lists.{find_if}
use Rattle.rules.specs.declared.Kind.{Kind}
use Rattle.rules.specs.declared.UnknownKind.{UnknownKind}
use Rattle.rules.specs.declared.Kind.TheVariants.{Box, Wedge, Drum, Union, Inter, Diff, Triangle}

abbrev pub kinds : List Kind
kinds = Box ∷ Wedge ∷ Drum ∷ Union ∷ Inter ∷ Diff ∷ Triangle ∷ []

-- a row is a primitive, or an operation on two others
abbrev pub is_primitive : Kind → Bool
is_primitive Box = true
is_primitive Wedge = true
is_primitive Drum = true
is_primitive Union = false
is_primitive Inter = false
is_primitive Diff = false
is_primitive Triangle = true

-- word 0 of such a row
abbrev pub kind_number : Kind → ℕ
kind_number Box = 0
kind_number Wedge = 1
kind_number Drum = 2
kind_number Union = 3
kind_number Inter = 4
kind_number Diff = 5
kind_number Triangle = 6

-- how many words it names after word 0: xlo xhi ylo yhi zlo zhi; a box, then a b c d; cx cy rx ry zlo zhi; left right; x1 y1 x2 y2 x3 y3 zlo zhi
abbrev pub named_words : Kind → ℕ
named_words Box = 6
named_words Wedge = 10
named_words Drum = 6
named_words Union = 2
named_words Inter = 2
named_words Diff = 2
named_words Triangle = 8

-- the kind that a word 0 names, if it names one
abbrev pub kind_of : ℤ → Option Kind
kind_of word = find_if (λ kind. eq_z word (pos (kind_number kind))) kinds

-- the kind that a word names, or that it names none
abbrev pub Names : ℤ → Result Kind UnknownKind → Type 0
Names word r = MatchResult r (λ kind. kind_of word ≡ some kind) (λ _. kind_of word ≡ none)
