-- Section 9 of docs/RULES.md: when a list is malformed (9), and the first word at fault.
use Rattle.std.specs.Prelude.{ℕ, ◌+◌, ◌^◌, Bool, not, ◌&&◌, ◌||◌, eqb, leb, ltb, length}
use mathlib.Core.List.{List, [], ◌∷◌, ◌++◌, flat_map}
use Rattle.std.proofs.Math.Option.{Option}
use Rattle.std.specs.Int.Bits.{bit_and}
use Rattle.ground.specs.Lists.{below, first_of}
use Rattle.rules.specs.declared.Axis.{Axis}
use Rattle.rules.specs.declared.Axis.TheVariants.{Column, Code, Frame}
use Rattle.rules.specs.declared.Primitive.{Primitive}
use Rattle.rules.specs.declared.Product.{Product}
use Rattle.rules.specs.declared.Refusal.{Refusal}
use Rattle.rules.specs.declared.Rule.TheVariants as rule
use Rattle.rules.specs.ListWords.{header_words, most_word, word, bounds_word, primitives_word, product_count, primitive_count, place_of, product_at}
use Rattle.rules.specs.Refusals.{refuse_if, refuse_unless}

abbrev pub most_products : ℕ
most_products = 65536

abbrev pub most_primitives : ℕ
most_primitives = 64

-- no more products than the list's length holds
abbrev pub count_right : List ℕ → Bool
count_right list = leb (product_count list) most_products && leb (place_of (product_count list)) (length list)

-- bounds that stand in words i and i + 1 are at most `most`, and hi is not below lo
abbrev pub words_refusals : List ℕ → ℕ → ℕ → List (Option Refusal)
words_refusals list i most =
    refuse_if (ltb most (word list i)) rule.List i
    ∷ refuse_if (ltb most (word list (i + 1)) || ltb (word list (i + 1)) (word list i)) rule.List (i + 1)
    ∷ []

abbrev pub bounds_refusals : List ℕ → Axis → List (Option Refusal)
bounds_refusals list axis = words_refusals list (bounds_word axis) (most_word axis)

-- a set of primitives below n has no bit at or past n
abbrev pub fits : ℕ → ℕ → Bool
fits n set = ltb set (2 ^ n)

abbrev pub plain_right : ℕ → Product → Bool
plain_right n c = not (eqb c.plain 0) && fits n c.plain

abbrev pub cuts_right : ℕ → Product → Bool
cuts_right n c = fits n c.cuts && eqb (bit_and c.plain c.cuts) 0

abbrev pub product_refusals : List ℕ → ℕ → List (Option Refusal)
product_refusals list k =
    refuse_unless (plain_right (primitive_count list) (product_at list k)) rule.List (place_of k)
    ∷ refuse_unless (cuts_right (primitive_count list) (product_at list k)) rule.List (place_of k + 1)
    ∷ []

abbrev pub primitives_right : List ℕ → Bool
primitives_right list = leb 1 (primitive_count list) && leb (primitive_count list) most_primitives

-- the faults of words 0 to 7
abbrev pub header_refusals : List ℕ → List (Option Refusal)
header_refusals list =
    refuse_unless (count_right list) rule.List 0
    ∷ (bounds_refusals list Column
    ++ (bounds_refusals list Code
    ++ (bounds_refusals list Frame
    ++ (refuse_unless (primitives_right list) rule.List primitives_word ∷ []))))

unfoldable pub list_refusal : List ℕ → Option Refusal
list_refusal list =
    first_of
    (refuse_if (ltb (length list) header_words) rule.List (length list)
    ∷ (header_refusals list ++ flat_map (product_refusals list) (below (product_count list))))

-- the list's number of primitives is not the table's (11)
abbrev pub primitives_refusal : List Primitive → List ℕ → Option Refusal
primitives_refusal solids list = refuse_unless (eqb (primitive_count list) (length solids)) rule.Primitives (length solids)
