-- Section 8 of docs/RULES.md: the list, word by word.
use Rattle.std.specs.Prelude.{ℕ, suc, ◌+◌, ◌*◌, ℤ, pos, nat_abs, ◌+ℤ◌, ◌-ℤ◌, length, get_or}
use mathlib.Core.List.{List, [], ◌∷◌, ◌++◌, map, flat_map}
use Rattle.ground.specs.Lists.{below}
use Rattle.rules.specs.declared.Axis.{Axis}
use Rattle.rules.specs.declared.Axis.TheVariants.{Column, Code, Frame}
use Rattle.rules.specs.declared.Product.{Product}
use Rattle.rules.specs.declared.Window.{Window}
use Rattle.rules.specs.Ranges.{Span, greatest}
use Rattle.rules.specs.Boxes.{Box}

abbrev pub header_words : ℕ
header_words = 8

abbrev pub product_words : ℕ
product_words = 2

-- what a header adds to a bound of an axis, so that the least value becomes 0; and what the greatest becomes
abbrev pub offset : Axis → ℕ
offset axis = suc (greatest axis)

abbrev pub most_word : Axis → ℕ
most_word axis = greatest axis + offset axis

-- a bound as a header has it, and back
abbrev pub raised : Axis → ℤ → ℕ
raised axis bound = nat_abs (bound +ℤ pos (offset axis))

abbrev pub lowered : Axis → ℕ → ℤ
lowered axis word = pos word -ℤ pos (offset axis)

-- the header of a list with so many products: that number, the window, the number of primitives
abbrev pub header_of : Window → ℕ → ℕ → List ℕ
header_of w primitive_count products =
    products
    ∷ raised Column w.xlo
    ∷ raised Column w.xhi
    ∷ raised Code w.ylo
    ∷ raised Code w.yhi
    ∷ raised Frame w.zlo
    ∷ raised Frame w.zhi
    ∷ primitive_count
    ∷ []

abbrev pub words_of : Product → List ℕ
words_of c = c.plain ∷ c.cuts ∷ []

abbrev pub list_of : Window → ℕ → List Product → List ℕ
list_of w primitive_count ps = header_of w primitive_count (length ps) ++ flat_map words_of ps

-- a list's words, read back
abbrev pub word : List ℕ → ℕ → ℕ
word list i = get_or list i 0

abbrev pub product_count : List ℕ → ℕ
product_count list = word list 0

-- where the number of primitives stands, and the lo of each axis; its hi stands in the word after that
abbrev pub primitives_word : ℕ
primitives_word = 7

abbrev pub bounds_word : Axis → ℕ
bounds_word Column = 1
bounds_word Code = 3
bounds_word Frame = 5

abbrev pub primitive_count : List ℕ → ℕ
primitive_count list = word list primitives_word

abbrev pub axis_of : List ℕ → Axis → Span
axis_of list axis = record { lo = lowered axis (word list (bounds_word axis)); hi = lowered axis (word list (bounds_word axis + 1)) }

abbrev pub list_window : List ℕ → Box
list_window list = record { x = axis_of list Column; y = axis_of list Code; z = axis_of list Frame }

-- the place of product k's first word
abbrev pub place_of : ℕ → ℕ
place_of k = header_words + product_words * k

abbrev pub product_at : List ℕ → ℕ → Product
product_at list k = record { plain = word list (place_of k); cuts = word list (place_of k + 1) }

abbrev pub products_in : List ℕ → List Product
products_in list = map (product_at list) (below (product_count list))
