-- Parts of what is printed: two words of a line, and the lines of a list's first products.
use Rattle.std.specs.Prelude.{ℕ}
use mathlib.Core.List.{List, [], ◌∷◌, ◌++◌, map, flat_map}
use Rattle.ground.specs.Lists.{below}
use Rattle.rules.specs.Listing.{word_text, product_line}
use Rattle.rules.specs.ListWords.{product_at}
use Rattle.rules.specs.Text.{tab, line_feed}

-- two words at a line's end: a product's line, and what a refusal's line has after its name
abbrev pub pair_text : ℕ → ℕ → List ℕ
pair_text first second = word_text first ++ (tab ∷ (word_text second ++ (line_feed ∷ [])))

-- the lines of the first k products
abbrev pub lines_to : List ℕ → ℕ → List ℕ
lines_to list k = flat_map product_line (map (product_at list) (below k))
