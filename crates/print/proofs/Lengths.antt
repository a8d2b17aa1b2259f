-- How long what is printed can be: a word has at most 20 bytes, so a product's line 42 and the first line 26. Assumes nothing.
use Prim.Native.Nat.{ℕ, ◌*◌, ◌≤◌}
use native.Mathlib.Omega.{arith}
use mathlib.Core.List.{List, [], ◌∷◌, ◌++◌, flat_map}
use lib.ListN.{length, length-append}
use Rattle.ground.proofs.Pieces.{all_each, pieces_most}
use Rattle.rules.specs.Rules.{number_of}
use Rattle.rules.specs.declared.Product.{Product}
use Rattle.rules.specs.declared.Refusal.{Refusal}
use Rattle.rules.specs.Listing.{word_text, product_line, list_lines, refusal_line}
use Rattle.rules.proofs.Numbers.{few_digits}

-- a word, and the byte after it
pub word_most : (n last : ℕ) → length (word_text n ++ (last ∷ [])) ≤ 21
word_most n last = simp length-append (omega (arith, few_digits 20 n))

line_most : (c : Product) → length (product_line c) ≤ 42
line_most c = simp length-append (omega (arith, few_digits 20 c.plain, few_digits 20 c.cuts))

pub lines_most : (ps : List Product) → length (flat_map product_line ps) ≤ length ps * 42
lines_most ps = pieces_most product_line 42 ps (all_each (λ c. length (product_line c) ≤ 42) line_most ps)

pub list_most : (ps : List Product) → length ps ≤ 4092 → length (list_lines ps) ≤ 171890
list_most ps few = simp length-append (omega (arith, few_digits 20 (length ps), lines_most ps))

pub refusal_most : (r : Refusal) → length (refusal_line r) ≤ 50
refusal_most r = simp length-append (omega (arith, few_digits 20 (number_of r.rule), few_digits 20 r.value))
