-- The words of a list, read back: its length, the number of its products, each of them, and all those of a zone. Assumes nothing.
use Prim.Native.Nat.{ℕ, ◌+◌, ◌*◌, ◌<◌}
use native.Mathlib.Nat.{add-zero, mul_comm}
use native.Mathlib.Omega.{arith}
use mathlib.Core.List.{List, ◌++◌, flat_map}
use mathlib.Core.Path.{◌≡◌, refl, sym, ap, ◌∙◌}
use lib.IntN.{ℤ}
use lib.ListN.{length, get_or, length-append, get_or-append}
use lib.Seq.{get_or-append-add}
use Rattle.ground.specs.Lists.{All}
use Rattle.ground.proofs.Pieces.{all_each, pieces_length, piece_at, map_places}
use Rattle.rules.specs.declared.Product.{Product}
use Rattle.rules.specs.declared.Window.{Window}
use Rattle.rules.specs.ListCalls.{zone_list}
use Rattle.rules.specs.ListWords.{header_words, product_words, header_of, words_of, list_of, word, product_count, place_of, product_at, products_in}
use Rattle.rules.specs.Products.{products}
use Rattle.rules.specs.Table.{primitives}
use Rattle.rules.specs.Tree.{tree_of}
use Rattle.laws.specs.Plans.{nothing}

all_two : (ps : List Product) → All (λ p. length (words_of p) ≡ product_words) ps
all_two = all_each (λ p. length (words_of p) ≡ product_words) (λ p. refl)

pub words_length : (ps : List Product) → length (flat_map words_of ps) ≡ product_words * length ps
words_length ps = pieces_length words_of product_words ps (all_two ps) ∙ mul_comm (length ps) product_words

-- word i of product k, after the header and whatever stands after the list
word_at : (rest : List ℕ) (d : Product) (ps : List Product) (k i : ℕ) → k < length ps → i < product_words
    → word (flat_map words_of ps ++ rest) (product_words * k + i) ≡ word (words_of (get_or ps k d)) i
word_at rest d ps k i l m =
    let turned : product_words * k + i ≡ k * product_words + i = omega arith in
    get_or-append (flat_map words_of ps) rest 0 (product_words * k + i) (omega (arith, words_length ps))
    ∙ ap (word (flat_map words_of ps)) turned
    ∙ piece_at words_of product_words d 0 ps (all_two ps) k i l m

module _ (w : Window) (primitive_count : ℕ) (ps : List Product) where
  pub list_length : length (list_of w primitive_count ps) ≡ place_of (length ps)
  list_length = length-append (header_of w primitive_count (length ps)) (flat_map words_of ps) ∙ ap (λ (n : ℕ). header_words + n) (words_length ps)

  -- whatever stands after the list
  module _ (rest : List ℕ) where
    pub list_count : product_count (list_of w primitive_count ps ++ rest) ≡ length ps
    list_count = refl

    pub list_product : (d : Product) (k : ℕ) → k < length ps → product_at (list_of w primitive_count ps ++ rest) k ≡ get_or ps k d
    list_product d k l = λ i. record { plain = plain i; cuts = (there 1 (omega arith)) i }
      where
        there : (i : ℕ) → i < product_words → word (list_of w primitive_count ps ++ rest) (place_of k + i) ≡ word (words_of (get_or ps k d)) i
        there i m =
            let after : place_of k + i ≡ header_words + (product_words * k + i) = omega arith in
            ap (word (list_of w primitive_count ps ++ rest)) after
            ∙ get_or-append-add (header_of w primitive_count (length ps)) (flat_map words_of ps ++ rest) (product_words * k + i) 0
            ∙ word_at rest d ps k i l m

        plain : word (list_of w primitive_count ps ++ rest) (place_of k) ≡ (get_or ps k d).plain
        plain = ap (word (list_of w primitive_count ps ++ rest)) (sym (add-zero (place_of k))) ∙ there 0 (omega arith)

    list_products : products_in (list_of w primitive_count ps ++ rest) ≡ ps
    list_products = map_places (product_at (list_of w primitive_count ps ++ rest)) nothing ps (list_product nothing)

pub zone_products : (t : List ℤ) (w : Window) (rest : List ℕ) → products_in (zone_list t w ++ rest) ≡ products w (primitives t) (tree_of t)
unfolding zone_list
zone_products t w rest = list_products w (length (primitives t)) (products w (primitives t) (tree_of t)) rest
