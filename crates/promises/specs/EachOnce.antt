-- What a list promises of the zone that it was made from: it holds the products of the choices, and nothing else.
use Rattle.std.specs.Prelude.{ℕ, ◌≤◌, ◌<◌, Bool, true, List, ◌≡◌, ℤ, length, get_or}
use Rattle.rules.specs.declared.Product.{Product}
use Rattle.rules.specs.declared.Window.{Window}
use Rattle.rules.specs.Choices.{choices, in_of, expansion}
use Rattle.rules.specs.ListWords.{place_of, product_at, product_count}
use Rattle.rules.specs.Products.{stays, trimmed, products}
use Rattle.rules.specs.Table.{primitives}
use Rattle.rules.specs.Tree.{tree_of}
use Rattle.laws.specs.Plans.{nothing}

-- choice i, one of the `expansion (tree_of t)` that there are
abbrev pub choice : List ℤ → ℕ → Product
choice t i = get_or (choices in_of (tree_of t)) i nothing

module _ (t : List ℤ) (w : Window) where
  -- choice i stays in the window
  abbrev pub kept : ℕ → Bool
  kept i = stays w (primitives t) (choice t i)

  -- the product that it comes to there
  abbrev pub made : ℕ → Product
  made i = trimmed w (primitives t) (choice t i)

-- the first choice of each product in the buffer
pub record FirstChoices (t : List ℤ) (w : Window) (buffer : List ℕ) : Type 0 where
  pub place : ℕ → ℕ
  -- it is a choice of the zone
  pub is_choice : (k : ℕ) → k < product_count buffer → place k < expansion (tree_of t)
  -- it stays
  pub is_kept : (k : ℕ) → k < product_count buffer → kept t w (place k) ≡ true
  -- it comes to the product
  pub gives : (k : ℕ) → k < product_count buffer → product_at buffer k ≡ made t w (place k)
  -- no earlier choice that stays comes to it
  pub first : (k : ℕ) → k < product_count buffer → (i : ℕ) → i < place k → kept t w i ≡ true → product_at buffer k ≡ made t w i → ⊥
  -- a later product has a later first choice
  pub rises : (j k : ℕ) → j < k → k < product_count buffer → place j < place k

pub record EachOnce (t : List ℤ) (w : Window) (buffer : List ℕ) : Type 0 where
  -- word 0 is the number of products
  pub number : product_count buffer ≡ length (products w (primitives t) (tree_of t))
  -- the words of that many products are in the buffer
  pub room : place_of (product_count buffer) ≤ length buffer
  -- each product in the buffer is that of some choice that stays
  pub from : (k : ℕ) → k < product_count buffer
      → (i : ℕ) × (i < expansion (tree_of t)) × (kept t w i ≡ true) × (product_at buffer k ≡ made t w i)
  -- the product of each choice that stays is in the buffer
  pub has : (i : ℕ) → i < expansion (tree_of t) → kept t w i ≡ true → (k : ℕ) × (k < product_count buffer) × (product_at buffer k ≡ made t w i)
  -- no product stands there twice
  pub distinct : (j k : ℕ) → j < k → k < product_count buffer → product_at buffer j ≡ product_at buffer k → ⊥
  -- the products stand in the order of their first choices
  pub order : FirstChoices t w buffer
