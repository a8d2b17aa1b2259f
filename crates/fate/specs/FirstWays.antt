-- The products of a list, as the ways of its zone come to them in order.
use Rattle.std.specs.Prelude.{Ok, Err, ℕ, ◌≤◌, ◌<◌, true, false, List, ◌≡◌, ℤ, length, get_or}
use Rattle.rules.specs.declared.Product.{Product}
use Rattle.rules.specs.declared.Window.{Window}
use Rattle.rules.specs.ListCalls.{most_choices}
use Rattle.rules.specs.ListWords.{product_at, product_count}
use Rattle.rules.specs.Products.{same}
use Rattle.rules.specs.Table.{primitives}
use Rattle.promises.specs.EachOnce.{choice, kept, made, EachOnce}
use Rattle.fate.specs.Fates.{fate_in}
use Rattle.fate.specs.declared.told.End.{End}
use Rattle.fate.specs.declared.told.End.TheVariants as end

-- the first place of a product in a list, or the number of products
pub record NumberIn (list : List ℕ) (c : Product) (r : ℕ) : Type 0 where
  pub most : r ≤ product_count list
  pub is : r < product_count list → product_at list r ≡ c
  pub first : (k : ℕ) → k < r → same (product_at list k) c ≡ false

module _ (t : List ℤ) (w : Window) where
  -- way i stays and comes to a product, and no earlier way does
  abbrev pub IsFirst : Product → ℕ → Type 0
  IsFirst c i = (kept t w i ≡ true) × (made t w i ≡ c) × ((h : ℕ) → h < i → kept t w h ≡ true → made t w h ≡ c → ⊥)

  -- what way k comes to
  abbrev pub ComesTo : List ℕ → ℕ → End → Type 0
  ComesTo list k (end.Dropped axis) = fate_in w (primitives t) (choice t k) ≡ Err axis
  ComesTo list k (end.Again c first) = (fate_in w (primitives t) (choice t k) ≡ Ok c) × ((first < k) × IsFirst c first)
  ComesTo list k (end.Listed c number) =
      (fate_in w (primitives t) (choice t k) ≡ Ok c) × (IsFirst c k × ((number < product_count list) × (product_at list number ≡ c)))

-- the first k ways have been told: they came to the first n products, and `firsts` has the way that first came to each
pub record ToldTo (t : List ℤ) (w : Window) (list firsts : List ℕ) (k n : ℕ) : Type 0 where
  pub once : EachOnce t w list
  pub few : product_count list ≤ most_choices
  pub size : length firsts ≡ most_choices
  pub before : (j : ℕ) → j < n → (once.order.place j < k) × (get_or firsts j 0 ≡ once.order.place j)
  pub after : (j : ℕ) → n ≤ j → j < product_count list → k ≤ once.order.place j
  pub not_over : n ≤ product_count list
