-- What a list that passes its checks has, as those who answer from it need it.
use Rattle.std.specs.Prelude.{ℕ, ◌+◌, ◌^◌, ◌≤◌, ◌<◌, List, length}
use Rattle.rules.specs.declared.Axis.{Axis}
use Rattle.rules.specs.declared.Axis.TheVariants.{Column, Code, Frame}
use Rattle.rules.specs.ListFaults.{most_products, most_primitives}
use Rattle.rules.specs.ListWords.{header_words, most_word, word, bounds_word, product_count, primitive_count, place_of, product_at}

-- the bounds of an axis are those of points in range, and hi is not below lo
pub record BoundsIn (list : List ℕ) (axis : Axis) : Type 0 where
  pub lo : word list (bounds_word axis) ≤ most_word axis
  pub hi : word list (bounds_word axis + 1) ≤ most_word axis
  pub rise : word list (bounds_word axis) ≤ word list (bounds_word axis + 1)

pub record SoundHeader (list : List ℕ) : Type 0 where
  pub few : product_count list ≤ most_products
  pub room : place_of (product_count list) ≤ length list
  pub x : BoundsIn list Column
  pub y : BoundsIn list Code
  pub z : BoundsIn list Frame
  pub some_primitive : 1 ≤ primitive_count list
  pub few_primitives : primitive_count list ≤ most_primitives

pub record SoundList (list : List ℕ) : Type 0 where
  pub long : header_words ≤ length list
  pub header : SoundHeader list
  -- no product asks for a primitive past the list's number of them
  pub named : (k : ℕ) → k < product_count list → (product_at list k).plain < 2 ^ primitive_count list
