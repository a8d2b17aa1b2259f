-- What a rectangle has that is not refused in a window; and the words of some of its columns and rows.
use Rattle.std.specs.Prelude.{ℕ, Bool, true, ◌≡◌, ℤ, pos, ◌+ℤ◌, ◌-ℤ◌}
use mathlib.Core.List.{List, map, flat_map}
use Rattle.std.specs.Int.Signed.{le_z, lt_z}
use Rattle.ground.specs.Lists.{below}
use Rattle.rules.specs.declared.Point.{Point}
use Rattle.rules.specs.declared.Rectangle.{Rectangle}
use Rattle.rules.specs.Boxes.{Box}
use Rattle.rules.specs.Ranges.{Span, within}
use Rattle.rules.specs.Waterfall.{most_side, columns_of, codes_of, place_word}

-- a side is not empty and not too long
pub record Sized (side : Span) : Type 0 where
  pub rises : le_z side.lo side.hi ≡ true
  pub short : lt_z (side.hi -ℤ side.lo) (pos most_side) ≡ true

-- and lies in the window
pub record SideRight (window side : Span) : Type 0 where
  pub lo_in : within window side.lo ≡ true
  pub hi_in : within window side.hi ≡ true
  pub sized : Sized side

pub record Drawable (window : Box) (q : Rectangle) : Type 0 where
  pub columns_right : SideRight window.x (columns_of q)
  pub codes_right : SideRight window.y (codes_of q)

module _ (is_inside : Point → Bool) (frames : Span) where
  -- the words of n columns from xlo on, at code y
  abbrev pub words_from : ℤ → ℤ → ℕ → List ℤ
  words_from xlo y n = map (λ i. place_word is_inside frames (xlo +ℤ pos i) y) (below n)

  -- and of m rows from yhi down
  abbrev pub rows_from : ℤ → ℤ → ℕ → ℕ → List ℤ
  rows_from xlo yhi n m = flat_map (λ j. words_from xlo (yhi -ℤ pos j) n) (below m)
