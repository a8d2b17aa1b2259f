-- Section 10 of docs/RULES.md: the waterfall picture: of each place of a rectangle of columns and codes, the newest frame in the zone.
use Rattle.std.specs.Prelude.{ℕ, ◌+◌, ◌*◌, Bool, ◌&&◌, ℤ, pos, negsuc, ◌-ℤ◌}
use mathlib.Core.List.{List, [], ◌∷◌, ◌++◌, map, flat_map}
use Rattle.std.proofs.Math.Option.{Option, none, some}
use Rattle.std.specs.Int.Signed.{le_z, lt_z}
use Rattle.ground.specs.Lists.{find_if, first_of}
use Rattle.rules.specs.declared.Point.{Point}
use Rattle.rules.specs.declared.Rectangle.{Rectangle}
use Rattle.rules.specs.declared.Refusal.{Refusal}
use Rattle.rules.specs.declared.Rule.TheVariants as rule
use Rattle.rules.specs.Ranges.{Span, within, size_of, upwards, downwards}
use Rattle.rules.specs.Boxes.{Box}
use Rattle.rules.specs.Refusals.{refuse_unless}

-- the most columns, and the most codes, of a rectangle
abbrev pub most_side : ℕ
most_side = 128

-- what stands where no frame is inside: -2,147,483,648
abbrev pub no_frame : ℤ
no_frame = negsuc 2147483647

abbrev pub columns_of : Rectangle → Span
columns_of r = record { lo = r.xlo; hi = r.xhi }

abbrev pub codes_of : Rectangle → Span
codes_of r = record { lo = r.ylo; hi = r.yhi }

-- one word for each place
abbrev pub picture_words : Rectangle → ℕ
picture_words r = size_of (columns_of r) * size_of (codes_of r)

-- a side of a rectangle, of which lo is bound i: out of the window; or hi below lo or a side too long, both blamed on hi (6)
abbrev pub side_refusals : Span → Span → ℕ → List (Option Refusal)
side_refusals window side i =
    refuse_unless (within window side.lo) rule.Bound i
    ∷ refuse_unless (within window side.hi && (le_z side.lo side.hi && lt_z (side.hi -ℤ side.lo) (pos most_side))) rule.Bound (i + 1)
    ∷ []

abbrev pub rectangle_refusal : Box → Rectangle → Option Refusal
rectangle_refusal window r = first_of (side_refusals window.x (columns_of r) 0 ++ side_refusals window.y (codes_of r) 2)

abbrev pub or_no_frame : Option ℤ → ℤ
or_no_frame none = no_frame
or_no_frame (some z) = z

-- over any way to be inside, and the frames of a window
module _ (is_inside : Point → Bool) (frames : Span) where
  -- the first inside frame from the highest down
  unfoldable pub newest : ℤ → ℤ → Option ℤ
  newest x y = find_if (λ z. is_inside (record { x = x; y = y; z = z })) (downwards frames)

  abbrev pub place_word : ℤ → ℤ → ℤ
  place_word x y = or_no_frame (newest x y)

  abbrev pub row_words : Rectangle → ℤ → List ℤ
  row_words r y = map (λ x. place_word x y) (upwards (columns_of r))

  -- row by row from the highest code down, columns rising
  abbrev pub picture : Rectangle → List ℤ
  picture r = flat_map (row_words r) (downwards (codes_of r))
