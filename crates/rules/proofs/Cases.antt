-- Cases 1 to 12, 16, 24, 28, 31 and 32 of docs/RULES.md, section 14: one table, and one theorem that all of them hold. Assumes nothing.
use Prim.Native.Nat.{ℕ}
use mathlib.Core.Path.{◌≡◌, refl}
use mathlib.Core.List.{List, [], ◌∷◌, map, flat_map}
use lib.IntN.{ℤ, pos, negsuc}
use Rattle.ground.specs.Bits.{selected, places_where}
use Rattle.ground.specs.Lists.{from, all_of, any_of, keep_if, count_if, find_if, first_of}
use Rattle.rules.specs.declared.Place.{Place}
use Rattle.rules.specs.declared.Point.{Point}
use Rattle.rules.specs.declared.Product.{Product}
use Rattle.rules.specs.declared.Window.{Window}
use Rattle.rules.specs.Ranges.{Span}
use Rattle.rules.specs.Boxes.{full_range}
use Rattle.rules.specs.Table.{primitives}
use Rattle.rules.specs.Verdict.{table_refusal}
use Rattle.rules.specs.Tree.{trees, tree_of}
use Rattle.rules.specs.Inside.{inside}
use Rattle.rules.specs.Frame.{first_inside, inside_count}
use Rattle.rules.specs.Choices.{choices, ◌crossed_with◌, expansion}
use Rattle.rules.specs.Products.{firsts, products}
use Rattle.rules.specs.Told.{Told, fine, sound, inside as stands_inside, outside, clear, hit, tell, refused_by}
use Rattle.rules.specs.TreeCalls.{tree_point_refusal, point_tale, search_tale, tree_search_refusal}
use Rattle.rules.specs.Waterfall.{newest, place_word}
use Rattle.rules.proofs.Zones.{q, q_apart, far_cuts, crossing, cut_of_cut, swapped, wedge, drum, triangle, turned_round, flat, two_boxes, deep_box, banded, layers_less, slope, columns_of, spot, at}

-- what the definitions say of a zone
pub data Says : Type 0 where
  lists : List Product → Says
  expands : ℕ → Says
  tells : Told → Says
  draws : ℤ → Says

pub record Case : Type 0 where
  pub number : ℕ
  pub says : Says
  pub expected : Says

abbrev list_in : Window → List ℤ → Says
list_in w t = lists (products w (primitives t) (tree_of t))

abbrev point : List ℤ → Point → Says
point t p = tells (tell (tree_point_refusal t p) (point_tale (inside (tree_of t) p)))

-- a frame of so many codes from a column on, in frame 0
abbrev search : List ℤ → ℤ → List ℤ → Says
search t first samples =
    let place : Place = record { first = first; frame = pos 0 } in
    tells (tell (tree_search_refusal t samples place) (search_tale (first_inside (inside (tree_of t)) samples place) (inside_count (inside (tree_of t)) samples place)))

abbrev check : List ℤ → Says
check t = tells (tell (table_refusal t) sound)

-- the newest of the frames -20..5 at a column and a code
abbrev place : List ℤ → ℕ → ℕ → Says
place t x y = let frames : Span = record { lo = negsuc 19; hi = pos 5 } in draws (place_word (inside (tree_of t)) frames (pos x) (pos y))

abbrev product : ℕ → ℕ → Product
product plain cuts = record { plain = plain; cuts = cuts }

abbrev is_in : Says
is_in = tells (fine stands_inside)

abbrev is_out : Says
is_out = tells (fine outside)

abbrev is_clear : Says
is_clear = tells (fine clear)

abbrev is_hit : ℕ → ℕ → Says
is_hit first count = tells (fine (hit first count))

abbrev is_sound : Says
is_sound = tells (fine sound)

abbrev refused : ℕ → ℕ → Says
refused number value = tells (refused_by number value)

abbrev row : ℕ → Says → Says → Case
row number says expected = record { number = number; says = says; expected = expected }

abbrev cases : List Case
cases =
    row 1 (list_in (columns_of (negsuc 99) (pos 100)) q) (lists (product 9 2 ∷ product 12 0 ∷ []))
    ∷ row 2 (list_in (columns_of (pos 0) (pos 15)) q) (lists (product 9 2 ∷ []))
    ∷ row 3 (list_in (columns_of (pos 0) (pos 7)) q) (lists [])
    ∷ row 4 (list_in (columns_of (negsuc 99) (pos 100)) q_apart) (lists (product 9 0 ∷ product 12 0 ∷ []))
    ∷ row 5 (point q (at 8 0)) is_in
    ∷ row 5 (point q (at 20 0)) is_in
    ∷ row 5 (point q (at 21 0)) is_in
    ∷ row 5 (point q (at 22 0)) is_in
    ∷ row 5 (point q (at 23 0)) is_in
    ∷ row 5 (point q (at 24 0)) is_in
    ∷ row 5 (point q (at 25 0)) is_in
    ∷ row 5 (point q (at 9 0)) is_out
    ∷ row 5 (point q (at 26 0)) is_out
    ∷ row 6 (expands (expansion (tree_of far_cuts))) (expands 2)
    ∷ row 6 (list_in full_range far_cuts) (lists (product 1 0 ∷ []))
    ∷ row 7 (list_in full_range crossing) (lists (product 5 0 ∷ product 6 0 ∷ product 9 0 ∷ product 10 0 ∷ []))
    ∷ row 8 (list_in full_range cut_of_cut) (lists (product 1 2 ∷ product 5 0 ∷ []))
    ∷ row 9 (list_in full_range swapped) (lists (product 2 1 ∷ []))
    ∷ row 10 (point (wedge 0) (at 2 1)) is_in
    ∷ row 10 (point (wedge 0) (at 3 1)) is_out
    ∷ row 11 (point drum (at 3 2)) is_in
    ∷ row 11 (point drum (at 5 0)) is_in
    ∷ row 11 (point drum (at 4 2)) is_out
    ∷ row 11 (point drum (at 5 1)) is_out
    ∷ row 12 (check two_boxes) (refused 5 0)
    ∷ row 16 (check (deep_box 1048575)) is_sound
    ∷ row 16 (check (deep_box 1048576)) (refused 3 0)
    ∷ row 16 (check (wedge 32767)) is_sound
    ∷ row 16 (check (wedge 32768)) (refused 3 0)
    ∷ row 24 (point triangle (at 5 5)) is_in
    ∷ row 24 (point triangle (at 10 0)) is_in
    ∷ row 24 (point triangle (at 6 5)) is_out
    ∷ row 24 (point triangle (spot (pos 11) (negsuc 0))) is_out
    ∷ row 24 (point turned_round (at 5 5)) is_in
    ∷ row 24 (point turned_round (at 10 0)) is_in
    ∷ row 24 (point turned_round (at 6 5)) is_out
    ∷ row 24 (point turned_round (spot (pos 11) (negsuc 0))) is_out
    ∷ row 24 (check flat) (refused 3 0)
    ∷ row 28 (search q (pos 19) (negsuc 2 ∷ pos 3 ∷ negsuc 2 ∷ [])) (is_hit 1 2)
    ∷ row 28 (search q (pos 19) (pos 0 ∷ pos 5 ∷ [])) is_clear
    ∷ row 28 (search q (pos 19) (pos 5 ∷ pos 0 ∷ [])) (is_hit 1 1)
    ∷ row 28 (search q (pos 19) (pos 0 ∷ pos 0 ∷ [])) (is_hit 1 1)
    ∷ row 28 (search q (pos 20) (pos 0 ∷ pos 1 ∷ pos 0 ∷ [])) (is_hit 0 2)
    ∷ row 28 (search banded (pos 0) (pos 45 ∷ pos 55 ∷ [])) is_clear
    ∷ row 28 (search banded (pos 0) (pos 60 ∷ pos 61 ∷ [])) (is_hit 1 1)
    ∷ row 28 (search banded (pos 0) (pos 61 ∷ pos 39 ∷ [])) (is_hit 0 2)
    ∷ row 28 (search banded (pos 0) (pos 110 ∷ [])) is_clear
    ∷ row 31 (place slope 0 0) (draws (pos 3))
    ∷ row 31 (place slope 2 2) (draws (pos 1))
    ∷ row 31 (place slope 9 9) (draws (negsuc 12))
    ∷ row 32 (place (layers_less (negsuc 2) (pos 0)) 0 0) (draws (negsuc 3))
    ∷ row 32 (place (layers_less (negsuc 4) (negsuc 1)) 0 0) (draws (pos 0))
    ∷ []

pub cases_hold : map (λ (c : Case). c.says) cases ≡ map (λ (c : Case). c.expected) cases
unfolding table_refusal trees inside first_inside inside_count newest choices ◌crossed_with◌ firsts products from all_of any_of keep_if count_if find_if first_of selected places_where flat_map
cases_hold = refl
