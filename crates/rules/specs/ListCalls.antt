-- Section 13 of docs/RULES.md: what making a list promises, and what the calls that answer from a list promise.
use Rattle.std.specs.Prelude.{ℕ, ◌+◌, ◌*◌, ◌&&◌, ◌≡◌, leb, ℤ, length}
use mathlib.Core.List.{List, [], ◌∷◌, ◌++◌, flat_map}
use Rattle.std.proofs.Math.Option.{Option}
use Rattle.std.specs.Int.Signed.{le_z}
use Rattle.ground.specs.Lists.{below, first_of}
use Rattle.rules.specs.declared.Axis.{Axis}
use Rattle.rules.specs.declared.Axis.TheVariants.{Column, Code, Frame}
use Rattle.rules.specs.declared.Place.{Place}
use Rattle.rules.specs.declared.Point.{Point}
use Rattle.rules.specs.declared.Rectangle.{Rectangle}
use Rattle.rules.specs.declared.Refusal.{Refusal}
use Rattle.rules.specs.declared.Searched.{Searched}
use Rattle.rules.specs.declared.Window.{Window}
use Rattle.rules.specs.declared.Rule.TheVariants as rule
use Rattle.rules.specs.Ranges.{within, range}
use Rattle.rules.specs.Table.{primitives}
use Rattle.rules.specs.Verdict.{table_refusal}
use Rattle.rules.specs.Tree.{tree_of}
use Rattle.rules.specs.Choices.{expansion}
use Rattle.rules.specs.Products.{products}
use Rattle.rules.specs.ListWords.{list_of, list_window}
use Rattle.rules.specs.ListFaults.{list_refusal, primitives_refusal}
use Rattle.rules.specs.ListInside.{inside_list}
use Rattle.rules.specs.Frame.{frame_refusal, leaves_refusal, first_inside, inside_count}
use Rattle.rules.specs.Refusals.{refuse_unless, room_refusal}
use Rattle.rules.specs.Told.{Located, Written, Told, wrote, tell, told_located, told_searched, told_written}
use Rattle.rules.specs.Screen.{frames_refusal, frame_at, later, triple_words, triple_of}
use Rattle.rules.specs.Waterfall.{picture_words, rectangle_refusal, picture}
use Rattle.rules.specs.Outcome.{leave}
use Rattle.rules.specs.TreeCalls.{point_refusal, point_tale, search_tale}

abbrev pub most_choices : ℕ
most_choices = 65536

-- the bounds of an axis, of which lo is bound i and hi the next: out of range, or hi below lo, blamed on hi (6)
abbrev pub edges_refusals : Axis → ℤ → ℤ → ℕ → List (Option Refusal)
edges_refusals axis lo hi i =
    refuse_unless (within (range axis) lo) rule.Bound i ∷ refuse_unless (within (range axis) hi && le_z lo hi) rule.Bound (i + 1) ∷ []

abbrev pub window_refusal : Window → Option Refusal
window_refusal w =
    first_of (edges_refusals Column w.xlo w.xhi 0 ++ (edges_refusals Code w.ylo w.yhi 2 ++ edges_refusals Frame w.zlo w.zhi 4))

-- too many ways of choosing (7)
abbrev pub choices_refusal : ℕ → Option Refusal
choices_refusal count = refuse_unless (leb count most_choices) rule.Choices count

-- make a list: table, 6, 7, 8
unfoldable pub zone_list : List ℤ → Window → List ℕ
zone_list t w = list_of w (length (primitives t)) (products w (primitives t) (tree_of t))

abbrev pub make_refusal : List ℤ → Window → ℕ → Option Refusal
make_refusal t w room =
    first_of
    (table_refusal t
    ∷ window_refusal w
    ∷ choices_refusal (expansion (tree_of t))
    ∷ room_refusal (length (zone_list t w)) room
    ∷ [])

pub record ListMade (t : List ℤ) (w : Window) (before after : List ℕ) (r : Written) : Type 0 where
  pub answer : told_written r ≡ tell (make_refusal t w (length before)) (wrote (length (zone_list t w)))
  pub buffer : after ≡ leave (make_refusal t w (length before)) (zone_list t w) before

-- what every call that takes a table and a list refuses first: table, 9, 11
unfoldable pub accept_refusal : List ℤ → List ℕ → Option Refusal
accept_refusal t list = first_of (table_refusal t ∷ list_refusal list ∷ primitives_refusal (primitives t) list ∷ [])

-- a point in a list: those, 10
abbrev pub list_point_refusal : List ℤ → List ℕ → Point → Option Refusal
list_point_refusal t list p = first_of (accept_refusal t list ∷ point_refusal (list_window list) p ∷ [])

pub record ListLocated (t : List ℤ) (list : List ℕ) (p : Point) (r : Located) : Type 0 where
  pub answer : told_located r ≡ tell (list_point_refusal t list p) (point_tale (inside_list (primitives t) list p))

-- the search over a list: those, 12, 10
abbrev pub list_search_refusal : List ℤ → List ℕ → List ℤ → Place → Option Refusal
list_search_refusal t list samples place =
    first_of (accept_refusal t list ∷ frame_refusal samples place ∷ leaves_refusal (list_window list) samples place ∷ [])

abbrev pub list_search_told : List ℤ → List ℕ → List ℤ → Place → Told
list_search_told t list samples place =
    let is_inside = inside_list (primitives t) list in
    tell (list_search_refusal t list samples place) (search_tale (first_inside is_inside samples place) (inside_count is_inside samples place))

pub record ListSearched (t : List ℤ) (list : List ℕ) (samples : List ℤ) (place : Place) (r : Searched) : Type 0 where
  pub answer : told_searched r ≡ list_search_told t list samples place

-- the three words of frame j tell what the search of that frame tells
abbrev pub frame_triple : List ℤ → List ℕ → List ℤ → ℕ → Place → ℕ → List ℕ
frame_triple t list codes frames place j = triple_of (list_search_told t list (frame_at codes frames j) (later place j))

unfoldable pub screen_triples : List ℤ → List ℕ → List ℤ → ℕ → Place → List ℕ
screen_triples t list codes frames place = flat_map (frame_triple t list codes frames place) (below frames)

-- the search of a screenful over a list: those, 12 with 0, 8
abbrev pub screen_refusal : List ℤ → List ℕ → List ℤ → ℕ → ℕ → Option Refusal
screen_refusal t list codes frames room =
    first_of (accept_refusal t list ∷ frames_refusal codes frames ∷ room_refusal (triple_words * frames) room ∷ [])

pub record ScreenSearched (t : List ℤ) (list : List ℕ) (codes : List ℤ) (frames : ℕ) (place : Place) (before after : List ℕ) (r : Written) : Type 0 where
  pub answer : told_written r ≡ tell (screen_refusal t list codes frames (length before)) (wrote (triple_words * frames))
  pub buffer : after ≡ leave (screen_refusal t list codes frames (length before)) (screen_triples t list codes frames place) before

-- the picture of a list: at each place the newest frame of the list's window
unfoldable pub waterfall : List ℤ → List ℕ → Rectangle → List ℤ
waterfall t list rectangle = picture (inside_list (primitives t) list) (list_window list).z rectangle

-- the waterfall picture of a list: those, 6 for the rectangle, 8
abbrev pub waterfall_refusal : List ℤ → List ℕ → Rectangle → ℕ → Option Refusal
waterfall_refusal t list rectangle room =
    first_of (accept_refusal t list ∷ rectangle_refusal (list_window list) rectangle ∷ room_refusal (picture_words rectangle) room ∷ [])

pub record PictureDrawn (t : List ℤ) (list : List ℕ) (rectangle : Rectangle) (before after : List ℤ) (r : Written) : Type 0 where
  pub answer : told_written r ≡ tell (waterfall_refusal t list rectangle (length before)) (wrote (picture_words rectangle))
  pub buffer : after ≡ leave (waterfall_refusal t list rectangle (length before)) (waterfall t list rectangle) before
