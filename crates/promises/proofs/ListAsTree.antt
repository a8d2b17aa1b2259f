-- A list that was made answers as the tree does at every point of its window, and refuses every other point. Assumes nothing.
use Rattle.std.specs.Prelude.{Ok}
use Prim.Native.Nat.{ℕ, zero, suc, ◌+◌, ◌≤◌, ◌<◌}
use native.Mathlib.Nat.{le_refl}
use native.Mathlib.Numerals.{add-one}
use native.Mathlib.Omega.{arith}
use mathlib.Core.Bool.{Bool, true, false, ◌&&◌}
use mathlib.Core.List.{List, ◌++◌}
use mathlib.Core.Option.{Option, none}
use mathlib.Core.Path.{◌≡◌, refl, sym, ap, ap₂, ◌∙◌}
use borrow.Author.Tests.{leb-true}
use lib.Dec.{leb}
use lib.IntN.{ℤ}
use lib.ListN.{length, drop}
use lib.Signed.{le_z}
use Rattle.ground.specs.Lists.{All, below, any_of, or_else, first_of, rulings}
use Rattle.ground.proofs.Branches.{false_true, and_left, and_right}
use Rattle.ground.proofs.Counting.{numbers_below, kept, all_kept, or_else_none, first_kept}
use Rattle.ground.proofs.Kept.{find_same, count_same}
use Rattle.ground.proofs.Lists.{all_map, any_same}
use Rattle.ground.proofs.Order.{le_z_trans}
use Rattle.rules.specs.declared.Rule.TheVariants as rule
use Rattle.rules.specs.declared.Place.{Place}
use Rattle.rules.specs.declared.Point.{Point}
use Rattle.rules.specs.declared.Product.{Product}
use Rattle.rules.specs.declared.Refusal.{Refusal}
use Rattle.rules.specs.declared.Searched.{Searched}
use Rattle.rules.specs.declared.Window.{Window}
use Rattle.rules.specs.Boxes.{Box, holds, everywhere, window_box}
use Rattle.rules.specs.Choices.{expansion}
use Rattle.rules.specs.Frame.{code_at, held_codes, point_of, frame_refusal, leaves_refusal, sample_inside, first_inside, inside_count}
use Rattle.rules.specs.Inside.{inside}
use Rattle.rules.specs.ListCalls.{most_choices, window_refusal, choices_refusal, zone_list, make_refusal, ListMade, accept_refusal, list_point_refusal, ListLocated, list_search_refusal, ListSearched}
use Rattle.rules.specs.ListFaults.{list_refusal, primitives_refusal}
use Rattle.rules.specs.ListInside.{inside_product, inside_list}
use Rattle.rules.specs.ListWords.{list_window}
use Rattle.rules.specs.Ranges.{Span, within, columns, codes, frames}
use Rattle.rules.specs.Refusals.{refuse, refuse_unless}
use Rattle.rules.specs.Table.{primitives}
use Rattle.rules.specs.Told.{Located, tell, told_located, refused_by}
use Rattle.rules.specs.Tree.{tree_of}
use Rattle.rules.specs.TreeCalls.{axis_refusal, point_refusal, point_tale, search_tale, tree_point_refusal, TreeLocated, tree_search_refusal, TreeSearched}
use Rattle.rules.specs.Verdict.{table_refusal}
use Rattle.rules.proofs.Settled.{tree_located_settled}
use Rattle.rules.proofs.Told.{searched_once, wrote_none}
use Rattle.laws.specs.Sound.{Sound}
use Rattle.laws.proofs.Telling.{holds_point}
use Rattle.laws.proofs.Traces.{held_in}
use Rattle.promises.proofs.MadePasses.{made_window, made_accepted, made_sound}
use Rattle.promises.proofs.Placing.{tree_choices}
use Rattle.laws.proofs.ZoneProducts.{is_over}
use Rattle.promises.proofs.Pruning.{held_axes, pruning_keeps, primitives_right}
use Rattle.laws.proofs.Soundness.{unless_kept, table_sound}
use Rattle.laws.proofs.Spaces.{by_axis}
use Rattle.laws.proofs.Windows.{Bounds, window_right}
use Rattle.laws.proofs.Words.{zone_products}

-- ---- rules in order

-- a point that is out of a box is out on a first axis
point_out : (b : Box) (p : Point) → holds b p ≡ false → (axis : ℕ) × (point_refusal b p ≡ refuse rule.Outside axis)
unfolding first_of
point_out b p h = go (within b.x p.x) (within b.y p.y) (within b.z p.z) h
  where
    go : (x y z : Bool) → (x && (y && z)) ≡ false → (axis : ℕ) × (axis_refusal x y z ≡ refuse rule.Outside axis)
    go true true true e = false_true (sym e)
    go true true false e = (2, refl)
    go true false z e = (1, refl)
    go false y z e = (0, refl)

-- ---- samples

-- the point of sample k is in the box
abbrev pub sample_held : Box → List ℤ → Place → ℕ → Bool
sample_held box samples place k = holds box (point_of place k (code_at samples k))

-- a frame whose first k samples are in a box leaves it by the later ones only
module _ (box : Box) (samples : List ℤ) (place : Place) where
  abbrev pub sample_rule : ℕ → Option Refusal
  sample_rule k = refuse_unless (sample_held box samples place k) rule.Outside k

  pub held_upto : (k : ℕ) → k ≤ length samples → ((j : ℕ) → j < k → sample_held box samples place j ≡ true)
      → leaves_refusal box samples place ≡ rulings sample_rule k (length samples)
  held_upto zero h held = refl
  held_upto (suc k) h held =
      held_upto k (omega arith) (λ j l. held j (omega arith))
      ∙ kept sample_rule k (length samples) h (ap (λ (b : Bool). refuse_unless b rule.Outside k) (held k (omega arith)))
      ∙ ap (λ (j : ℕ). rulings sample_rule j (length samples)) (add-one k)

-- the points of the codes that a column holds lie in a box that has every sample
pub held_points : (box : Box) (samples : List ℤ) (place : Place) → ((k : ℕ) → k < length samples → sample_held box samples place k ≡ true)
    → (k : ℕ) → k < length samples → All (λ code. holds box (point_of place k code) ≡ true) (held_codes samples k)
held_points box samples place held k l =
    let own = held_axes box (point_of place k (code_at samples k)) (held k l) in
    all_map (λ code. within box.y code ≡ true) (λ code. holds box (point_of place k code) ≡ true) (λ code y. by_axis own.0 y own.2)
    (held_codes samples k)
    (held_in box.y samples (length samples) (λ j m. (held_axes box (point_of place j (code_at samples j)) (held j m)).1) k l)

-- two ways to be inside that agree at each code that a column holds
module _ (f g : Point → Bool) (samples : List ℤ) (place : Place)
    (agree : (k : ℕ) → k < length samples → All (λ code. f (point_of place k code) ≡ g (point_of place k code)) (held_codes samples k)) where
  each_sample : All (λ k. sample_inside f samples place k ≡ sample_inside g samples place k) (below (length samples))
  each_sample =
      all_map (λ k. k < 0 + length samples) (λ k. sample_inside f samples place k ≡ sample_inside g samples place k)
      (λ k l. any_same (λ code. f (point_of place k code)) (λ code. g (point_of place k code)) (held_codes samples k) (agree k (omega arith)))
      (below (length samples))
      (numbers_below 0 (length samples))

  search_same : search_tale (first_inside f samples place) (inside_count f samples place)
      ≡ search_tale (first_inside g samples place) (inside_count g samples place)
  unfolding first_inside inside_count
  search_same =
      ap₂ search_tale (find_same (sample_inside f samples place) (sample_inside g samples place) (below (length samples)) each_sample)
      (count_same (sample_inside f samples place) (sample_inside g samples place) (below (length samples)) each_sample)

-- ---- a window that was accepted

bounds_in : (s : Span) (lo hi v : ℤ) → Bounds s lo hi → within (record { lo = lo; hi = hi }) v ≡ true → within s v ≡ true
bounds_in s lo hi v b h =
    let low = le_z_trans s.lo lo v (and_left (le_z s.lo lo) (le_z lo s.hi) b.lo_in) (and_left (le_z lo v) (le_z v hi) h) in
    let high = le_z_trans v hi s.hi (and_right (le_z lo v) (le_z v hi) h) (and_right (le_z s.lo hi) (le_z hi s.hi) b.hi_in) in
    ap₂ ◌&&◌ low high

-- it lies in the range of all points
pub window_in_range : (w : Window) → window_refusal w ≡ none → (p : Point) → holds (window_box w) p ≡ true → holds everywhere p ≡ true
window_in_range w e p h =
    let r = window_right w e in
    let (x, y, z) = held_axes (window_box w) p h in
    by_axis (bounds_in columns w.xlo w.xhi p.x r.x x) (bounds_in codes w.ylo w.yhi p.y r.y y)
    (bounds_in frames w.zlo w.zhi p.z r.z z)

-- ---- a list that was made

module _ (t : List ℤ) (w : Window) (before after : List ℕ) (n : ℕ) (made : ListMade t w before after (Ok n)) where
  pub accepted : make_refusal t w (length before) ≡ none
  accepted = (wrote_none (make_refusal t w (length before)) (length (zone_list t w)) n made.answer).0

  pub table_fine : table_refusal t ≡ none
  table_fine = (first_kept (table_refusal t) _ accepted).0

  pub window_fine : window_refusal w ≡ none
  window_fine = (first_kept (window_refusal w) _ (first_kept (table_refusal t) _ accepted).1).0

  pub few_choices : expansion (tree_of t) ≤ most_choices
  few_choices =
      let count = expansion (tree_of t) in
      let later = (first_kept (window_refusal w) _ (first_kept (table_refusal t) _ accepted).1).1 in
      leb-true count most_choices (unless_kept (leb count most_choices) rule.Choices count (first_kept (choices_refusal count) _ later).0)

  sound : Sound t
  sound = table_sound t table_fine

  abbrev beyond : List ℕ
  beyond = drop (length (zone_list t w)) before

  is_list : after ≡ zone_list t w ++ beyond
  is_list = is_over made accepted

  -- it is accepted with its table, and carries its window
  pub made_passes : (accept_refusal t after ≡ none) × (list_window after ≡ window_box w)
  unfolding accept_refusal first_of
  made_passes =
      let list = ap list_refusal is_list ∙ made_sound t w sound window_fine beyond few_choices in
      let counts = ap (primitives_refusal (primitives t)) is_list ∙ made_accepted t w beyond in
      ((λ i. or_else (table_fine i) (or_else (list i) (or_else (counts i) none))), ap list_window is_list ∙ made_window t w window_fine beyond)

  -- at every point of the window it says what the tree says
  pub list_is_tree : (p : Point) → holds (window_box w) p ≡ true → inside_list (primitives t) after p ≡ inside (tree_of t) p
  unfolding inside_list
  list_is_tree p held =
      let solids = primitives t in
      let holding : Product → Bool = λ c. inside_product solids c p in
      ap (λ (list : List ℕ). inside_list solids list p) is_list
      ∙ ap (any_of holding) (zone_products t w beyond)
      ∙ pruning_keeps w solids (primitives_right t sound) p held (tree_of t)
      ∙ sym (tree_choices t sound p)

  point_rule : (p : Point) → list_point_refusal t after p ≡ point_refusal (window_box w) p
  unfolding first_of
  point_rule p =
      (λ i. or_else (made_passes.0 i) (or_else (point_refusal (list_window after) p) none))
      ∙ sym (or_else_none (point_refusal (list_window after) p))
      ∙ ap (λ (b : Box). point_refusal b p) made_passes.1

  tree_point_rule : (p : Point) → holds (window_box w) p ≡ true → tree_point_refusal t p ≡ none
  unfolding first_of
  tree_point_rule p held =
      let in_range = holds_point everywhere p (window_in_range w window_fine p held) in
      λ i. or_else (table_fine i) (or_else (in_range i) none)

  -- at a point of the window whoever answers from the list answers from the tree
  pub list_locates : (p : Point) → holds (window_box w) p ≡ true → {a : Located} → ListLocated t after p a → TreeLocated t p a
  list_locates p held by-list = record {
    answer = by-list.answer
        ∙ (λ i. tell ((point_rule p ∙ holds_point (window_box w) p held ∙ sym (tree_point_rule p held)) i) (point_tale (list_is_tree p held i)));
  }

  -- so that a point in the list and the same point in the tree get the same answer
  pub list_answers_tree : (p : Point) → holds (window_box w) p ≡ true → {a b : Located} → ListLocated t after p a → TreeLocated t p b → a ≡ b
  list_answers_tree p held by-list by-tree = tree_located_settled (list_locates p held by-list) by-tree

  -- a point out of the window is refused: 10, with the first axis on which it is out
  pub list_refuses_outside : (p : Point) → holds (window_box w) p ≡ false → {a : Located} → ListLocated t after p a
      → (axis : ℕ) × (point_refusal (window_box w) p ≡ refuse rule.Outside axis) × (told_located a ≡ refused_by 10 axis)
  list_refuses_outside p out {a} by-list =
      let (axis, rule) = point_out (window_box w) p out in
      let tale = point_tale (inside_list (primitives t) after p) in (
        axis,
        rule,
        by-list.answer ∙ ap (λ (x : Option Refusal). tell x tale) (point_rule p ∙ rule),
      )

  -- a frame that lies in the window: the search over the list and the search over the tree give the same answer
  module _ (samples : List ℤ) (place : Place) (held : (k : ℕ) → k < length samples → sample_held (window_box w) samples place k ≡ true) where
    none_leaves : leaves_refusal (list_window after) samples place ≡ none
    none_leaves =
        let n = length samples in
        ap (λ (b : Box). leaves_refusal b samples place) made_passes.1
        ∙ held_upto (window_box w) samples place n (le_refl n) held
        ∙ all_kept (sample_rule (window_box w) samples place) n n (le_refl n)

    same_rule : list_search_refusal t after samples place ≡ tree_search_refusal t samples place
    unfolding first_of
    same_rule =
        let frame = frame_refusal samples place in
        λ i. or_else ((made_passes.0 ∙ sym table_fine) i) (or_else frame (or_else (none_leaves i) none))

    pub searches_agree : {a b : Searched} → ListSearched t after samples place a → TreeSearched t samples place b → a ≡ b
    searches_agree {a} {b} by-list by-tree =
        let same = search_same (inside_list (primitives t) after) (inside (tree_of t)) samples place
        (λ k l. all_map (λ code. holds (window_box w) (point_of place k code) ≡ true)
        (λ code. inside_list (primitives t) after (point_of place k code) ≡ inside (tree_of t) (point_of place k code))
        (λ code. list_is_tree (point_of place k code)) (held_codes samples k) (held_points (window_box w) samples place held k l)) in
        searched_once a b (by-list.answer ∙ (λ i. tell (same_rule i) (same i)) ∙ sym by-tree.answer)
