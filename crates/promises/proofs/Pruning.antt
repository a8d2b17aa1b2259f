-- Pruning changes no answer in the window: at each of its points the products answer as all the choices do. Assumes nothing.
use Prim.Native.Nat.{ℕ, ◌+◌, ◌/◌, ◌<◌}
use native.Mathlib.Omega.{arith}
use mathlib.Core.Bool.{Bool, true, false, not, ◌&&◌, ◌||◌, and-false}
use mathlib.Core.List.{List, [], ◌∷◌, map, map-id}
use mathlib.Core.Option.{Option, some}
use mathlib.Core.Path.{◌≡◌, refl, sym, ap, ap₂, subst, ◌∙◌}
use lib.IntN.{ℤ}
use lib.Signed.{le_z}
use Rattle.ground.specs.Bits.{odd, selected, places_where}
use Rattle.ground.specs.Lists.{All, below, all_of, any_of, keep_if}
use Rattle.std.specs.Prelude.{if◌then◌else◌}
use Rattle.ground.proofs.Branches.{and_left, and_right}
use Rattle.ground.proofs.Counting.{numbers_below}
use Rattle.ground.proofs.Lists.{all_map, all_flat_map, any_same}
use Rattle.ground.proofs.Order.{le_z_trans}
use Rattle.rules.specs.declared.Point.{Point}
use Rattle.rules.specs.declared.Primitive.{Primitive}
use Rattle.rules.specs.declared.Product.{Product}
use Rattle.rules.specs.declared.Row.{Row}
use Rattle.rules.specs.declared.Row.TheVariants.{Solid, Union, Inter, Diff}
use Rattle.rules.specs.declared.Window.{Window}
use Rattle.rules.specs.Boxes.{Box, holds, window_box, common, common_box, empty, share}
use Rattle.rules.specs.Choices.{choices, in_of}
use Rattle.rules.specs.Inside.{inside_solid}
use Rattle.rules.specs.ListInside.{inside_product}
use Rattle.rules.specs.Products.{box_of, product_box, stays, trimmed, same, firsts, products}
use Rattle.rules.specs.Ranges.{Span, within}
use Rattle.rules.specs.Table.{row_count, row_at, solid_of, primitives}
use Rattle.rules.specs.Tree.{Tree}
use Rattle.laws.specs.Sound.{solid_right, RowRight, Sound}
use Rattle.laws.proofs.InBox.{box_holds}
use Rattle.laws.proofs.Firsts.{same_equal}
use Rattle.ground.proofs.Kept.{any_made}
use Rattle.laws.proofs.Reach.{digit_odd, digit_half}
use Rattle.laws.proofs.Spaces.{implied_left, greater_most, lesser_least, filled, by_axis, filled_axes, and_swap, axes_swap, cut}

-- ---- a point in boxes

-- a point that a box holds is in on each axis
pub held_axes : (b : Box) (p : Point) → holds b p ≡ true
    → (within b.x p.x ≡ true) × (within b.y p.y ≡ true) × (within b.z p.z ≡ true)
held_axes b p h =
    let x = within b.x p.x in
    let y = within b.y p.y in
    let z = within b.z p.z in
    let others = and_right x (y && z) h in
    (and_left x (y && z) h, and_left y z others, and_right y z others)

within_common : (a b : Span) (v : ℤ) → within (common a b) v ≡ (within a v && within b v)
within_common a b v =
    ap₂ ◌&&◌ (greater_most a.lo b.lo v) (lesser_least a.hi b.hi v)
    ∙ and_swap (le_z a.lo v) (le_z b.lo v) (le_z v a.hi) (le_z v b.hi)

-- a point is in what two boxes have in common just if it is in both
holds_common : (a b : Box) (p : Point) → holds (common_box a b) p ≡ (holds a p && holds b p)
holds_common a b p =
    by_axis (within_common a.x b.x p.x) (within_common a.y b.y p.y) (within_common a.z b.z p.z)
    ∙ axes_swap (within a.x p.x) (within b.x p.x) (within a.y p.y) (within b.y p.y) (within a.z p.z)
    (within b.z p.z)

within_filled : (s : Span) (v : ℤ) → within s v ≡ true → filled s ≡ true
within_filled s v h = le_z_trans s.lo v s.hi (and_left (le_z s.lo v) (le_z v s.hi) h) (and_right (le_z s.lo v) (le_z v s.hi) h)

-- a box that holds a point is not empty
holds_filled : (b : Box) (p : Point) → holds b p ≡ true → not (empty b) ≡ true
holds_filled b p h =
    let (x, y, z) = held_axes b p h in
    filled_axes b ∙ by_axis (within_filled b.x p.x x) (within_filled b.y p.y y) (within_filled b.z p.z z)

-- ---- tests of elements that stay

module _ {A : Type 0} where
  all_selected : (P : A → Type 0) (xs : List A) (set : ℕ) → All P xs → All P (selected set xs)
  unfolding selected
  all_selected P [] set h = tt
  all_selected P (x ∷ xs) set h = go (odd set) (all_selected P xs (set / 2) h.1)
    where
      go : (o : Bool) → All P (selected (set / 2) xs) → All P (if o then x ∷ selected (set / 2) xs else selected (set / 2) xs)
      go true others = (h.0, others)
      go false others = others

  -- the places of a set at which a test holds select what the test keeps
  selected_places : (test : A → Bool) (xs : List A) (set : ℕ) → selected (places_where test set xs) xs ≡ keep_if test (selected set xs)
  unfolding selected places_where keep_if
  selected_places test [] set = refl
  selected_places test (x ∷ xs) set =
      let more = places_where test (set / 2) xs in
      let first = odd set && test x in
      ap₂ (λ (o : Bool) (n : ℕ). if o then x ∷ selected n xs else selected n xs) (digit_odd first more) (digit_half first more)
      ∙ go (odd set) (selected_places test xs (set / 2))
    where
      go : (o : Bool) → selected (places_where test (set / 2) xs) xs ≡ keep_if test (selected (set / 2) xs)
          → (if o && test x then x ∷ selected (places_where test (set / 2) xs) xs else selected (places_where test (set / 2) xs) xs)
          ≡ keep_if test (if o then x ∷ selected (set / 2) xs else selected (set / 2) xs)
      go true others = λ i. if test x then x ∷ others i else others i
      go false others = others

  any_kept : (test keep : A → Bool) (xs : List A) → any_of test (keep_if keep xs) ≡ any_of (λ x. keep x && test x) xs
  any_kept test keep xs = ap (any_of test) (sym (map-id (keep_if keep xs))) ∙ any_made test (λ x. x) keep xs

-- of equal products the first answers for all
any_firsts : (test : Product → Bool) (cs : List Product) → any_of test (firsts cs) ≡ any_of test cs
unfolding firsts any_of
any_firsts test [] = refl
any_firsts test (c ∷ cs) = go (test c) refl ∙ ap (λ (b : Bool). test c || b) (any_firsts test cs)
  where
    go : (b : Bool) → test c ≡ b → (b || any_of test (keep_if (λ d. not (same c d)) (firsts cs))) ≡ (b || any_of test (firsts cs))
    go true e = refl
    go false e = any_kept test (λ d. not (same c d)) (firsts cs) ∙ (λ i. any_of (λ d. other d (same c d) refl i) (firsts cs))
      where
        other : (d : Product) (s : Bool) → same c d ≡ s → (not s && test d) ≡ test d
        other d true h = sym (ap test (sym (same_equal c d h)) ∙ e)
        other d false h = refl

-- ---- the products at a point of the window

-- a primitive keeps the rules of its fields
abbrev pub Right : Primitive → Type 0
Right s = solid_right s ≡ true

module _ (w : Window) (solids : List Primitive) (right : All Right solids) (p : Point) (held : holds (window_box w) p ≡ true) where
  abbrev in_it : Primitive → Bool
  in_it s = inside_solid s p

  -- a point that is in each of some primitives is in what their boxes and the window have in common
  in_cut : (xs : List Primitive) → All Right xs → all_of in_it xs ≡ true → holds (cut box_of (window_box w) xs) p ≡ true
  unfolding all_of
  in_cut [] r h = held
  in_cut (s ∷ xs) r h =
      holds_common (box_of s) (cut box_of (window_box w) xs) p
      ∙ ap₂ ◌&&◌ (box_holds s p r.0 (and_left (in_it s) (all_of in_it xs) h)) (in_cut xs r.1 (and_right (in_it s) (all_of in_it xs) h))

  -- a product whose uncomplemented primitives all hold the point
  module _ (c : Product) (plain : all_of in_it (selected c.plain solids) ≡ true) where
    in_product : holds (product_box w solids c) p ≡ true
    in_product = in_cut (selected c.plain solids) (all_selected Right solids c.plain right) plain

    it_stays : stays w solids c ≡ true
    it_stays = holds_filled (product_box w solids c) p in_product

    -- no cut that is dropped holds the point
    same_cuts : any_of in_it (selected (trimmed w solids c).cuts solids) ≡ any_of in_it (selected c.cuts solids)
    same_cuts =
        ap (any_of in_it) (selected_places reached solids c.cuts)
        ∙ any_kept in_it reached (selected c.cuts solids)
        ∙ any_same (λ s. reached s && in_it s) in_it (selected c.cuts solids)
        (all_selected Reached solids c.cuts (all_map Right Reached reaches solids right))
      where
        box : Box
        box = product_box w solids c

        reached : Primitive → Bool
        reached s = share (box_of s) box

        Reached : Primitive → Type 0
        Reached s = (reached s && in_it s) ≡ in_it s

        reaches : (s : Primitive) → Right s → Reached s
        reaches s r = sym (implied_left (reached s) (in_it s) shares)
          where
            shares : in_it s ≡ true → reached s ≡ true
            shares h = holds_filled (common_box (box_of s) box) p (holds_common (box_of s) box p ∙ ap₂ ◌&&◌ (box_holds s p r h) in_product)

  -- a choice holds the point just if it stays and what is left of it, without the cuts that are dropped, holds the point
  choice_keeps : (c : Product) → (stays w solids c && inside_product solids (trimmed w solids c) p) ≡ inside_product solids c p
  unfolding inside_product
  choice_keeps c = go (all_of in_it (selected c.plain solids)) refl
    where
      cuts : Product → Bool
      cuts d = any_of in_it (selected d.cuts solids)

      go : (b : Bool) → all_of in_it (selected c.plain solids) ≡ b
          → (stays w solids c && (b && not (cuts (trimmed w solids c)))) ≡ (b && not (cuts c))
      go true e = ap₂ (λ (s b : Bool). s && not b) (it_stays c e) (same_cuts c e)
      go false e = and-false (stays w solids c)

  -- some product holds the point just if some choice does
  pub pruning_keeps : (tree : Tree)
      → any_of (λ c. inside_product solids c p) (products w solids tree) ≡ any_of (λ c. inside_product solids c p) (choices in_of tree)
  unfolding products
  pruning_keeps tree =
      let holding : Product → Bool = λ c. inside_product solids c p in
      let cs = choices in_of tree in
      any_firsts holding (map (trimmed w solids) (keep_if (stays w solids) cs))
      ∙ any_made holding (trimmed w solids) (stays w solids) cs
      ∙ (λ i. any_of (λ c. choice_keeps c i) cs)

-- ---- the primitives of a table

-- every primitive of a sound table is right
pub primitives_right : (t : List ℤ) → Sound t → All Right (primitives t)
primitives_right t S =
    all_flat_map (λ row. row < 0 + row_count t) Right (λ row. solid_of (row_at t row)) at (below (row_count t)) (numbers_below 0 (row_count t))
  where
    read : (row : ℕ) (r : Row) → RowRight row r → All Right (solid_of (some r))
    read row (Solid s) right = (right, tt)
    read row (Union a b) right = tt
    read row (Inter a b) right = tt
    read row (Diff a b) right = tt

    at : (row : ℕ) → row < 0 + row_count t → All Right (solid_of (row_at t row))
    at row l =
        let s = S.rows row (omega arith) in
        subst (λ (r : Option Row). All Right (solid_of r)) (sym s.is) (read row s.reads s.right)
