-- The primitives of a sound table: the tree of a row holds none twice and only those up to the row, and there are at most 64. Assumes nothing.
use Prim.Native.Nat.{ℕ, zero, suc, ◌+◌, ◌-◌, ◌*◌, ◌/◌, ◌^◌, ◌≤◌, ◌<◌}
use native.Mathlib.Nat.{le_refl, le_of_suc-le-suc, eq-or-lt_of_le, lt_of_lt_of_le, one-mul}
use native.Mathlib.Omega.{arith}
use mathlib.Core.Bool.{Bool, true, false}
use mathlib.Core.List.{List, [], ◌∷◌, flat_map}
use mathlib.Core.Logic.{◌⊎◌, inl, inr}
use mathlib.Core.Option.{some}
use mathlib.Core.Path.{◌≡◌, refl, sym, ap, ap₂, subst, ◌∙◌}
use borrow.Author.Tests.{eqb-true, eq-eqb, lt-ltb}
use lib.Bits.{bit_and, bit_or, and_comm, or_lt, and_shifted}
use lib.Dec.{eqb, ltb}
use lib.IntN.{ℤ}
use lib.ListN.{length, length-append}
use lib.Pow.{pow-lt, pow_mono}
use Rattle.std.specs.Prelude.{if◌then◌else◌}
use Rattle.ground.specs.Lists.{from, below, count_if}
use Rattle.ground.proofs.Namings.{next_row, rising, count_append, names_exact}
use Rattle.ground.proofs.Masks.{or_and}
use Rattle.rules.specs.declared.Primitive.{Primitive}
use Rattle.rules.specs.declared.Row.{Row}
use Rattle.rules.specs.declared.Row.TheVariants.{Solid, Union, Inter, Diff}
use Rattle.rules.specs.Table.{row_count, row_at, solid_of, primitives_before, primitives}
use Rattle.rules.specs.Tree.{Tree, solid, union, inter, diff, row_tree, tree_at}
use Rattle.rules.specs.Choices.{Side, in_of, out_of}
use Rattle.rules.specs.Verdict.{children_of}
use Rattle.laws.specs.Plans.{plan, mask, Apart}
use Rattle.laws.specs.Sound.{RowRight, Sound}
use Rattle.laws.proofs.Trees.{tree_row}

-- ---- lists and counts

-- how often two children are a row
module _ (a b : ℕ) where
  twice : a ≡ b → count_if (eqb a) (a ∷ b ∷ []) ≡ 2
  unfolding count_if
  twice e = rw (eq-eqb a a refl, eq-eqb a b e) refl

  left_named : 1 ≤ count_if (eqb a) (a ∷ b ∷ [])
  unfolding count_if
  left_named = rw (eq-eqb a a refl) (omega arith)

  right_named : 1 ≤ count_if (eqb b) (a ∷ b ∷ [])
  unfolding count_if
  right_named = go (eqb b a)
    where
      go : (l : Bool) → 1 ≤ (if l then suc (if eqb b b then 1 else 0) else (if eqb b b then 1 else 0))
      go true = omega arith
      go false = rw (eq-eqb b b refl) (omega arith)

-- ---- trees

-- the primitives of a tree: its plan has the same on either side
abbrev held : Tree → ℕ
held tree = mask (plan in_of tree)

held_by : (s : Side) (tree : Tree) → mask (plan s tree) ≡ held tree
unfolding mask plan
held_by in_of tree = refl
held_by out_of (solid i p) = refl
held_by out_of (union l r) = ap₂ bit_or (held_by out_of l) (held_by out_of r)
held_by out_of (inter l r) = ap₂ bit_or (held_by out_of l) (held_by out_of r)
held_by out_of (diff l r) = ap₂ bit_or (held_by out_of l) (sym (held_by out_of r))

-- a tree that is an operation on two
data Joins (l r : Tree) : Tree → Type 0 where
  by_union : Joins l r (union l r)
  by_inter : Joins l r (inter l r)
  by_diff : Joins l r (diff l r)

module _ (l r : Tree) where
  joined_held : (whole : Tree) → Joins l r whole → held whole ≡ bit_or (held l) (held r)
  unfolding mask plan
  joined_held whole by_union = refl
  joined_held whole by_inter = refl
  joined_held whole by_diff = ap (bit_or (held l)) (held_by out_of r)

  module _ (e : bit_and (held l) (held r) ≡ 0) (p : (s : Side) → Apart (plan s l)) (q : (s : Side) → Apart (plan s r)) where
    parts : (a b : Side) → (bit_and (mask (plan a l)) (mask (plan b r)) ≡ 0) × (Apart (plan a l) × Apart (plan b r))
    parts a b = (ap₂ bit_and (held_by a l) (held_by b r) ∙ e, (p a, q b))

    joined_apart : (whole : Tree) → Joins l r whole → (s : Side) → Apart (plan s whole)
    unfolding Apart plan
    joined_apart whole by_union in_of = parts in_of in_of
    joined_apart whole by_union out_of = parts out_of out_of
    joined_apart whole by_inter in_of = parts in_of in_of
    joined_apart whole by_inter out_of = parts out_of out_of
    joined_apart whole by_diff in_of = parts in_of out_of
    joined_apart whole by_diff out_of = parts out_of in_of

solid_apart : (i : ℕ) (p : Primitive) (s : Side) → Apart (plan s (solid i p))
unfolding Apart plan
solid_apart i p in_of = tt
solid_apart i p out_of = tt

one_apart : (n x : ℕ) → x < 2 ^ n → bit_and (2 ^ n) x ≡ 0
one_apart n x h = ap (λ (y : ℕ). bit_and y x) (sym (one-mul (2 ^ n))) ∙ and_shifted 1 n x h

-- ---- the rows of a sound table

module _ (t : List ℤ) (S : Sound t) where
  -- the number of primitives before a row: its own number, if it is one
  abbrev before : ℕ → ℕ
  before row = length (primitives_before t row)

  -- the children that the rows before one name, and how often they name i
  abbrev named : ℕ → List ℕ
  named row = flat_map (λ r. children_of (row_at t r)) (below row)

  abbrev times : ℕ → ℕ → ℕ
  times i row = count_if (eqb i) (named row)

  pub next_before : (row : ℕ) → before (suc row) ≡ before row + length (solid_of (row_at t row))
  next_before row = ap length (next_row (λ r. solid_of (row_at t r)) row) ∙ length-append (primitives_before t row) (solid_of (row_at t row))

  next_named : (row : ℕ) → length (named (suc row)) ≡ length (named row) + length (children_of (row_at t row))
  next_named row = ap length (next_row (λ r. children_of (row_at t r)) row) ∙ length-append (named row) (children_of (row_at t row))

  next_times : (i row : ℕ) → times i (suc row) ≡ times i row + count_if (eqb i) (children_of (row_at t row))
  next_times i row = ap (count_if (eqb i)) (next_row (λ r. children_of (row_at t r)) row) ∙ count_append (eqb i) (named row) (children_of (row_at t row))

  pub before_rises : (a b : ℕ) → a ≤ b → before a ≤ before b
  before_rises = rising before (λ k. omega (arith, next_before k))

  times_once : (i : ℕ) → i < row_count t - 1 → times i (row_count t) ≡ 1
  times_once i l = eqb-true (times i (row_count t)) 1 (S.once i l)

  times_most : (i row : ℕ) → i < row_count t - 1 → row ≤ row_count t → times i row ≤ 1
  times_most i row l h = subst (λ (n : ℕ). times i row ≤ n) (times_once i l) (rising (times i) (λ k. omega (arith, next_times i k)) row (row_count t) h)

  -- a row as the laws below need it: a primitive, or an operation on two earlier rows
  data Seen (row : ℕ) : Type 0 where
    leaf : (p : Primitive) → row_at t row ≡ some (Solid p) → tree_at t row ≡ solid (before row) p → Seen row
    node : (a b : ℕ) → a < row → b < row → children_of (row_at t row) ≡ a ∷ b ∷ [] → solid_of (row_at t row) ≡ []
        → Joins (tree_at t a) (tree_at t b) (tree_at t row) → Seen row

  seen : (row : ℕ) → row < row_count t → Seen row
  seen row l = let s = S.rows row l in go s.reads s.is s.right
    where
      tree : (r : Row) → row_at t row ≡ some r → tree_at t row ≡ row_tree (before row) (tree_at t) (some r)
      tree r e = tree_row t S row l ∙ ap (row_tree (before row) (tree_at t)) e

      joins : (a b : ℕ) (whole : Tree) → tree_at t row ≡ whole → Joins (tree_at t a) (tree_at t b) whole → Joins (tree_at t a) (tree_at t b) (tree_at t row)
      joins a b whole e j = subst (Joins (tree_at t a) (tree_at t b)) (sym e) j

      go : (r : Row) → row_at t row ≡ some r → RowRight row r → Seen row
      go (Solid p) e ok = leaf p e (tree (Solid p) e)
      go (Union a b) e ok = node a b ok.0 ok.1 (ap children_of e) (ap solid_of e) (joins a b _ (tree (Union a b) e) by_union)
      go (Inter a b) e ok = node a b ok.0 ok.1 (ap children_of e) (ap solid_of e) (joins a b _ (tree (Inter a b) e) by_inter)
      go (Diff a b) e ok = node a b ok.0 ok.1 (ap children_of e) (ap solid_of e) (joins a b _ (tree (Diff a b) e) by_diff)

  abbrev held_at : ℕ → ℕ
  held_at row = held (tree_at t row)

  leaf_held : (row : ℕ) {p : Primitive} → tree_at t row ≡ solid (before row) p → held_at row ≡ 2 ^ before row
  unfolding mask plan
  leaf_held row e = ap held e

  node_held : (row a b : ℕ) → Joins (tree_at t a) (tree_at t b) (tree_at t row) → held_at row ≡ bit_or (held_at a) (held_at b)
  node_held row a b j = joined_held (tree_at t a) (tree_at t b) (tree_at t row) j

  leaf_next : (row : ℕ) {p : Primitive} → row_at t row ≡ some (Solid p) → before (suc row) ≡ before row + 1
  leaf_next row e = next_before row ∙ ap (λ (n : ℕ). before row + n) (ap (λ x. length (solid_of x)) e)

  -- ---- only primitives up to the row; n bounds it
  held_below : (n row : ℕ) → row < n → row < row_count t → held_at row < 2 ^ before (suc row)
  held_below zero row h l = absurd (omega arith)
  held_below (suc n) row h l =
      go (seen row l) (λ a c. lt_of_lt_of_le (held_below n a (omega arith) (omega arith)) (pow_mono (before_rises (suc a) (suc row) (omega arith))))
    where
      go : Seen row → ((a : ℕ) → a < row → held_at a < 2 ^ before (suc row)) → held_at row < 2 ^ before (suc row)
      go (leaf p e w) child = rw (leaf_held row w) (pow-lt (omega (arith, leaf_next row e)))
      go (node a b la lb c s j) child = rw (node_held row a b j) (or_lt (before (suc row)) (held_at a) (held_at b) (child a la) (child b lb))

  pub mask_below : (row : ℕ) → row < row_count t → (s : Side) → mask (plan s (tree_at t row)) < 2 ^ length (primitives_before t (suc row))
  mask_below row l s = rw (held_by s (tree_at t row)) (held_below (suc row) row (omega arith) l)

  pub mask_in_table : (row : ℕ) → row < row_count t → (s : Side) → mask (plan s (tree_at t row)) < 2 ^ length (primitives t)
  mask_in_table row l s = lt_of_lt_of_le (mask_below row l s) (pow_mono (before_rises (suc row) (row_count t) l))

  -- a primitive's number is below the number of all of them
  pub number_below : (row : ℕ) → row < row_count t → {p : Primitive} → row_at t row ≡ some (Solid p) → length (primitives_before t row) < length (primitives t)
  number_below row l e = omega (arith, leaf_next row e, before_rises (suc row) (row_count t) l)

  -- ---- no primitive twice

  -- a row before another, that no row before that names
  record Free (row i : ℕ) : Type 0 where
    is_before : i < row
    unnamed : times i row ≡ 0

  free_down : (row i : ℕ) → Free (suc row) i → i < row → Free row i
  free_down row i f l = record { is_before = l; unnamed = omega (arith, next_times i row, f.unnamed) }

  abbrev FreeApart : ℕ → Type 0
  FreeApart row = (i j : ℕ) → Free row i → Free row j → (i ≡ j → ⊥) → bit_and (held_at i) (held_at j) ≡ 0

  -- the children of a row were free before it: no row is named twice
  module _ (row a b : ℕ) (l : row < row_count t) (c : children_of (row_at t row) ≡ a ∷ b ∷ []) (older : FreeApart row) where
    here : (i : ℕ) → times i (suc row) ≡ times i row + count_if (eqb i) (a ∷ b ∷ [])
    here i = next_times i row ∙ ap (λ (is : List ℕ). times i row + count_if (eqb i) is) c

    child_free : (i : ℕ) → i < row → 1 ≤ count_if (eqb i) (a ∷ b ∷ []) → Free row i
    child_free i e n = record { is_before = e; unnamed = omega (arith, here i, times_most i (suc row) (omega arith) l) }

    children_apart : a < row → b < row → bit_and (held_at a) (held_at b) ≡ 0
    children_apart la lb =
        older a b (child_free a la (left_named a b)) (child_free b lb (right_named a b))
        (λ same. omega (arith, here a, times_most a (suc row) (omega arith) l, twice a b same))

    child_other : (j : ℕ) → Free (suc row) j → j < row → (i : ℕ) → i < row → 1 ≤ count_if (eqb i) (a ∷ b ∷ []) → bit_and (held_at i) (held_at j) ≡ 0
    child_other j f h i k n =
        older i j (child_free i k n) (free_down row j f h)
        (λ same. omega (arith, here i, subst (λ (x : ℕ). times x (suc row) ≡ 0) (sym same) f.unnamed))

  -- the newest row against an older free one: a primitive has a higher number than all before, an operation holds what its children hold
  newest : (row j : ℕ) → row < row_count t → Free (suc row) j → j < row → FreeApart row → bit_and (held_at row) (held_at j) ≡ 0
  newest row j l f h older = go (seen row l)
    where
      lower : held_at j < 2 ^ before row
      lower = lt_of_lt_of_le (held_below (suc j) j (omega arith) (omega arith)) (pow_mono (before_rises (suc j) row h))

      go : Seen row → bit_and (held_at row) (held_at j) ≡ 0
      go (leaf p e w) = rw (leaf_held row w) (one_apart (before row) (held_at j) lower)
      go (node a b la lb c s w) =
          let child = child_other row a b l c older j f h in
          rw (node_held row a b w) (or_and (held_at a) (held_at b) (held_at j) ∙ ap₂ bit_or (child a la (left_named a b)) (child b lb (right_named a b)))

  free_apart : (row : ℕ) → row ≤ row_count t → FreeApart row
  free_apart zero h i j f g ne = absurd (omega (arith, f.is_before))
  free_apart (suc row) h i j f g ne = go (last i f.is_before) (last j g.is_before) (free_apart row (omega arith))
    where
      last : (x : ℕ) → x < suc row → (x ≡ row) ⊎ (x < row)
      last x l = eq-or-lt_of_le (le_of_suc-le-suc l)

      go : (i ≡ row) ⊎ (i < row) → (j ≡ row) ⊎ (j < row) → FreeApart row → bit_and (held_at i) (held_at j) ≡ 0
      go (inl e) (inl k) older = absurd (ne (e ∙ sym k))
      go (inl e) (inr k) older = subst (λ (x : ℕ). bit_and (held_at x) (held_at j) ≡ 0) (sym e) (newest row j h g k older)
      go (inr e) (inl k) older = subst (λ (x : ℕ). bit_and (held_at i) (held_at x) ≡ 0) (sym k) (and_comm (held_at i) (held_at row) ∙ newest row i h f e older)
      go (inr e) (inr k) older = older i j (free_down row i f e) (free_down row j g k) ne

  rows_apart : (n row : ℕ) → row < n → row < row_count t → (s : Side) → Apart (plan s (tree_at t row))
  rows_apart zero row h l s = absurd (omega arith)
  rows_apart (suc n) row h l s = go (seen row l) (λ a k. rows_apart n a (omega arith) (omega arith))
    where
      go : Seen row → ((a : ℕ) → a < row → (s : Side) → Apart (plan s (tree_at t a))) → Apart (plan s (tree_at t row))
      go (leaf p e w) child = subst (λ (tree : Tree). Apart (plan s tree)) (sym w) (solid_apart (before row) p s)
      go (node a b la lb c e w) child =
          let apart = children_apart row a b l c (free_apart row (omega arith)) la lb in
          joined_apart (tree_at t a) (tree_at t b) apart (child a la) (child b lb) (tree_at t row) w s

  -- the subtrees of a row hold disjoint primitives
  pub table_apart : (row : ℕ) → row < row_count t → (s : Side) → Apart (plan s (tree_at t row))
  table_apart row l s = rows_apart (suc row) row (omega arith) l s

  -- ---- how many primitives

  -- a row is a primitive or names two children
  two_each : (row : ℕ) → row ≤ row_count t → length (named row) + 2 * before row ≡ 2 * row
  unfolding from flat_map
  two_each zero l = refl
  two_each (suc row) l = go (seen row l) (two_each row (omega arith))
    where
      go : Seen row → length (named row) + 2 * before row ≡ 2 * row → length (named (suc row)) + 2 * before (suc row) ≡ 2 * suc row
      go (leaf p e w) h = omega (arith, leaf_next row e, next_named row, ap (λ x. length (children_of x)) e)
      go (node a b la lb c e w) h = omega (arith, next_before row, ap (λ (ps : List Primitive). length ps) e, next_named row, ap (λ (is : List ℕ). length is) c)

  -- every child is a row but the last
  abbrev is_child : ℕ → Bool
  is_child i = ltb i (row_count t - 1)

  both_children : (a b : ℕ) → a < row_count t - 1 → b < row_count t - 1 → count_if is_child (a ∷ b ∷ []) ≡ 2
  unfolding count_if
  both_children a b la lb = rw (lt-ltb a (row_count t - 1) la, lt-ltb b (row_count t - 1) lb) refl

  all_children : (row : ℕ) → row ≤ row_count t → count_if is_child (named row) ≡ length (named row)
  unfolding from flat_map count_if
  all_children zero l = refl
  all_children (suc row) l = next ∙ go (seen row l) (all_children row (omega arith)) ∙ sym (next_named row)
    where
      next : count_if is_child (named (suc row)) ≡ count_if is_child (named row) + count_if is_child (children_of (row_at t row))
      next = ap (count_if is_child) (next_row (λ r. children_of (row_at t r)) row) ∙ count_append is_child (named row) (children_of (row_at t row))

      none_named : (is : List ℕ) → is ≡ [] → count_if is_child is ≡ length is
      none_named is e = ap (count_if is_child) e ∙ ap (λ (js : List ℕ). length js) (sym e)

      go : Seen row → count_if is_child (named row) ≡ length (named row)
          → count_if is_child (named row) + count_if is_child (children_of (row_at t row)) ≡ length (named row) + length (children_of (row_at t row))
      go (leaf p e w) h = ap₂ ◌+◌ h (none_named (children_of (row_at t row)) (ap children_of e))
      go (node a b la lb c e w) h =
          omega (arith, h, ap (count_if is_child) c, both_children a b (omega arith) (omega arith), ap (λ (is : List ℕ). length is) c)

  -- each of them once, so half the rows, rounded up, are primitives
  pub half_primitives : length (primitives t) ≡ (row_count t + 1) / 2
  half_primitives =
      let n = names_exact (named (row_count t)) (row_count t - 1) times_once in
      omega (arith, n, all_children (row_count t) (le_refl (row_count t)), two_each (row_count t) (le_refl (row_count t)), S.some_row)

  pub few_primitives : length (primitives t) ≤ 64
  few_primitives = omega (arith, half_primitives, S.not_over)
