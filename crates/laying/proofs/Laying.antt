-- Rows that are laid out one after the other come to the lines of the whole plan. Assumes nothing.
use Rattle.std.proofs.Common.{◌≡◌, ℕ, ◌+◌, ◌≤◌, ◌<◌, Bool, true, false, List, [], ◌∷◌, eqb, length, Option, None, set, refl, sym, ap, subst, ◌∙◌, arith, length-set}
use borrow.Author.Tests.{eqb-true, eqb-false}
use lib.IntN.{ℤ}
use Rattle.rules.specs.Table.{row_count, primitives}
use Rattle.laws.specs.Plans.{Plan}
use Rattle.laws.specs.Reach.{meetings}
use Rattle.choice.specs.Steps.{plan_at}
use Rattle.rows.specs.declared.RowKind.{RowKind}
use Rattle.rows.specs.declared.Links.{Links}
use Rattle.rows.specs.declared.Masks.{Masks}
use Rattle.rows.specs.declared.Part.{Part}
use Rattle.rows.specs.declared.PlanRow.{PlanRow}
use Rattle.rows.specs.Rows.{links_at, masks_at, with_links, Inner}
use Rattle.rows.specs.Lines.{rows_of, line, coming_links, line_in, Stands}
use Rattle.filling.specs.Filling.{LeafMasks}
use Rattle.laying.specs.Laying.{Coming, plan_of, lines_of, Comes, all_rows, all_lines, Laying}
use Rattle.rows.proofs.Changes.{row_here, row_there, masks_kept}
use Rattle.filling.proofs.Filling.{inner_leaf}
use Rattle.laying.proofs.Lines.{Pair, some_row}

-- what is to come is read from x on
comes_same : (t : List ℤ) (whole : List Links) (rows more : List PlanRow) (end x : ℕ) (cs : List Coming) → ((y : ℕ) → x ≤ y → links_at more y ≡ links_at rows y) → Comes t whole rows end x cs → Comes t whole more end x cs
unfolding Comes
comes_same t whole rows more end x [] h c = c
comes_same t whole rows more end x (i ∷ cs) h c = (
  c.0,
  (h x (omega arith) ∙ c.1.0, (c.1.1.0, comes_same t whole rows more end (x + rows_of (plan_of t i)) cs (λ y k. h y (omega arith)) c.1.1.1)),
)

-- the first of what is to come
pub record First (t : List ℤ) (rows : List PlanRow) (x : ℕ) : Type 0 where
  pub now : Coming
  pub later : List Coming
  pub row_in : now.part.row < row_count t
  pub entry : links_at rows x ≡ coming_links now.part now.next now.done
  pub whole : Stands (line_in (all_lines t)) x (lines_of t now x)
  pub rest : Comes t (all_lines t) rows (all_rows t) (x + rows_of (plan_of t now)) later

pub first_of_laying : {t : List ℤ} {seen : ℕ} {rows : List PlanRow} {x : ℕ} → Laying t seen rows x → x < all_rows t → First t rows x
unfolding Comes
first_of_laying {t} {seen} {rows} {x} L l = go L.coming L.comes
  where
    go : (cs : List Coming) → Comes t (all_lines t) rows (all_rows t) x cs → First t rows x
    go [] c = absurd (omega (arith, c))
    go (i ∷ cs) c = record { now = i; later = cs; row_in = c.0; entry = c.1.0; whole = c.1.1.0; rest = c.1.1.1 }

comes_in : (t : List ℤ) (whole : List Links) (rows : List PlanRow) (end x : ℕ) (cs : List Coming) → Comes t whole rows end x cs → x ≤ end
unfolding Comes
comes_in t whole rows end x [] c = omega (arith, c)
comes_in t whole rows end x (i ∷ cs) c = omega (arith, comes_in t whole rows end (x + rows_of (plan_of t i)) cs c.1.1.1)

-- a leaf's masks are told by its links and its masks alone
leaf_same : (meets : List ℕ) (seen : ℕ) {l k : Links} {m n : Masks} → k ≡ l → n ≡ m → LeafMasks meets seen l.kind l.left m → LeafMasks meets seen k.kind k.left n
leaf_same meets seen {l} {k} {m} {n} e f h =
    subst (λ (j : Links). LeafMasks meets seen j.kind j.left n) (sym e) (subst (LeafMasks meets seen l.kind l.left) (sym f) h)

module _ {t : List ℤ} {seen : ℕ} {rows : List PlanRow} {x : ℕ} (few : all_rows t ≤ 127) (L : Laying t seen rows x) (f : First t rows x) where
  abbrev p : Plan
  p = plan_of t f.now

  abbrev LeafOf : Links → Masks → Type 0
  LeafOf l m = LeafMasks (meetings (primitives t)) seen l.kind l.left m

  -- the rows of what comes now are within the whole
  pub within_all : x + rows_of p ≤ all_rows t
  within_all = comes_in t (all_lines t) rows (all_rows t) (x + rows_of p) f.later f.rest

  -- rows that are alike before x, with the row's own links at x
  same_more : {own : Links} → line_in (all_lines t) x ≡ own → (after : List PlanRow) → ((y : ℕ) → y < x → links_at after y ≡ links_at rows y) → links_at after x ≡ own
      → (y : ℕ) → y < x + 1 → links_at after y ≡ line_in (all_lines t) y
  same_more head after h e y k = go (eqb y x) refl
    where
      go : (b : Bool) → eqb y x ≡ b → links_at after y ≡ line_in (all_lines t) y
      go true q = let z = eqb-true y x q in ap (links_at after) z ∙ e ∙ sym head ∙ ap (line_in (all_lines t)) (sym z)
      go false q = let l : y < x = omega (arith, eqb-false y x q) in h y l ∙ L.same y l

  -- ---- a leaf
  module _ (own : Links) (masks : Masks) (head : line_in (all_lines t) x ≡ own) (one : rows_of p ≡ 1) (ready : LeafOf own masks) where
    abbrev row : PlanRow
    row = record { links = own; masks = masks }

    abbrev after : List PlanRow
    after = set rows x row

    in_range : x < length rows
    in_range = omega (arith, within_all, one, L.long)

    leaf : (y : ℕ) → y < x + 1 → (b : Bool) → eqb y x ≡ b → LeafOf (links_at after y) (masks_at after y)
    leaf y k true e =
        let h = row_here rows x in_range row in
        subst (λ (j : ℕ). LeafOf (links_at after j) (masks_at after j)) (sym (eqb-true y x e)) (leaf_same (meetings (primitives t)) seen h.0 h.1 ready)
    leaf y k false e =
        let n = eqb-false y x e in
        let h = row_there rows x row y n in
        leaf_same (meetings (primitives t)) seen h.0 h.1 (L.leaves y (omega (arith, n)))

    pub laid_leaf : Laying t seen after (x + 1)
    laid_leaf = record {
      in_range = omega (arith, within_all, one);
      long = length-set rows x row ∙ L.long;
      same = same_more head after (λ y k. (row_there rows x row y (λ z. omega arith)).0) (row_here rows x in_range row).0;
      leaves = λ y k. leaf y k (eqb y x) refl;
      coming = f.later;
      comes = subst (λ (n : ℕ). Comes t (all_lines t) after (all_rows t) (x + n) f.later) one
          (comes_same t (all_lines t) rows after (all_rows t) (x + rows_of p) f.later (λ y k. (row_there rows x row y (λ z. omega (arith, one))).0) f.rest);
    }

  -- ---- a row with two parts
  module _ (kind : RowKind) (inner : Inner kind) (a b : Part) (follows : ℕ) (precedes : Option ℕ)
      (pair : Pair (line_in (all_lines t)) x kind (plan_at t a.row a.within) (plan_at t b.row b.within) f.now.next follows f.now.done precedes)
      (sum : rows_of p ≡ rows_of (plan_at t a.row a.within) + rows_of (plan_at t b.row b.within) + 1) (in-a : a.row < row_count t) (in_b : b.row < row_count t) where
    abbrev left : ℕ
    left = x + 1 + rows_of (plan_at t b.row b.within)

    abbrev own : Links
    own = line kind left f.now.next f.now.done

    abbrev right_entry : Links
    right_entry = coming_links b follows None

    abbrev left_entry : Links
    left_entry = coming_links a f.now.next precedes

    abbrev one_put : List PlanRow
    one_put = with_links rows x own

    abbrev two_put : List PlanRow
    two_put = with_links one_put (x + 1) right_entry

    abbrev all_put : List PlanRow
    all_put = with_links two_put left left_entry

    later_parts : (x + 1 < left) × (left + rows_of (plan_at t a.row a.within) ≤ 127)
    later_parts = (omega (arith, some_row (plan_at t b.row b.within)), omega (arith, within_all))

    one_long : length one_put ≡ 127
    one_long = length-set rows x _ ∙ L.long

    two_long : length two_put ≡ 127
    two_long = length-set one_put (x + 1) _ ∙ one_long

    x_in : x < length rows
    x_in = omega (arith, later_parts, L.long)

    right_in : x + 1 < length one_put
    right_in = omega (arith, later_parts, one_long)

    left_in : left < length two_put
    left_in = omega (arith, later_parts, two_long, some_row (plan_at t a.row a.within))

    -- each row's links then, and that the masks are as before
    elsewhere : (y : ℕ) → (y ≡ x → ⊥) → (y ≡ x + 1 → ⊥) → (y ≡ left → ⊥) → links_at all_put y ≡ links_at rows y
    elsewhere y u v w = (row_there two_put left _ y w).0 ∙ (row_there one_put (x + 1) _ y v).0 ∙ (row_there rows x _ y u).0

    own_there : links_at all_put x ≡ own
    own_there = (row_there two_put left _ x (λ z. omega (arith, later_parts))).0 ∙ (row_there one_put (x + 1) _ x (λ z. omega arith)).0 ∙ (row_here rows x x_in _).0

    right_there : links_at all_put (x + 1) ≡ right_entry
    right_there = (row_there two_put left _ (x + 1) (λ z. omega (arith, later_parts))).0 ∙ (row_here one_put (x + 1) right_in _).0

    left_there : links_at all_put left ≡ left_entry
    left_there = (row_here two_put left left_in _).0

    masks_there : (y : ℕ) → masks_at all_put y ≡ masks_at rows y
    masks_there y = masks_kept two_put left left_in left_entry y ∙ masks_kept one_put (x + 1) right_in right_entry y ∙ masks_kept rows x x_in own y

    leaf_before : (y : ℕ) → y < x + 1 → (q : Bool) → eqb y x ≡ q → LeafOf (links_at all_put y) (masks_at all_put y)
    leaf_before y k true e =
        subst (λ (j : ℕ). LeafOf (links_at all_put j) (masks_at all_put j)) (sym (eqb-true y x e))
        (leaf_same (meetings (primitives t)) seen own_there refl (inner_leaf (meetings (primitives t)) seen kind inner left (masks_at all_put x)))
    leaf_before y k false e =
        let n = eqb-false y x e in
        leaf_same (meetings (primitives t)) seen (elsewhere y n (λ z. omega arith) (λ z. omega (arith, later_parts))) (masks_there y) (L.leaves y (omega (arith, n)))

    last : Comes t (all_lines t) all_put (all_rows t) (left + rows_of (plan_at t a.row a.within)) f.later
    last =
        let e : x + rows_of p ≡ left + rows_of (plan_at t a.row a.within) = omega (arith, sum) in
        subst (λ (n : ℕ). Comes t (all_lines t) all_put (all_rows t) n f.later) e
        (comes_same t (all_lines t) rows all_put (all_rows t) (x + rows_of p) f.later
        (λ y k. elsewhere y (λ z. omega (arith, later_parts, e)) (λ z. omega (arith, later_parts, e)) (λ z. omega (arith, some_row (plan_at t a.row a.within), e))) f.rest)

    pub laid_pair : Laying t seen all_put (x + 1)
    unfolding Comes
    laid_pair = record {
      in_range = omega (arith, within_all, sum);
      long = length-set two_put left _ ∙ two_long;
      same = same_more pair.head all_put (λ y k. elsewhere y (λ z. omega arith) (λ z. omega arith) (λ z. omega (arith, later_parts))) own_there;
      leaves = λ y k. leaf_before y k (eqb y x) refl;
      coming = record { part = b; next = follows; done = None } ∷ record { part = a; next = f.now.next; done = precedes } ∷ f.later;
      comes = (in_b, (right_there, (pair.right, (in-a, (left_there, (pair.left, last))))));
    }
