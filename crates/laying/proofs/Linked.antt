-- The walk over rows that are linked in the order of the walk is the walk over their plan, and so makes its list. Assumes nothing.
use Prim.Native.Nat.{ℕ, zero, suc, ◌+◌, ◌≤◌, ◌<◌}
use native.Mathlib.Omega.{arith}
use mathlib.Core.Bool.{Bool, true, false, not, ◌&&◌, ◌||◌}
use mathlib.Core.List.{List, [], ◌∷◌, ◌++◌, flat_map, append-nil}
use mathlib.Core.Path.{◌≡◌, refl, sym, ap, ap₂, subst, ◌∙◌, fun_ext}
use borrow.Author.Tests.{eq-eqb, ne_eqb}
use lib.Bits.{bit_and, bit_or, or_zero_r}
use lib.Dec.{eqb}
use Rattle.std.proofs.Common.{Option, Some, None}
use Rattle.std.specs.Prelude.{if◌then◌else◌}
use Rattle.rules.specs.declared.Product.{Product}
use Rattle.laws.specs.Survivors.{survivors}
use Rattle.laws.specs.Plans.{Plan, with_it, without, either, both, ways, mask, Apart, nothing}
use Rattle.laws.specs.Reach.{cut_down}
use Rattle.rows.specs.Masks.{span}
use Rattle.rows.specs.declared.RowKind.{RowKind}
use Rattle.rows.specs.declared.RowKind.TheVariants.{With, Without, Either, Both}
use Rattle.rows.specs.declared.Links.{Links}
use Rattle.rows.specs.declared.PlanRow.{PlanRow}
use Rattle.rows.specs.Rows.{links_at, masks_at, kind_at, left_at, next_at, done_at, below_at, span_at, plan_in, Inner, Later, SoundLinks}
use Rattle.repeats.specs.Repeats.{stale}
use Rattle.places.specs.declared.Place.{Place}
use Rattle.places.specs.Places.{onward_of, aside_of}
use Rattle.walk.specs.Walks.{walk, finish}
use Rattle.walk.specs.Tracks.{aged_at, open_at, end_of, walk_at, start_of}
use Rattle.filling.specs.Filling.{MasksOf, FullFrom}
use Rattle.rows.proofs.Rows.{inner_by, plan_with, plan_without, plan_either, plan_both}
use Rattle.walk.proofs.Tracks.{walk_open, walk_shut}
use Rattle.walk.proofs.Walking.{walk_survivors}

-- a row's parts are linked as the walk goes: after the left part, and after the right part of an `either`, comes what comes after the row;
-- after the right part of a `both` comes its left part
pub record TiedTo (links : ℕ → Links) (x follows : ℕ) (precedes : Option ℕ) : Type 0 where
  pub left_next : (links (links x).left).next ≡ (links x).next
  pub right_next : (links (x + 1)).next ≡ follows
  pub left_done : (links (links x).left).done ≡ precedes
  pub right_done : (links (x + 1)).done ≡ None

abbrev pub TiedBy : RowKind → (ℕ → Links) → ℕ → Type 0
TiedBy With links x = Unit {0}
TiedBy Without links x = Unit {0}
TiedBy Either links x = TiedTo links x (links x).next None
TiedBy Both links x = TiedTo links x (links x).left (Some (x + 1))

pub record Tied (links : ℕ → Links) (end : ℕ) : Type 0 where
  pub row : (x : ℕ) → x < end → TiedBy (links x).kind links x
  pub root_next : (links 0).next ≡ end
  pub root_done : (links 0).done ≡ None

module _ (meets : List ℕ) (seen : ℕ) {rows : List PlanRow} {end : ℕ} (s : SoundLinks rows end) (d : Tied (links_at rows) end) (full : FullFrom meets seen rows end 0) where
  abbrev place : ℕ → Product → ℕ → Place
  place x c R = record { row = x; plain = c.plain; cuts = c.cuts; reach = R }

  -- what is listed from a row on
  abbrev after : ℕ → Product → ℕ → List Product
  after x c R = walk_at rows end (place x c R)

  abbrev walked_from : Plan → Product → ℕ → ℕ → List Product
  walked_from p c R next = walk meets seen p c R (after next)

  module _ (x : ℕ) (l : x < end) (c : Product) (R : ℕ) where
    abbrev alive : ℕ → Bool
    alive reach = eqb (bit_and c.plain (bit_and R reach)) c.plain

    abbrev step : List Product
    step = flat_map (walk_at rows end) (onward_of rows (place x c R) ∷ aside_of rows (place x c R) [])

    -- a row's own walk
    by_row : after x c R ≡ if◌then◌else◌ (aged_at rows (place x c R)) [] (if◌then◌else◌ (not (alive (span_at rows x))) [] step)
    unfolding end_of
    by_row = go (alive (span_at rows x)) (aged_at rows (place x c R)) refl refl
      where
        opened : (t o : Bool) → alive (span_at rows x) ≡ t → aged_at rows (place x c R) ≡ o → open_at rows end (place x c R) ≡ (t && not o)
        opened t o p q =
            ap (λ (b : Bool). not b && (alive (span_at rows x) && not (aged_at rows (place x c R)))) (ne_eqb x end (λ z. omega arith))
            ∙ ap₂ (λ (a b : Bool). a && not b) p q

        none : end_of rows end (place x c R) ≡ []
        none = rw (ne_eqb x end (λ z. omega arith))

        go : (t o : Bool) → alive (span_at rows x) ≡ t → aged_at rows (place x c R) ≡ o → after x c R ≡ if◌then◌else◌ o [] (if◌then◌else◌ (not t) [] step)
        go true true p q = walk_shut s (place x c R) (omega arith) (opened true true p q) ∙ none
        go true false p q = walk_open s (place x c R) (omega arith) (opened true false p q)
        go false true p q = walk_shut s (place x c R) (omega arith) (opened false true p q) ∙ none
        go false false p q = walk_shut s (place x c R) (omega arith) (opened false false p q) ∙ none

  abbrev Linked : ℕ → Type 0
  Linked x = (c : Product) (R : ℕ) → after x c R ≡ if◌then◌else◌ (aged_at rows (place x c R)) [] (walked_from (plan_in rows x) c R (next_at rows x))

  -- with no right part before it
  alone : (x y : ℕ) → Linked x → done_at rows x ≡ None → next_at rows x ≡ y → (c : Product) (R : ℕ) → after x c R ≡ walked_from (plan_in rows x) c R y
  alone x y h z q c R = h c R ∙ rw z (ap (walked_from (plan_in rows x) c R) q)

  -- after its right part
  beside : (x y : ℕ) {b : ℕ} → Linked x → done_at rows x ≡ Some b → next_at rows x ≡ y → (c : Product) (R : ℕ)
      → after x c R ≡ if◌then◌else◌ (stale (plan_in rows b) c.plain c.cuts R) [] (walked_from (plan_in rows x) c R y)
  beside x y {b} h z q c R = h c R ∙ rw z (ap (λ (u : ℕ). if◌then◌else◌ (stale (plan_in rows b) c.plain c.cuts R) [] (walked_from (plan_in rows x) c R u)) q)

  link : (f x : ℕ) → x < end → end ≤ x + f → Linked x
  unfolding walk mask flat_map
  link zero x l h c R = absurd (omega arith)
  link (suc f) x l h c R =
      by_row x l c R
      ∙ ap (λ (ps : List Product). if◌then◌else◌ (aged_at rows (place x c R)) [] ps)
      (go (kind_at rows x) refl (d.row x l) (λ y i j. link f y j (omega arith)))
    where
      m : MasksOf meets seen (masks_at rows x) (plan_in rows x)
      m = full x (omega arith) l

      Goal : Type 0
      Goal = if◌then◌else◌ (not (alive x l c R (span_at rows x))) [] (step x l c R) ≡ walked_from (plan_in rows x) c R (next_at rows x)

      -- for the plan that the row is, with what is listed from there on
      from : (p : Plan) → plan_in rows x ≡ p → (ps : ℕ → List Product) → step x l c R ≡ ps (span_at rows x)
          → if◌then◌else◌ (not (alive x l c R (span meets seen p))) [] (ps (span meets seen p)) ≡ walked_from p c R (next_at rows x) → Goal
      from p z ps e q =
          ap (λ (qs : List Product). if◌then◌else◌ (not (alive x l c R (span_at rows x))) [] qs) e
          ∙ ap (λ (u : ℕ). if◌then◌else◌ (not (alive x l c R u)) [] (ps u)) (m.spans ∙ ap (span meets seen) z)
          ∙ q ∙ ap (λ (u : Plan). walked_from u c R (next_at rows x)) (sym z)

      guard : (p : Plan) {ps qs : List Product} → ps ≡ qs → if◌then◌else◌ (not (alive x l c R (span meets seen p))) [] ps ≡ if◌then◌else◌ (not (alive x l c R (span meets seen p))) [] qs
      guard p e = ap (λ (ps : List Product). if◌then◌else◌ (not (alive x l c R (span meets seen p))) [] ps) e

      parts : {kind : RowKind} → kind_at rows x ≡ kind → Inner kind → Later end x (left_at rows x)
      parts k i = (s.link x l).left (inner_by _ k i)

      go : (kind : RowKind) → kind_at rows x ≡ kind → TiedBy (kind_at rows x) (links_at rows) x → ((y : ℕ) → x < y → y < end → Linked y) → Goal
      go With k t ih =
          let z = plan_with s l k in
          from (with_it (left_at rows x)) z (λ u. walk_at rows end (record { row = next_at rows x; plain = bit_or c.plain (below_at rows x); cuts = c.cuts; reach = bit_and R u }))
          (rw k (append-nil _))
          (guard (with_it (left_at rows x)) (ap₂ (λ (u v : ℕ). walk_at rows end (record { row = next_at rows x; plain = bit_or c.plain u; cuts = v; reach = bit_and R (span meets seen (with_it (left_at rows x))) }))
          (m.below ∙ ap mask z) (sym (or_zero_r c.cuts))))
      go Without k t ih =
          let z = plan_without s l k in
          from (without (left_at rows x)) z (λ u. walk_at rows end (record { row = next_at rows x; plain = c.plain; cuts = bit_or c.cuts (below_at rows x); reach = bit_and R u }))
          (rw k (append-nil _))
          (guard (without (left_at rows x)) (ap₂ (λ (u v : ℕ). walk_at rows end (record { row = next_at rows x; plain = v; cuts = bit_or c.cuts u; reach = bit_and R (span meets seen (without (left_at rows x))) }))
          (m.below ∙ ap mask z) (sym (or_zero_r c.plain))))
      go Either k t ih =
          let a = parts k tt in
          let tied : TiedTo (links_at rows) x (next_at rows x) None = subst (λ (j : RowKind). TiedBy j (links_at rows) x) k t in
          from (either (plan_in rows (left_at rows x)) (plan_in rows (x + 1))) (plan_either s l k)
          (λ u. after (left_at rows x) c (bit_and R u) ++ after (x + 1) c (bit_and R u))
          (rw k (ap (λ (ps : List Product). after (left_at rows x) c (bit_and R (span_at rows x)) ++ ps) (append-nil _)))
          (guard (either (plan_in rows (left_at rows x)) (plan_in rows (x + 1))) (ap₂ (λ (u v : List Product). u ++ v)
          (alone (left_at rows x) (next_at rows x) (ih (left_at rows x) (omega (arith, a.up)) a.fits) tied.left_done tied.left_next c _)
          (alone (x + 1) (next_at rows x) (ih (x + 1) (omega arith) (omega (arith, a.up, a.fits))) tied.right_done tied.right_next c _)))
      go Both k t ih =
          let a = parts k tt in
          let tied : TiedTo (links_at rows) x (left_at rows x) (Some (x + 1)) = subst (λ (j : RowKind). TiedBy j (links_at rows) x) k t in
          from (both (plan_in rows (left_at rows x)) (plan_in rows (x + 1))) (plan_both s l k)
          (λ u. after (x + 1) c (bit_and R u))
          (rw k (append-nil _))
          (guard (both (plan_in rows (left_at rows x)) (plan_in rows (x + 1))) (alone (x + 1) (left_at rows x) (ih (x + 1) (omega arith) (omega (arith, a.up, a.fits))) tied.right_done tied.right_next c _
          ∙ ap (walk meets seen (plan_in rows (x + 1)) c _)
          (fun_ext (λ c'. fun_ext (λ R'. beside (left_at rows x) (next_at rows x) (ih (left_at rows x) (omega (arith, a.up)) a.fits) tied.left_done tied.left_next c' R')))))

  finish_same : (c : Product) (R : ℕ) → after end c R ≡ finish (plan_in rows 0) c R
  unfolding end_of
  finish_same c R =
      walk_shut s (place end c R) (omega arith) (rw (eq-eqb end end refl))
      ∙ rw (eq-eqb end end refl) (go (eqb (bit_and c.plain R) c.plain) (stale (plan_in rows 0) c.plain c.cuts R) _)
    where
      go : (t o : Bool) (ps : List Product) → if◌then◌else◌ (t && not o) ps [] ≡ if◌then◌else◌ (not t || o) [] ps
      go true true ps = refl
      go true false ps = refl
      go false o ps = refl

  -- THE WALK OVER THE ROWS IS THE LIST OF THE PLAN
  pub rows_survivors : Apart (plan_in rows 0) → walk_at rows end (start_of seen)
      ≡ survivors (λ chosen. eqb (bit_and chosen (cut_down meets chosen seen)) chosen) (λ chosen. cut_down meets chosen seen) (ways (plan_in rows 0))
  rows_survivors apart =
      alone 0 end (link end 0 s.some (omega arith)) d.root_done d.root_next nothing seen
      ∙ ap (walk meets seen (plan_in rows 0) nothing seen) (fun_ext (λ c. fun_ext (λ R. finish_same c R)))
      ∙ walk_survivors meets seen (plan_in rows 0) apart
