-- Masks that are filled in from the last row to the first are those of the rows' plans. Assumes nothing.
use Rattle.std.proofs.Common.{◌≡◌, ℕ, ◌+◌, ◌-◌, ◌^◌, ◌≤◌, ◌<◌, Bool, true, false, ◌&&◌, ◌||◌, List, eqb, length, get_or, set, refl, sym, ap, ap₂, subst, ◌∙◌, arith, get_or-set_same, get_or-set_other}
use borrow.Author.Tests.{eq-eqb, eqb-true, eqb-false}
use lib.Bits.{bit_and, bit_or, and_comm, and_zero_l}
use Rattle.std.specs.Prelude.{if◌then◌else◌}
use Rattle.laws.specs.Plans.{Plan, mask, blank}
use Rattle.rows.specs.Masks.{risk, span}
use Rattle.rows.specs.declared.RowKind.{RowKind}
use Rattle.rows.specs.declared.RowKind.TheVariants.{With, Without, Either, Both}
use Rattle.rows.specs.declared.Links.{Links}
use Rattle.rows.specs.declared.Masks.{Masks}
use Rattle.rows.specs.declared.PlanRow.{PlanRow}
use Rattle.rows.specs.Rows.{links_at, masks_at, kind_at, left_at, plan_in, with_masks, Inner, Later, SoundLinks}
use Rattle.filling.specs.Filling.{MasksOf, LeafMasks, LeavesTo, FullFrom, HolesFrom, Fills, either_masks, both_masks, left_hole, right_hole, hole_of, filled_by, filled_in}
use Rattle.rows.proofs.Rows.{same_plan, same_sound, inner_by, plan_with, plan_without, plan_either, plan_both, blank_either, blank_both}
use Rattle.rows.proofs.Changes.{row_here, row_there, links_kept}

-- of a row with two parts nothing is said
pub inner_leaf : (meets : List ℕ) (seen : ℕ) (kind : RowKind) → Inner kind → (number : ℕ) (masks : Masks) → LeafMasks meets seen kind number masks
inner_leaf meets seen With i number masks = absurd i
inner_leaf meets seen Without i number masks = absurd i
inner_leaf meets seen Either i number masks = tt
inner_leaf meets seen Both i number masks = tt

module _ {rows : List PlanRow} {end : ℕ} (s : SoundLinks rows end) (x : ℕ) (l : x < end) (long : length rows ≡ 127) where
  in_range : x < length rows
  in_range = omega (arith, s.few)

  -- a row's parts
  parts : {kind : RowKind} → kind_at rows x ≡ kind → Inner kind → Later end x (left_at rows x)
  parts k n = (s.link x l).left (inner_by _ k n)

  -- ---- where some choice comes to nothing
  module _ (holes : List Bool) (long_holes : length holes ≡ 127) (h : HolesFrom rows holes end (x + 1)) where
    holes_of : {kind : RowKind} → kind_at rows x ≡ kind → Inner kind → (left_hole rows holes x ≡ blank (plan_in rows (left_at rows x)) 0) × (right_hole rows holes x ≡ blank (plan_in rows (x + 1)) 0)
    holes_of k n =
        let a = parts k n in
        (h (left_at rows x) (omega (arith, a.up)) a.fits, h (x + 1) (omega arith) (omega (arith, a.up, a.fits)))

    hole_here : hole_of rows holes x ≡ blank (plan_in rows x) 0
    unfolding blank
    hole_here = go (kind_at rows x) refl
      where
        go : (kind : RowKind) → kind_at rows x ≡ kind → hole_of rows holes x ≡ blank (plan_in rows x) 0
        go With k = rw k (sym (ap (λ (p : Plan). blank p 0) (plan_with s l k)))
        go Without k = rw k (sym (ap (λ (p : Plan). blank p 0) (plan_without s l k) ∙ eq-eqb (bit_and (2 ^ left_at rows x) 0) 0 (and_comm (2 ^ left_at rows x) 0 ∙ and_zero_l (2 ^ left_at rows x))))
        go Either k = rw k (let n = holes_of k tt in ap₂ (λ (u v : Bool). u || v) n.0 n.1 ∙ sym (blank_either s l 0 k))
        go Both k = rw k (let n = holes_of k tt in ap₂ (λ (u v : Bool). u && v) n.0 n.1 ∙ sym (blank_both s l 0 k))

    -- ---- the masks
    abbrev after : List PlanRow
    after = filled_in holes x rows

    abbrev both_hollow : Bool
    both_hollow = left_hole rows holes x && right_hole rows holes x

    pub links_same : (y : ℕ) → links_at after y ≡ links_at rows y
    links_same y = go (kind_at rows x)
      where
        go : (kind : RowKind) → links_at (filled_by rows holes x kind) y ≡ links_at rows y
        go With = refl
        go Without = refl
        go Either = links_kept rows x in_range _ y
        go Both = links_kept rows x in_range _ y

    pub holes_more : HolesFrom after (set holes x (hole_of rows holes x)) end x
    holes_more y u v = go (eqb y x) refl
      where
        planned : blank (plan_in rows y) 0 ≡ blank (plan_in after y) 0
        planned = ap (λ (p : Plan). blank p 0) (sym (same_plan rows after links_same y))

        go : (t : Bool) → eqb y x ≡ t → get_or (set holes x (hole_of rows holes x)) y false ≡ blank (plan_in after y) 0
        go true e =
            let z = eqb-true y x e in
            ap (λ (k : ℕ). get_or (set holes x (hole_of rows holes x)) k false) z ∙ get_or-set_same holes x (hole_of rows holes x) false (omega (arith, s.few)) ∙ hole_here ∙ ap (λ (k : ℕ). blank (plan_in rows k) 0) (sym z) ∙ planned
        go false e = get_or-set_other holes x y (hole_of rows holes x) false (eqb-false y x e) ∙ h y (omega (arith, eqb-false y x e)) v ∙ planned

    module _ (meets : List ℕ) (seen : ℕ) (leaves : LeavesTo meets seen rows end) (full : FullFrom meets seen rows end (x + 1)) where
      abbrev Of : Masks → Plan → Type 0
      Of = MasksOf meets seen

      full_parts : {kind : RowKind} → kind_at rows x ≡ kind → Inner kind → Of (masks_at rows (left_at rows x)) (plan_in rows (left_at rows x)) × Of (masks_at rows (x + 1)) (plan_in rows (x + 1))
      full_parts k n =
          let a = parts k n in
          (full (left_at rows x) (omega (arith, a.up)) a.fits, full (x + 1) (omega arith) (omega (arith, a.up, a.fits)))

      -- the masks of an inner row, by its parts'
      either_here : kind_at rows x ≡ Either → Of (either_masks both_hollow (masks_at rows (left_at rows x)) (masks_at rows (x + 1))) (plan_in rows x)
      unfolding mask span risk
      either_here k =
          let u = (full_parts k tt).0 in
          let v = (full_parts k tt).1 in
          let n = holes_of k tt in
          let e = sym (plan_either s l k) in
          subst (Of (either_masks both_hollow (masks_at rows (left_at rows x)) (masks_at rows (x + 1)))) e (record {
            below = ap₂ bit_or u.below v.below;
            spans = ap₂ bit_or u.spans v.spans;
            risky = ap₂ bit_or (ap₂ (λ (b : Bool) (m : ℕ). if◌then◌else◌ b m 0) (ap₂ (λ (y z : Bool). y && z) n.0 n.1) v.below) (ap₂ bit_or u.risky v.risky);
          })

      both_here : kind_at rows x ≡ Both → Of (both_masks (masks_at rows (left_at rows x)) (masks_at rows (x + 1))) (plan_in rows x)
      unfolding mask span risk
      both_here k =
          let u = (full_parts k tt).0 in
          let v = (full_parts k tt).1 in
          let e = sym (plan_both s l k) in
          subst (Of (both_masks (masks_at rows (left_at rows x)) (masks_at rows (x + 1)))) e (record { below = ap₂ bit_or u.below v.below; spans = ap₂ bit_and u.spans v.spans; risky = ap₂ bit_or u.risky v.risky })

      -- masks that are put change no other row's
      put_from : (masks : Masks) → Of masks (plan_in rows x) → (y : ℕ) → x ≤ y → y < end → Of (masks_at (with_masks rows x masks) y) (plan_in rows y)
      put_from masks m y u v = go (eqb y x) refl
        where
          go : (t : Bool) → eqb y x ≡ t → Of (masks_at (with_masks rows x masks) y) (plan_in rows y)
          go true e = subst (λ (j : ℕ). Of (masks_at (with_masks rows x masks) j) (plan_in rows j)) (sym (eqb-true y x e)) (subst (λ (k : Masks). Of k (plan_in rows x)) (sym (row_here rows x in_range _).1) m)
          go false e = let n = eqb-false y x e in subst (λ (k : Masks). Of k (plan_in rows y)) (sym (row_there rows x _ y n).1) (full y (omega (arith, n)) v)

      put_leaves : (masks : Masks) (inner : Inner (kind_at rows x)) (y : ℕ) → y < end → LeafMasks meets seen (kind_at rows y) (left_at rows y) (masks_at (with_masks rows x masks) y)
      put_leaves masks inner y v = go (eqb y x) refl
        where
          go : (t : Bool) → eqb y x ≡ t → LeafMasks meets seen (kind_at rows y) (left_at rows y) (masks_at (with_masks rows x masks) y)
          go true e = subst (λ (j : ℕ). LeafMasks meets seen (kind_at rows j) (left_at rows j) (masks_at (with_masks rows x masks) j)) (sym (eqb-true y x e)) (inner_leaf meets seen (kind_at rows x) inner _ _)
          go false e = subst (λ (k : Masks). LeafMasks meets seen (kind_at rows y) (left_at rows y) k) (sym (row_there rows x _ y (eqb-false y x e)).1) (leaves y v)

      -- a leaf has its masks already
      leaf_full : {p : Plan} → plan_in rows x ≡ p → Of (masks_at rows x) p → FullFrom meets seen rows end x
      leaf_full e m y u v = go (eqb y x) refl
        where
          go : (t : Bool) → eqb y x ≡ t → Of (masks_at rows y) (plan_in rows y)
          go true z = subst (λ (j : ℕ). Of (masks_at rows j) (plan_in rows j)) (sym (eqb-true y x z)) (subst (Of (masks_at rows x)) (sym e) m)
          go false z = full y (omega (arith, eqb-false y x z)) v

      -- the masks by the plans and the links of before, which are those of after
      abbrev Filled : List PlanRow → Type 0
      Filled more = ((y : ℕ) → y < end → LeafMasks meets seen (kind_at rows y) (left_at rows y) (masks_at more y)) × ((y : ℕ) → x ≤ y → y < end → Of (masks_at more y) (plan_in rows y))

      filled : (kind : RowKind) → kind_at rows x ≡ kind → Filled (filled_by rows holes x kind)
      filled With k = (leaves, leaf_full (plan_with s l k) (subst (λ (j : RowKind). LeafMasks meets seen j (left_at rows x) (masks_at rows x)) k (leaves x l)))
      filled Without k = (leaves, leaf_full (plan_without s l k) (subst (λ (j : RowKind). LeafMasks meets seen j (left_at rows x) (masks_at rows x)) k (leaves x l)))
      filled Either k = (put_leaves _ (inner_by Either k tt), put_from _ (either_here k))
      filled Both k = (put_leaves _ (inner_by Both k tt), put_from _ (both_here k))

      pub filled_more : LeavesTo meets seen after end × FullFrom meets seen after end x
      filled_more =
          let f = filled (kind_at rows x) refl in (
            λ y v. subst (λ (k : Links). LeafMasks meets seen k.kind k.left (masks_at after y)) (sym (links_same y)) (f.0 y v),
            λ y u v. subst (Of (masks_at after y)) (sym (same_plan rows after links_same y)) (f.1 y u v),
          )

-- ---- from the last row to the first

pub record Filling (before rows : List PlanRow) (holes : List Bool) (end row : ℕ) : Type 0 where
  pub in_range : row ≤ end
  pub long : length rows ≡ 127
  pub long_holes : length holes ≡ 127
  pub hollow : HolesFrom rows holes end row
  pub fills : Fills before rows end row

module _ {before rows : List PlanRow} {holes : List Bool} {end row : ℕ} (sound : SoundLinks before end) (f : Filling before rows holes end row) (some : 0 < row) where
  abbrev x : ℕ
  x = row - 1

  here : x < end
  here = omega (arith, f.in_range)

  now : SoundLinks rows end
  now = same_sound before rows f.fills.links sound

  -- the row that comes now has its parts among the rows
  pub row_fits : (x < 127) × (Inner (kind_at rows x) → (x + 1 < left_at rows x) × (left_at rows x < 127))
  row_fits = (omega (arith, here, now.few), λ n. let a = (now.link x here).left n in (a.up, omega (arith, a.fits, now.few)))

  pub filling_more : {after : List PlanRow} {more : List Bool} → after ≡ filled_in holes x rows → more ≡ set holes x (hole_of rows holes x) → length after ≡ 127 → length more ≡ 127 → Filling before after more end x
  filling_more {after} {more} e g long long_holes =
      let up : row ≡ x + 1 = omega arith in
      let h = subst (HolesFrom rows holes end) up f.hollow in
      let fills = subst (Fills before rows end) up f.fills in
      let l = here in
      record {
        in_range = omega arith;
        long = long;
        long_holes = long_holes;
        hollow = subst (λ (m : List PlanRow). HolesFrom m more end x) (sym e) (subst (λ (hs : List Bool). HolesFrom (filled_in holes x rows) hs end x) (sym g) (holes_more now x l f.long holes f.long_holes h));
        fills = subst (λ (m : List PlanRow). Fills before m end x) (sym e) (record {
          links = λ y. links_same now x l f.long holes f.long_holes h y ∙ fills.links y;
          masks = λ meets seen leaves. let k = fills.masks meets seen leaves in filled_more now x l f.long holes f.long_holes h meets seen k.0 k.1;
        });
      }
