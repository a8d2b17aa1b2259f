-- What a change of a row's links or masks leaves alone, lines that stand among links, and a part read back. Assumes nothing.
use Rattle.std.proofs.Common.{◌≡◌, ℕ, suc, ◌+◌, ◌<◌, Bool, true, false, List, ◌∷◌, ◌++◌, eqb, length, get_or, set, Option, refl, sym, ap, ◌∙◌, arith, length-append, get_or-set_same, get_or-set_other}
use native.Mathlib.Nat.{add-zero}
use lib.ListN.{get_or-append}
use lib.Seq.{get_or-append-add}
use borrow.Author.Tests.{eqb-true, eqb-false}
use Rattle.rows.specs.declared.Links.{Links}
use Rattle.rows.specs.declared.Masks.{Masks}
use Rattle.rows.specs.declared.Part.{Part}
use Rattle.rows.specs.declared.PlanRow.{PlanRow}
use Rattle.rows.specs.Rows.{blank_row, links_at, masks_at, with_links, with_masks}
use Rattle.rows.specs.Lines.{coming_links, side_of, is_in, part_of, Stands}

module _ (rows : List PlanRow) (x : ℕ) where
  other : (row : PlanRow) (y : ℕ) → (y ≡ x → ⊥) → get_or (set rows x row) y blank_row ≡ get_or rows y blank_row
  other row y n = get_or-set_other rows x y row blank_row n

  pub row_there : (row : PlanRow) (y : ℕ) → (y ≡ x → ⊥) → (links_at (set rows x row) y ≡ links_at rows y) × (masks_at (set rows x row) y ≡ masks_at rows y)
  row_there row y n = (ap (λ (r : PlanRow). r.links) (other row y n), ap (λ (r : PlanRow). r.masks) (other row y n))

  module _ (in_range : x < length rows) where
    same : (row : PlanRow) → get_or (set rows x row) x blank_row ≡ row
    same row = get_or-set_same rows x row blank_row in_range

    pub row_here : (row : PlanRow) → (links_at (set rows x row) x ≡ row.links) × (masks_at (set rows x row) x ≡ row.masks)
    row_here row = (ap (λ (r : PlanRow). r.links) (same row), ap (λ (r : PlanRow). r.masks) (same row))

    -- links that are put change no masks, and masks no links
    pub masks_kept : (links : Links) (y : ℕ) → masks_at (with_links rows x links) y ≡ masks_at rows y
    masks_kept links y = go (eqb y x) refl
      where
        go : (b : Bool) → eqb y x ≡ b → masks_at (with_links rows x links) y ≡ masks_at rows y
        go true e =
            let z = eqb-true y x e in
            ap (masks_at (with_links rows x links)) z ∙ (row_here _).1 ∙ ap (masks_at rows) (sym z)
        go false e = (row_there _ y (eqb-false y x e)).1

    pub links_kept : (masks : Masks) (y : ℕ) → links_at (with_masks rows x masks) y ≡ links_at rows y
    links_kept masks y = go (eqb y x) refl
      where
        go : (b : Bool) → eqb y x ≡ b → links_at (with_masks rows x masks) y ≡ links_at rows y
        go true e =
            let z = eqb-true y x e in
            ap (links_at (with_masks rows x masks)) z ∙ (row_here _).0 ∙ ap (links_at rows) (sym z)
        go false e = (row_there _ y (eqb-false y x e)).0

module _ (links : ℕ → Links) where
  pub stands_first : (x : ℕ) (l : Links) (ls : List Links) → Stands links x (l ∷ ls) → links x ≡ l
  stands_first x l ls s = ap links (sym (add-zero x)) ∙ s 0 (omega arith)

  pub stands_rest : (x : ℕ) (l : Links) (ls : List Links) → Stands links x (l ∷ ls) → Stands links (x + 1) ls
  stands_rest x l ls s j h =
      let z : x + 1 + j ≡ x + suc j = omega arith in
      ap links z ∙ s (suc j) (omega arith)

  pub stands_left : (ks ls : List Links) (x : ℕ) → Stands links x (ks ++ ls) → Stands links x ks
  stands_left ks ls x s j h = s j (omega (arith, length-append ks ls)) ∙ get_or-append ks ls _ j h

  pub stands_right : (ks ls : List Links) (x y : ℕ) → x + length ks ≡ y → Stands links x (ks ++ ls) → Stands links y ls
  stands_right ks ls x y e s j h =
      let z : y + j ≡ x + (length ks + j) = omega arith in
      ap links z ∙ s (length ks + j) (omega (arith, length-append ks ls)) ∙ get_or-append-add ks ls j _

-- a part is read back from the links of the row that is to come for it
pub part_again : (part : Part) (next : ℕ) (prior : Option ℕ) → part_of (coming_links part next prior) ≡ part
part_again part next prior = go part.within refl
  where
    go : (b : Bool) → part.within ≡ b → part_of (coming_links part next prior) ≡ part
    go true e = λ i. record { row = part.row; within = (ap (λ (w : Bool). is_in (side_of w)) e ∙ sym e) i }
    go false e = λ i. record { row = part.row; within = (ap (λ (w : Bool). is_in (side_of w)) e ∙ sym e) i }
