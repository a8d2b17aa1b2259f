-- The plan of a row by its kind and its parts, and where it is blank by theirs. Assumes nothing.
use Rattle.std.proofs.Common.{◌≡◌, ℕ, zero, suc, ◌+◌, ◌-◌, ◌≤◌, ◌<◌, ◌&&◌, ◌||◌, List, refl, sym, ap, ap₂, ◌∙◌, subst, arith}
use mathlib.Core.Path.{fun_ext}
use Rattle.laws.specs.Plans.{Plan, with_it, without, either, both, blank}
use Rattle.rows.specs.declared.RowKind.{RowKind}
use Rattle.rows.specs.declared.RowKind.TheVariants.{With, Without, Either, Both}
use Rattle.rows.specs.declared.Links.{Links}
use Rattle.rows.specs.declared.PlanRow.{PlanRow}
use Rattle.rows.specs.Rows.{links_at, kind_at, left_at, shape, plan_to, plan_in, Inner, SoundLink, SoundLinks}

shape_cong : (kind : RowKind) (i : ℕ) (a a' b b' : Plan) → (Inner kind → (a ≡ a') × (b ≡ b')) → shape kind i a b ≡ shape kind i a' b'
shape_cong With i a a' b b' h = refl
shape_cong Without i a a' b b' h = refl
shape_cong Either i a a' b b' h = ap₂ either (h tt).0 (h tt).1
shape_cong Both i a a' b b' h = ap₂ both (h tt).0 (h tt).1

-- what a kind is known to be tells whether it has parts
pub inner_by : {kind : RowKind} (known : RowKind) → kind ≡ known → Inner known → Inner kind
inner_by known e i = subst Inner (sym e) i

-- rows with the same links have the same plans, and are sound together
module _ (rows more : List PlanRow) (same : (y : ℕ) → links_at more y ≡ links_at rows y) where
  pub same_plan : (x : ℕ) → plan_in more x ≡ plan_in rows x
  unfolding plan_in
  same_plan x = ap (λ (links : ℕ → Links). plan_to (127 - x) links x) (fun_ext same)

  pub same_sound : {end : ℕ} → SoundLinks rows end → SoundLinks more end
  same_sound {end} s = record { some = s.some; few = s.few; link = λ x l. subst (λ (k : Links). SoundLink k end x) (sym (same x)) (s.link x l) }

module _ {rows : List PlanRow} {end : ℕ} (s : SoundLinks rows end) where
  abbrev links : ℕ → Links
  links = links_at rows

  -- any depth past the rows gives the same plan
  deep : (f h x : ℕ) → x < end → end ≤ x + f → end ≤ x + h → plan_to f links x ≡ plan_to h links x
  unfolding plan_to
  deep zero h x l p q = absurd (omega arith)
  deep (suc f) zero x l p q = absurd (omega arith)
  deep (suc f) (suc h) x l p q =
      shape_cong (kind_at rows x) (left_at rows x) _ _ _ _
      (λ n. let a = (s.link x l).left n in
      (deep f h (left_at rows x) a.fits (omega arith) (omega arith), deep f h (x + 1) (omega arith) (omega arith) (omega arith)))

  module _ {x : ℕ} (l : x < end) where
    plan_row : plan_in rows x ≡ shape (kind_at rows x) (left_at rows x) (plan_in rows (left_at rows x)) (plan_in rows (x + 1))
    unfolding plan_in plan_to
    plan_row =
        let few : end ≤ 127 = s.few in
        let d : 127 - x ≡ suc (127 - x - 1) = omega arith in
        ap (λ (f : ℕ). plan_to f links x) d
        ∙ shape_cong (kind_at rows x) (left_at rows x) _ _ _ _
        (λ n. let a = (s.link x l).left n in
        (deep (127 - x - 1) (127 - left_at rows x) (left_at rows x) a.fits (omega arith) (omega arith), deep (127 - x - 1) (127 - (x + 1)) (x + 1) (omega arith) (omega arith) (omega arith)))

    by_kind : {kind : RowKind} → kind_at rows x ≡ kind → plan_in rows x ≡ shape kind (left_at rows x) (plan_in rows (left_at rows x)) (plan_in rows (x + 1))
    by_kind e = plan_row ∙ ap (λ (k : RowKind). shape k (left_at rows x) (plan_in rows (left_at rows x)) (plan_in rows (x + 1))) e

    pub plan_with : kind_at rows x ≡ With → plan_in rows x ≡ with_it (left_at rows x)
    plan_with h = by_kind h

    pub plan_without : kind_at rows x ≡ Without → plan_in rows x ≡ without (left_at rows x)
    plan_without h = by_kind h

    pub plan_either : kind_at rows x ≡ Either → plan_in rows x ≡ either (plan_in rows (left_at rows x)) (plan_in rows (x + 1))
    plan_either h = by_kind h

    pub plan_both : kind_at rows x ≡ Both → plan_in rows x ≡ both (plan_in rows (left_at rows x)) (plan_in rows (x + 1))
    plan_both h = by_kind h

    -- ---- a row with two parts
    pub blank_either : (R : ℕ) → kind_at rows x ≡ Either → blank (plan_in rows x) R ≡ (blank (plan_in rows (left_at rows x)) R || blank (plan_in rows (x + 1)) R)
    unfolding blank
    blank_either R h = ap (λ (p : Plan). blank p R) (plan_either h)

    pub blank_both : (R : ℕ) → kind_at rows x ≡ Both → blank (plan_in rows x) R ≡ (blank (plan_in rows (left_at rows x)) R && blank (plan_in rows (x + 1)) R)
    unfolding blank
    blank_both R h = ap (λ (p : Plan). blank p R) (plan_both h)
