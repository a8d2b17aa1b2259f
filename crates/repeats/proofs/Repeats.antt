-- Where a row is blank or a choice of it is a repeat, by its kind and its parts. Assumes nothing.
use Rattle.std.proofs.Common.{◌≡◌, ℕ, ◌+◌, ◌-◌, ◌<◌, Bool, true, false, ◌&&◌, ◌||◌, List, eqb, refl, sym, ap, ap₂, ◌∙◌, arith}
use lib.Bits.{bit_and}
use Rattle.std.proofs.Math.Bool.{or_comm}
use Rattle.std.specs.Prelude.{if◌then◌else◌}
use Rattle.laws.specs.Plans.{Plan, with_it, without, either, both, mask, blank}
use Rattle.rows.specs.Masks.{risk}
use Rattle.rows.specs.declared.RowKind.{RowKind}
use Rattle.rows.specs.declared.RowKind.TheVariants.{With, Without, Either, Both}
use Rattle.rows.specs.declared.PlanRow.{PlanRow}
use Rattle.rows.specs.Rows.{kind_at, left_at, below_at, risk_at, plan_in, Inner, Later, InRows}
use Rattle.repeats.specs.Repeats.{clear, safe, stale}
use Rattle.rows.proofs.Rows.{plan_with, plan_without, plan_either, plan_both, inner_by, blank_either, blank_both}

module _ {rows : List PlanRow} {x : ℕ} (i : InRows rows x) where
  pub in_few : x < 127
  in_few = omega (arith, i.here, i.sound.linked.few)

  -- ---- from a row to its parts: each is nearer to the last of 127 rows
  module _ {kind : RowKind} (k : kind_at rows x ≡ kind) (n : Inner kind) where
    later : Later i.end x (left_at rows x)
    later = (i.sound.linked.link x i.here).left (inner_by kind k n)

    pub into_left : (127 - left_at rows x < 127 - x) × InRows rows (left_at rows x)
    into_left =
        let a = later in
        (omega (arith, a.up, a.fits, i.sound.linked.few), record { end = i.end; sound = i.sound; here = a.fits })

    pub into_right : (127 - (x + 1) < 127 - x) × InRows rows (x + 1)
    into_right =
        let a = later in
        (omega (arith, in_few), record { end = i.end; sound = i.sound; here = omega (arith, a.up, a.fits) })

  -- ---- where it is blank
  pub blank_with : (R : ℕ) → kind_at rows x ≡ With → blank (plan_in rows x) R ≡ false
  unfolding blank
  blank_with R h = ap (λ (p : Plan). blank p R) (plan_with i.sound.linked i.here h)

  pub blank_without : (R : ℕ) → kind_at rows x ≡ Without → blank (plan_in rows x) R ≡ eqb (bit_and (below_at rows x) R) 0
  unfolding blank mask
  blank_without R h =
      let p = plan_without i.sound.linked i.here h in
      ap (λ (q : Plan). blank q R) p ∙ ap (λ (m : ℕ). eqb (bit_and m R) 0) (sym ((i.sound.masked x i.here).below ∙ ap mask p))

  pub blank_by_either : (R : ℕ) → kind_at rows x ≡ Either → blank (plan_in rows x) R ≡ (blank (plan_in rows (left_at rows x)) R || blank (plan_in rows (x + 1)) R)
  blank_by_either R h = blank_either i.sound.linked i.here R h

  pub blank_by_both : (R : ℕ) → kind_at rows x ≡ Both → blank (plan_in rows x) R ≡ (blank (plan_in rows (left_at rows x)) R && blank (plan_in rows (x + 1)) R)
  blank_by_both R h = blank_both i.sound.linked i.here R h

  -- ---- where a choice is a repeat
  module _ (P N R : ℕ) where
    pub stale_with : kind_at rows x ≡ With → stale (plan_in rows x) P N R ≡ false
    unfolding stale
    stale_with h = ap (λ (p : Plan). stale p P N R) (plan_with i.sound.linked i.here h)

    pub stale_without : kind_at rows x ≡ Without → stale (plan_in rows x) P N R ≡ false
    unfolding stale
    stale_without h = ap (λ (p : Plan). stale p P N R) (plan_without i.sound.linked i.here h)

    pub stale_safe : safe (risk_at rows x) N R ≡ true → stale (plan_in rows x) P N R ≡ false
    unfolding stale
    stale_safe h = go (plan_in rows x) (ap (λ (m : ℕ). safe m N R) (sym (i.sound.masked x i.here).risky) ∙ h)
      where
        go : (p : Plan) → safe (risk p) N R ≡ true → stale p P N R ≡ false
        go (with_it i) q = refl
        go (without i) q = refl
        go (either a b) q = rw q
        go (both a b) q = rw q

    module _ (q : safe (risk_at rows x) N R ≡ false) where
      unsafe : (p : Plan) → plan_in rows x ≡ p → safe (risk p) N R ≡ false
      unsafe p h = ap (λ (m : ℕ). safe m N R) (ap risk (sym h) ∙ sym (i.sound.masked x i.here).risky) ∙ q

      pub stale_either : kind_at rows x ≡ Either → stale (plan_in rows x) P N R
          ≡ if◌then◌else◌ (clear (below_at rows (left_at rows x)) P N) ((clear (below_at rows (x + 1)) P (bit_and N R) && blank (plan_in rows (left_at rows x)) R) || stale (plan_in rows (x + 1)) P N R) (stale (plan_in rows (left_at rows x)) P N R)
      unfolding stale
      stale_either h =
          let a = later h tt in
          let p = plan_either i.sound.linked i.here h in
          let u = plan_in rows (left_at rows x) in
          let v = plan_in rows (x + 1) in
          ap (λ (r : Plan). stale r P N R) p
          ∙ ap (λ (t : Bool). if◌then◌else◌ t false (if◌then◌else◌ (clear (mask u) P N) ((clear (mask v) P (bit_and N R) && blank u R) || stale v P N R) (stale u P N R))) (unsafe _ p)
          ∙ ap₂ (λ (m n : ℕ). if◌then◌else◌ (clear m P N) ((clear n P (bit_and N R) && blank u R) || stale v P N R) (stale u P N R))
          (sym (i.sound.masked (left_at rows x) a.fits).below) (sym (i.sound.masked (x + 1) (omega (arith, a.up, a.fits))).below)

      pub stale_both : kind_at rows x ≡ Both → stale (plan_in rows x) P N R ≡ (stale (plan_in rows (x + 1)) P N R || stale (plan_in rows (left_at rows x)) P N R)
      unfolding stale
      stale_both h =
          let p = plan_both i.sound.linked i.here h in
          let u = plan_in rows (left_at rows x) in
          let v = plan_in rows (x + 1) in
          ap (λ (r : Plan). stale r P N R) p
          ∙ ap (λ (t : Bool). if◌then◌else◌ t false (stale u P N R || stale v P N R)) (unsafe _ p)
          ∙ or_comm (stale u P N R) (stale v P N R)
