-- What is known on a patch, and of a column that it has. Assumes nothing.
use Prim.Native.Nat.{ℕ, ◌+◌, ◌-◌, ◌≤◌, max}
use native.Mathlib.Omega.{arith}
use mathlib.Core.Bool.{Bool, true, false, ◌&&◌}
use mathlib.Core.Path.{◌≡◌, refl, sym, ap, subst, ◌∙◌}
use borrow.Author.Tests.{leb-true}
use lib.Dec.{leb}
use lib.IntN.{ℤ}
use Rattle.ground.specs.Lists.{any_of, rest}
use Rattle.ground.proofs.Branches.{and_left, and_right}
use Rattle.std.specs.Prelude.{if◌then◌else◌}
use Rattle.rules.specs.declared.Axis.TheVariants.{Frame}
use Rattle.rules.specs.declared.Point.{Point}
use Rattle.rules.specs.Boxes.{holds, everywhere}
use Rattle.rules.specs.ListWords.{raised}
use Rattle.laws.proofs.Ranges.{framed, x_in}
use Rattle.span.specs.declared.Stretch.{Stretch}
use Rattle.span.specs.Along.{value, code_point}
use Rattle.span.proofs.Order.{place_back}
use Rattle.margin.specs.Margins.{spot}
use Rattle.along.proofs.Walks.{none_there, one_there}
use Rattle.sweep.specs.declared.Patch.{Patch}
use Rattle.sweep.specs.Sweeps.{fill_places, Known, telling, with_hit}
use Rattle.sweep.proofs.Filled.{fill_rises}

module _ (is_inside : Point → Bool) (z : ℤ) (q : Patch) (K : Known is_inside z q) (x : ℕ) (s : Stretch) where
  abbrev test : ℕ → Bool
  test v = is_inside (spot z x v)

  abbrev in_columns : Bool
  in_columns = leb q.from x && leb x q.until

  -- by its answer: some place is shared, or the stretch lies in it
  abbrev in_codes : Bool → Bool
  in_codes t = if t then leb q.floor s.hi && leb s.lo q.roof else leb q.floor s.lo && leb s.hi q.roof

  module _ (rises : s.lo ≤ s.hi) (h : telling q x s ≡ true) where
    columns_in : (q.from ≤ x) × (x ≤ q.until)
    columns_in =
        let c = and_left in_columns (in_codes q.inside) h in
        (leb-true q.from x (and_left (leb q.from x) (leb x q.until) c), leb-true x q.until (and_right (leb q.from x) (leb x q.until) c))

    -- at a place of the patch
    there : (w : ℕ) → q.floor ≤ w → w ≤ q.roof → test w ≡ q.inside
    there w a b = K.each x w columns_in.0 columns_in.1 a b

    by_answer : (t : Bool) → q.inside ≡ t → in_codes t ≡ true → any_of test (rest s.lo (s.hi + 1)) ≡ t
    by_answer true e k =
        let low = leb-true q.floor s.hi (and_left (leb q.floor s.hi) (leb s.lo q.roof) k) in
        let high = leb-true s.lo q.roof (and_right (leb q.floor s.hi) (leb s.lo q.roof) k) in
        let some_code = K.some_code in
        let w = max q.floor s.lo in
        one_there test s.lo ((s.hi + 1) - s.lo) w (omega arith) (omega arith) (there w (omega arith) (omega arith) ∙ e)
    by_answer false e k =
        let low = leb-true q.floor s.lo (and_left (leb q.floor s.lo) (leb s.hi q.roof) k) in
        let high = leb-true s.hi q.roof (and_right (leb q.floor s.lo) (leb s.hi q.roof) k) in
        none_there test s.lo ((s.hi + 1) - s.lo) (λ w a b. there w (omega arith) (omega arith) ∙ e)

    -- a stretch that a patch tells of has its answer
    told : any_of test (rest s.lo (s.hi + 1)) ≡ q.inside
    told = by_answer q.inside refl (and_right in_columns (in_codes q.inside) h)

-- a column that a patch tells of
pub told_any : (is_inside : Point → Bool) (p : Point) (before : ℕ) → holds everywhere p ≡ true → (q : Patch) → Known is_inside p.z q
    → telling q (raised Frame p.x) (fill_places before (raised Frame p.y)) ≡ true
    → let s = fill_places before (raised Frame p.y) in q.inside ≡ any_of (λ v. is_inside (code_point p v)) (rest s.lo (s.hi + 1))
told_any is_inside p before h q K t =
    let s = fill_places before (raised Frame p.y) in
    sym (told is_inside p.z q K (raised Frame p.x) s (fill_rises before (raised Frame p.y)) t)
    ∙ ap (λ (u : ℤ). any_of (λ v. is_inside (record { x = u; y = value v; z = p.z })) (rest s.lo (s.hi + 1))) (place_back p.x (framed p.x (x_in p h)))

pub known_hit : {is_inside : Point → Bool} {z : ℤ} {q r : Patch} {h : Bool} → r ≡ with_hit q h → Known is_inside z q → Known is_inside z r
known_hit {is_inside} {z} e K = subst (Known is_inside z) (sym e) (record { some_code = K.some_code; each = K.each })

pub known_none : (is_inside : Point → Bool) (z : ℤ) → Known is_inside z (record { from = 1; until = 0; floor = 0; roof = 0; inside = false; hit = false })
known_none is_inside z = record { some_code = omega arith; each = λ a b l m. absurd (omega (arith, l, m)) }
