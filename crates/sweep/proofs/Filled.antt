-- What a column holds, in places: the codes of a span are the values of a stretch. Assumes nothing.
use Prim.Native.Nat.{ℕ, zero, suc, ◌+◌, ◌-◌, ◌≤◌, ◌<◌}
use native.Mathlib.Nat.{add-zero}
use native.Mathlib.Decide.{dec_le}
use native.Mathlib.Omega.{arith}
use mathlib.Core.Bool.{Bool, true, false, not, ◌||◌}
use mathlib.Core.List.{List}
use mathlib.Core.Path.{◌≡◌, refl, sym, ap, ap₂, ◌∙◌}
use borrow.Author.Tests.{ltb-true, le-leb, lt-leb, le-ltb, lt-ltb}
use lib.Dec.{leb, ltb}
use lib.IntN.{ℤ, pos, nat_abs, ◌+ℤ◌, ◌-ℤ◌}
use lib.Signed.{lt_z}
use Rattle.ground.specs.Lists.{from, rest, below, any_of}
use Rattle.std.specs.Prelude.{if◌then◌else◌}
use Rattle.ground.proofs.Differences.{le_parts}
use Rattle.ground.proofs.Lists.{any_mapped}
use Rattle.rules.specs.declared.Axis.TheVariants.{Frame}
use Rattle.rules.specs.declared.Place.{Place}
use Rattle.rules.specs.declared.Point.{Point}
use Rattle.rules.specs.Frame.{code_at, point_of, fill, sample_inside}
use Rattle.rules.specs.ListWords.{offset, raised}
use Rattle.rules.specs.Ranges.{Span, within, upwards, columns}
use Rattle.laws.proofs.Ranges.{framed}
use Rattle.laws.proofs.Traces.{less_not, held_from}
use Rattle.span.specs.declared.Stretch.{Stretch}
use Rattle.span.specs.Along.{value, code_point}
use Rattle.span.proofs.Order.{place_back, value_parts, value_on, value_back, values_apart}
use Rattle.sweep.specs.Sweeps.{fill_places}

-- ---- values of places

lt_values : (a b : ℕ) → lt_z (value a) (value b) ≡ ltb a b
lt_values a b = less_not (value a) (value b) ∙ ap not (le_parts (value_parts b) (value_parts a)) ∙ go (dec_le b a)
  where
    above : ℕ → ℕ
    above v = v + 0 + (0 + offset Frame)

    go : Dec (b ≤ a) → not (leb (above b) (above a)) ≡ ltb a b
    go (yes l) = ap not (le-leb (above b) (above a) (omega arith)) ∙ sym (le-ltb a b l)
    go (no l) = ap not (lt-leb (above b) (above a) (omega arith)) ∙ sym (lt-ltb a b (omega arith))

-- ---- what is filled

abbrev values : Stretch → Span
values s = record { lo = value s.lo; hi = value s.hi }

module _ (a b : ℕ) where
  -- what is so of each of the three, where it is the one, is so of what is filled
  by_slope : (P : Bool → Bool → Stretch → Type 0) → (a < b → P true (ltb b a) (record { lo = a + 1; hi = b })) → (b < a → P false true (record { lo = b; hi = a - 1 }))
      → P false false (record { lo = b; hi = b }) → P (ltb a b) (ltb b a) (fill_places a b)
  by_slope P up down level = go (ltb a b) (ltb b a) (ltb-true a b) (ltb-true b a) up
    where
      go : (s t : Bool) → (s ≡ true → a < b) → (t ≡ true → b < a) → (a < b → P true t (record { lo = a + 1; hi = b }))
          → P s t (if s then record { lo = a + 1; hi = b } else (if t then record { lo = b; hi = a - 1 } else record { lo = b; hi = b }))
      go true t f g rising = rising (f refl)
      go false true f g rising = down (g refl)
      go false false f g rising = level

  fill_values : fill (value a) (value b) ≡ values (fill_places a b)
  fill_values =
      ap₂ slopes (lt_values a b) (lt_values b a)
      ∙ by_slope (λ s t r. slopes s t ≡ values r) (λ l i. record { lo = value_on a 1 i; hi = value b }) (λ l i. record { lo = value b; hi = value_back a 1 (omega arith) i }) refl
    where
      slopes : Bool → Bool → Span
      slopes s t = if s then record { lo = value a +ℤ pos 1; hi = value b } else (if t then record { lo = value b; hi = value a -ℤ pos 1 } else record { lo = value b; hi = value b })

  -- it is not empty, and goes no higher than the two
  pub fill_rises : (fill_places a b).lo ≤ (fill_places a b).hi
  fill_rises = by_slope (λ s t r. r.lo ≤ r.hi) (λ l. omega arith) (λ l. omega arith) (omega arith)

  pub fill_below : (n : ℕ) → a < n → b < n → (fill_places a b).hi < n
  fill_below n h k = by_slope (λ s t r. r.hi < n) (λ l. k) (λ l. omega arith) k

-- ---- its codes

any_shifted : (g : ℕ → Bool) (lo start n : ℕ) → any_of (λ i. g (lo + i)) (from start n) ≡ any_of g (from (lo + start) n)
unfolding any_of from
any_shifted g lo start zero = refl
any_shifted g lo start (suc n) =
    let on : lo + suc start ≡ suc (lo + start) = omega arith in
    ap (λ (b : Bool). g (lo + start) || b) (any_shifted g lo (suc start) n ∙ ap (λ (k : ℕ). any_of g (from k n)) on)

codes_any : (test : ℤ → Bool) (s : Stretch) → s.lo ≤ s.hi → any_of test (upwards (values s)) ≡ any_of (λ v. test (value v)) (rest s.lo (s.hi + 1))
codes_any test s l =
    let lo = s.lo in
    let hi = s.hi in
    let many = suc (nat_abs (value hi -ℤ value lo)) in
    let n : many ≡ (hi + 1) - lo = omega (arith, values_apart lo hi l) in
    any_mapped test (λ i. value lo +ℤ pos i) (below many)
    ∙ (λ j. any_of (λ i. test (value_on lo i j)) (below many))
    ∙ any_shifted (λ v. test (value v)) lo 0 many
    ∙ (λ i. any_of (λ v. test (value v)) (from (add-zero lo i) (n i)))

-- ---- a sample

-- sample k is inside when some place of what its column holds is
pub sample_places : (is_inside : Point → Bool) (samples : List ℤ) (place : Place) (k : ℕ) → within columns (code_at samples (k - 1)) ≡ true → within columns (code_at samples k) ≡ true
    → let s = fill_places (raised Frame (code_at samples (k - 1))) (raised Frame (code_at samples k)) in
    sample_inside is_inside samples place k ≡ any_of (λ v. is_inside (code_point (point_of place k (code_at samples k)) v)) (rest s.lo (s.hi + 1))
sample_places is_inside samples place k g h =
    let a = code_at samples (k - 1) in
    let b = code_at samples k in
    let test : ℤ → Bool = λ code. is_inside (point_of place k code) in
    ap (λ (s : Span). any_of test (upwards s))
    (held_from samples k ∙ sym (ap₂ fill (place_back a (framed a g)) (place_back b (framed b h))) ∙ fill_values (raised Frame a) (raised Frame b))
    ∙ codes_any test (fill_places (raised Frame a) (raised Frame b)) (fill_rises (raised Frame a) (raised Frame b))
