-- What a row that was read is on each side, and counts that stay right as more are remembered. Assumes nothing.
use Prim.Native.Nat.{ℕ, zero, suc, ◌+◌, ◌*◌, ◌^◌, ◌<◌}
use native.Mathlib.Decide.{ℕ_discrete}
use native.Mathlib.Nat.{eq-or-lt_of_le}
use native.Mathlib.Numerals.{add-one}
use native.Mathlib.Omega.{arith}
use mathlib.Core.Bool.{Bool, true, false}
use mathlib.Core.List.{List, [], cons≢nil}
use mathlib.Core.Logic.{◌⊎◌, inl, inr, ⊎_elim}
use mathlib.Core.Option.{some}
use mathlib.Core.Path.{◌≡◌, refl, sym, ap, ap₂, subst, ◌∙◌}
use lib.IntN.{ℤ}
use lib.ListN.{length, get_or, set, replicate, length-set, length-replicate}
use lib.Seq.{get_or-set_same, get_or-set_other}
use mir.Syntax.{w64}
use mir.Val.{Fits}
use Rattle.rules.specs.declared.Primitive.{Primitive}
use Rattle.rules.specs.declared.Row.{Row}
use Rattle.rules.specs.declared.Row.TheVariants.{Solid, Union, Inter, Diff}
use Rattle.rules.specs.Table.{row_count, row_at, solid_of, primitives_before}
use Rattle.rules.specs.Choices.{in_of, expansion}
use Rattle.rules.specs.Tree.{row_tree, tree_at, tree_of}
use Rattle.laws.specs.Sound.{Sound}
use Rattle.laws.specs.Plans.{Plan, either, both, plan, count}
use Rattle.laws.proofs.Apart.{next_before}
use Rattle.laws.proofs.Expansion.{expansion_fits}
use Rattle.laws.proofs.Trees.{read_right, read_tree}
use Rattle.laws.proofs.Ways.{choices_ways, ways_count}
use Rattle.choice.specs.declared.Step.{Step}
use Rattle.choice.specs.declared.Step.TheVariants.{With, Without, Either, Both}
use Rattle.choice.specs.Steps.{side_of, plan_at, root_plan, IsStep, NumberedTo, Numbered, slot_of, Remembered}

-- ---- a row that was read as r

module _ {t : List ℤ} (S : Sound t) {row : ℕ} (l : row < row_count t) {x : Row} (e : some x ≡ row_at t row) where
  on_side : {r : Row} → x ≡ r → {within side : Bool} → within ≡ side
      → plan_at t row within ≡ plan (side_of side) (row_tree (length (primitives_before t row)) (tree_at t) (some r))
  unfolding plan_at
  on_side g w = λ i. plan (side_of (w i)) (read_tree S l e g i)

  module _ {s : Primitive} (g : x ≡ Solid s) {bits : List ℕ} (N : Numbered t bits) {within : Bool} where
    pub solid_in : within ≡ true → IsStep t row (plan_at t row within) (With (get_or bits row 0))
    unfolding plan
    solid_in w = (length (primitives_before t row), on_side g w, N.bit row l s (sym e ∙ ap some g))

    pub solid_out : within ≡ false → IsStep t row (plan_at t row within) (Without (get_or bits row 0))
    unfolding plan
    solid_out w = (length (primitives_before t row), on_side g w, N.bit row l s (sym e ∙ ap some g))

  module _ {a b : ℕ} {within : Bool} where
    pub union_in : x ≡ Union a b → within ≡ true → IsStep t row (plan_at t row within) (Either a true b true)
    unfolding plan plan_at
    union_in g w = let r = read_right S l e g in (on_side g w, r.0, r.1)

    pub union_out : x ≡ Union a b → within ≡ false → IsStep t row (plan_at t row within) (Both a false b false)
    unfolding plan plan_at
    union_out g w = let r = read_right S l e g in (on_side g w, r.0, r.1)

    pub inter_in : x ≡ Inter a b → within ≡ true → IsStep t row (plan_at t row within) (Both a true b true)
    unfolding plan plan_at
    inter_in g w = let r = read_right S l e g in (on_side g w, r.0, r.1)

    pub inter_out : x ≡ Inter a b → within ≡ false → IsStep t row (plan_at t row within) (Either a false b false)
    unfolding plan plan_at
    inter_out g w = let r = read_right S l e g in (on_side g w, r.0, r.1)

    pub diff_in : x ≡ Diff a b → within ≡ true → IsStep t row (plan_at t row within) (Both a true b false)
    unfolding plan plan_at
    diff_in g w = let r = read_right S l e g in (on_side g w, r.0, r.1)

    pub diff_out : x ≡ Diff a b → within ≡ false → IsStep t row (plan_at t row within) (Either a false b true)
    unfolding plan plan_at
    diff_out g w = let r = read_right S l e g in (on_side g w, r.0, r.1)

-- ---- what is remembered

pub slot_fits : (row : ℕ) (within : Bool) → row < 127 → slot_of row within < 254
slot_fits row true h = omega arith
slot_fits row false h = omega arith

-- two rows below 127 share a slot only if they are one, on one side
slot_once : (row q : ℕ) (r s : Bool) → row < 127 → q < 127 → slot_of row r ≡ slot_of q s → (row ≡ q) × (r ≡ s)
slot_once row q true true h k e = (e, refl)
slot_once row q true false h k e = absurd (omega arith)
slot_once row q false true h k e = absurd (omega arith)
slot_once row q false false h k e = (omega arith, refl)

module _ {t : List ℤ} (S : Sound t) {counts : List ℕ} (R : Remembered t counts) {row : ℕ} (l : row < row_count t) (within : Bool) where
  pub in_counts : slot_of row within < length counts
  in_counts = omega (arith, slot_fits row within (omega (arith, S.not_over)), R.size)

  -- a count that is there
  pub known_right : {n : ℕ} → get_or counts (slot_of row within) 0 ≡ n → (n ≡ 0 → ⊥) → n ≡ count (plan_at t row within)
  known_right e there = ⊎_elim (λ z. absurd (there (sym e ∙ z))) (λ z. sym e ∙ z) (R.right row l within)

  -- one more
  pub remembered_more : {n : ℕ} → n ≡ count (plan_at t row within) → Remembered t (set counts (slot_of row within) n)
  remembered_more {n} e = record {
    size = length-set counts (slot_of row within) n ∙ R.size;
    right = λ q k side. go q k side (ℕ_discrete (slot_of q side) (slot_of row within));
  }
    where
      go : (q : ℕ) → q < row_count t → (side : Bool) → Dec (slot_of q side ≡ slot_of row within)
          → (get_or (set counts (slot_of row within) n) (slot_of q side) 0 ≡ 0) ⊎ (get_or (set counts (slot_of row within) n) (slot_of q side) 0 ≡ count (plan_at t q side))
      go q k side (yes d) =
          let same = slot_once q row side within (omega (arith, S.not_over)) (omega (arith, S.not_over)) d in
          inr (ap (λ (j : ℕ). get_or (set counts (slot_of row within) n) j 0) d
          ∙ get_or-set_same counts (slot_of row within) n 0 in_counts ∙ e ∙ sym (ap₂ (λ (r : ℕ) (s : Bool). count (plan_at t r s)) same.0 same.1))
      go q k side (no d) =
          let other = get_or-set_other counts (slot_of row within) (slot_of q side) n 0 d in
          ⊎_elim (λ z. inl (other ∙ z)) (λ z. inr (other ∙ z)) (R.right q k side)

-- no count is there yet
pub nothing_remembered : (t : List ℤ) → Remembered t (replicate 254 0)
nothing_remembered t = record {
  size = length-replicate {A = ℕ} 254 0;
  right = λ row l within. inl (replicate_default 254 (slot_of row within));
}
  where
    replicate_default : (n i : ℕ) → ◌≡◌ {A = ℕ} (get_or (replicate n 0) i 0) 0
    replicate_default zero i = refl
    replicate_default (suc n) zero = refl
    replicate_default (suc n) (suc i) = replicate_default n i

-- ---- calls for an earlier row

-- what such a call asks; Q is what else it is lent
pub asks : {limit row a : ℕ} {t : List ℤ} {Q : Type 0} → row ≡ limit → Sound t → row < row_count t → a < row → Q → (a < limit) × (Sound t × ((a < row_count t) × Q))
asks e s b l q = (omega (arith, e), (s, (omega (arith, b), q)))

-- an answer that was remembered
pub stored : {t : List ℤ} (S : Sound t) {counts after : List ℕ} → Remembered t counts → {row : ℕ} → row < row_count t → (within : Bool) → {at n r : ℕ}
    → at ≡ slot_of row within → n ≡ count (plan_at t row within) → (r ≡ n) × (after ≡ set counts at n) → (r ≡ count (plan_at t row within)) × Remembered t after
stored {t} S {counts} R l within {at} {n} e k h =
    (h.0 ∙ k, subst (Remembered t) (sym (h.1 ∙ ap (λ (j : ℕ). set counts j n) e)) (remembered_more S R l within k))

-- the count of two parts
pub count_either : {p a b : Plan} {x y : ℕ} → p ≡ either a b → x ≡ count a → y ≡ count b → x + y ≡ count p
unfolding count
count_either e h k = (λ i. h i + k i) ∙ sym (ap count e)

pub count_both : {p a b : Plan} {x y : ℕ} → p ≡ both a b → x ≡ count a → y ≡ count b → x * y ≡ count p
unfolding count
count_both e h k = (λ i. h i * k i) ∙ sym (ap count e)

pub count_fits_word : {t : List ℤ} → Sound t → {row : ℕ} → row < row_count t → (within : Bool) → {n : ℕ} → n ≡ count (plan_at t row within) → Fits w64 n
unfolding plan_at
count_fits_word {t} S {row} l within e = record { fits = subst (λ (n : ℕ). n < 2 ^ 64) (sym e) (expansion_fits t S row l (side_of within)) }

-- a step that was read, once it is known which it is
pub as_step : (t : List ℤ) (row : ℕ) (p : Plan) {x r : Step} → IsStep t row p x → x ≡ r → IsStep t row p r
as_step t row p h g = subst (IsStep t row p) g h

-- ---- the count of the root's ways is the expansion count

pub expansion_ways : (t : List ℤ) → expansion (tree_of t) ≡ count (root_plan t)
unfolding plan_at
expansion_ways t = ap length (choices_ways in_of (tree_of t)) ∙ ways_count (plan in_of (tree_of t))

-- ---- bits, row by row

-- how many primitives there are up to a row that has been looked at
pub number_next : {t : List ℤ} (S : Sound t) (row : ℕ) {met : List Primitive} → solid_of (row_at t row) ≡ met → length (primitives_before t row) + length met ≡ length (primitives_before t (row + 1))
number_next {t} S row e =
    sym (ap (λ (q : ℕ). length (primitives_before t q)) (add-one row) ∙ next_before t S row ∙ ap (λ (met : List Primitive). length (primitives_before t row) + length met) e)

module _ {t : List ℤ} {bits : List ℕ} {row : ℕ} (N : NumberedTo t bits row) where
  last_or_before : (q : ℕ) → q < row + 1 → (q ≡ row) ⊎ (q < row)
  last_or_before q h = eq-or-lt_of_le (omega arith)

  -- a row that is no primitive has no bit
  pub numbered_on : solid_of (row_at t row) ≡ [] → NumberedTo t bits (row + 1)
  numbered_on none = record {
    size = N.size;
    bit = λ q h s k. ⊎_elim
        (λ same. absurd (cons≢nil (sym (ap solid_of (ap (row_at t) (sym same) ∙ k)) ∙ none)))
        (λ l. N.bit q l s k) (last_or_before q h);
  }

  pub numbered_more : row < 127 → {n m : ℕ} → n ≡ length (primitives_before t row) → m ≡ 2 ^ n → NumberedTo t (set bits row m) (row + 1)
  numbered_more l {n} {m} e g = record {
    size = length-set bits row m ∙ N.size;
    bit = λ q h s k. ⊎_elim
        (λ same. ap (λ (j : ℕ). get_or (set bits row m) j 0) same ∙ get_or-set_same bits row m 0 (omega (arith, N.size)) ∙ g
        ∙ ap (λ (j : ℕ). 2 ^ j) e ∙ ap (λ (r : ℕ). 2 ^ length (primitives_before t r)) (sym same))
        (λ b. get_or-set_other bits row q m 0 (λ same. omega arith) ∙ N.bit q b s k) (last_or_before q h);
  }
