-- How many choices there are, and the numbers of primitives, fit a word of 64 bits in a sound table. Assumes nothing.
use Prim.Native.Nat.{ℕ, ◌+◌, ◌*◌, ◌/◌, ◌%◌, ◌^◌, ◌≤◌, ◌<◌, min, max}
use native.Mathlib.Nat.{mul-le-mul_left, mul-le-mul_right, mul_comm, two-mul, lt_of_lt_of_le, mod-lt, add-zero, zero-add, one-mul}
use native.Mathlib.Omega.{arith}
use mathlib.Core.List.{List}
use mathlib.Core.Option.{some}
use mathlib.Core.Path.{◌≡◌, sym, ap, ◌∙◌}
use lib.Arith.{bin_ind, digits_lt}
use lib.Bits.{bit_and, bit_or, and_step, or_step, and_shr, or_shr, or_zero_l}
use lib.Count.{ones, ones_in, ones_step, ones_cat, ones-le}
use lib.IntN.{ℤ}
use lib.ListN.{length}
use lib.Pow.{pow-add, pow_mono, pow_pos}
use Rattle.rules.specs.declared.Primitive.{Primitive}
use Rattle.rules.specs.declared.Row.TheVariants.{Solid}
use Rattle.rules.specs.Table.{row_count, row_at, primitives_before, primitives}
use Rattle.rules.specs.Tree.{tree_at}
use Rattle.rules.specs.Choices.{Side}
use Rattle.laws.specs.Plans.{Plan, with_it, without, either, both, plan, count, mask, Apart}
use Rattle.laws.specs.Sound.{Sound}
use Rattle.laws.proofs.Apart.{table_apart, mask_in_table, few_primitives, number_below}

-- ---- a plan has fewer choices than its primitives have subsets

unfoldable pub leaves : Plan → ℕ
leaves (with_it i) = 1
leaves (without i) = 1
leaves (either a b) = leaves a + leaves b
leaves (both a b) = leaves a + leaves b

some_leaf : (p : Plan) → 1 ≤ leaves p
unfolding leaves
some_leaf (with_it i) = omega arith
some_leaf (without i) = omega arith
some_leaf (either a b) = omega (arith, some_leaf a)
some_leaf (both a b) = omega (arith, some_leaf a)

module _ (a b x y : ℕ) (l : a < x) (m : b < y) where
  sum_below : 2 ≤ x → 2 ≤ y → a + b < x * y
  sum_below p q = omega (arith, mul-le-mul_left x q, mul-le-mul_right y p, mul_comm x 2, two-mul y, two-mul x)

  product_below : a * b < x * y
  product_below =
      let u : a * b ≤ a * y = mul-le-mul_left a (omega arith) in
      let v : a * y + b < x * y = digits_lt l m in
      omega arith

count_below : (p : Plan) → count p < 2 ^ leaves p
unfolding count leaves
count_below (with_it i) = omega arith
count_below (without i) = omega arith
count_below (either a b) =
    rw (pow-add 2 (leaves a) (leaves b))
    (sum_below (count a) (count b) (2 ^ leaves a) (2 ^ leaves b) (count_below a) (count_below b) (pow_mono (some_leaf a)) (pow_mono (some_leaf b)))
count_below (both a b) =
    rw (pow-add 2 (leaves a) (leaves b)) (product_below (count a) (count b) (2 ^ leaves a) (2 ^ leaves b) (count_below a) (count_below b))

-- ---- where no primitive stands twice, the leaves are as many as the primitives

ones_or : (a b : ℕ) → bit_and a b ≡ 0 → ones (bit_or a b) ≡ ones a + ones b
unfolding ones ones_in
ones_or = bin_ind (λ (n : ℕ). (b : ℕ) → bit_and n b ≡ 0 → ones (bit_or n b) ≡ ones n + ones b)
    (λ b h. ap ones (or_zero_l b) ∙ sym (zero-add (ones b)))
    (λ n rest b h.
    let e : ones (bit_or (n / 2) (b / 2)) ≡ ones (n / 2) + ones (b / 2) = rest (b / 2) (sym (and_shr n b 1) ∙ ap (λ (x : ℕ). x / 2) h) in
    let s : ones (bit_or n b) ≡ bit_or n b % 2 + ones (bit_or n b / 2) = ones_step (bit_or n b) in
    let d : ones (bit_or n b / 2) ≡ ones (bit_or (n / 2) (b / 2)) = ap ones (or_shr n b 1) in
    let o : bit_or n b ≡ bit_or (n / 2) (b / 2) * 2 + max (n % 2) (b % 2) = or_step n b in
    let z : bit_and n b ≡ bit_and (n / 2) (b / 2) * 2 + min (n % 2) (b % 2) = and_step n b in
    omega (arith, ones_step n, ones_step b, mod-lt n {m = 2} (omega arith), mod-lt b {m = 2} (omega arith)))

ones_one : (i : ℕ) → ones (2 ^ i) ≡ 1
unfolding ones ones_in
ones_one i = ap ones (sym (add-zero (1 * 2 ^ i) ∙ one-mul (2 ^ i))) ∙ ones_cat i 1 0 (pow_pos i)

pub leaves_ones : (p : Plan) → Apart p → leaves p ≡ ones (mask p)
unfolding leaves mask Apart
leaves_ones (with_it i) h = sym (ones_one i)
leaves_ones (without i) h = sym (ones_one i)
leaves_ones (either a b) h = omega (arith, leaves_ones a h.1.0, leaves_ones b h.1.1, ones_or (mask a) (mask b) h.0)
leaves_ones (both a b) h = omega (arith, leaves_ones a h.1.0, leaves_ones b h.1.1, ones_or (mask a) (mask b) h.0)

pub count_fits : (p : Plan) (n : ℕ) → Apart p → mask p < 2 ^ n → count p < 2 ^ n
count_fits p n h m = lt_of_lt_of_le (count_below p) (pow_mono (rw (leaves_ones p h) (ones-le n (mask p) m)))

-- ---- in a sound table

module _ (t : List ℤ) (S : Sound t) (row : ℕ) (l : row < row_count t) where
  pub expansion_fits : (s : Side) → count (plan s (tree_at t row)) < 2 ^ 64
  expansion_fits s =
      lt_of_lt_of_le (count_fits (plan s (tree_at t row)) (length (primitives t)) (table_apart t S row l s) (mask_in_table t S row l s))
      (pow_mono (few_primitives t S))

  pub number_fits : {p : Primitive} → row_at t row ≡ some (Solid p) → length (primitives_before t row) < 64
  number_fits e = lt_of_lt_of_le (number_below t S row l e) (few_primitives t S)
