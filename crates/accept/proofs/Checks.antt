-- The code's tests of a list are the rules' tests; and checks one after the other are one check by all their rules. Assumes nothing.
use Prim.Native.Nat.{ℕ, suc, ◌+◌, ◌-◌, ◌*◌, ◌/◌, ◌%◌, ◌^◌, ◌≤◌}
use native.Mathlib.Nat.{pow-suc}
use native.Mathlib.Omega.{arith}
use mathlib.Core.Bool.{Bool, true, false, not, ◌&&◌, ◌||◌, not-not}
use mathlib.Core.List.{List}
use mathlib.Core.Path.{◌≡◌, refl, sym, ap, ap₂, ◌∙◌}
use borrow.Author.Tests.{leb-true, leb-false, le-ltb, lt-ltb}
use lib.Bits.{bit_and}
use lib.Dec.{eqb, leb, ltb, leb-suc-suc}
use lib.ListN.{length}
use lib.Pow.{pow_mono}
use Rattle.ground.proofs.Masks.{one_shifted}
use Rattle.ground.proofs.Order.{leb_same}
use Rattle.rules.specs.declared.Product.{Product}
use Rattle.rules.specs.declared.Rule.{Rule}
use Rattle.rules.specs.declared.Rule.TheVariants as rule
use Rattle.rules.specs.ListFaults.{count_right, fits, plain_right, cuts_right, primitives_right}
use Rattle.rules.specs.ListWords.{primitives_word, header_words, product_count, primitive_count, place_of, product_at}
use Rattle.rules.specs.Refusals.{refuse_if, refuse_unless}
use Rattle.laws.specs.Checking.{checked_by}

-- ---- tests

pub if_not : (b : Bool) (r : Rule) (value : ℕ) → refuse_if (not b) r value ≡ refuse_unless b r value
if_not true r value = refl
if_not false r value = refl

not_and : (a b : Bool) → (not a || not b) ≡ not (a && b)
not_and true b = refl
not_and false b = refl

more_than : (a b : ℕ) → ltb a b ≡ not (leb b a)
more_than a b = go (leb b a) refl
  where
    go : (t : Bool) → leb b a ≡ t → ltb a b ≡ not t
    go true e = le-ltb a b (leb-true b a e)
    go false e = lt-ltb a b (omega (arith, leb-false b a e))

-- one of two tests fails
pub either_fails : (a b : Bool) (r : Rule) (value : ℕ) → refuse_if (not a || not b) r value ≡ refuse_unless (a && b) r value
either_fails a b r value = ap (λ (t : Bool). refuse_if t r value) (not_and a b) ∙ if_not (a && b) r value

-- ---- the header

module _ (list : List ℕ) where
  pub count_by : header_words ≤ length list
      → checked_by (refuse_if (ltb 65536 (product_count list) || ltb ((length list - 8) / 2) (product_count list)) rule.List 0)
      ≡ checked_by (refuse_unless (count_right list) rule.List 0)
  count_by long =
      let n = product_count list in
      let room : ltb ((length list - 8) / 2) n ≡ not (leb (place_of n) (length list))
      = more_than ((length list - 8) / 2) n ∙ ap not (leb_same n ((length list - 8) / 2) (place_of n) (length list) (λ h. omega arith) (λ h. omega arith)) in
      ap checked_by (ap₂ (λ (a b : Bool). refuse_if (a || b) rule.List 0) (more_than 65536 n) room ∙ either_fails (leb n 65536) (leb (place_of n) (length list)) rule.List 0)

  pub primitives_by : checked_by (refuse_if (ltb (primitive_count list) 1 || ltb 64 (primitive_count list)) rule.List primitives_word) ≡ checked_by (refuse_unless (primitives_right list) rule.List primitives_word)
  primitives_by =
      let n = primitive_count list in
      ap checked_by (ap₂ (λ (a b : Bool). refuse_if (a || b) rule.List primitives_word) (more_than n 1) (more_than 64 n) ∙ either_fails (leb 1 n) (leb n 64) rule.List primitives_word)

-- ---- products

-- half of all sets of so many primitives: the next power of 2 below
pub half_of : (n : ℕ) → 1 ≤ n → n ≤ 64 → let half = (1 * 2 ^ (n - 1)) % 18446744073709551616 in (1 ≤ half) × (half ≤ 9223372036854775808) × (half + half ≡ 2 ^ n)
half_of n at_least_lem few = (omega (arith, is, low), omega (arith, is, high), rw is whole)
  where
    m : ℕ
    m = n - 1

    is : (1 * 2 ^ m) % 18446744073709551616 ≡ 2 ^ m
    is = one_shifted m (omega arith)

    low : 1 ≤ 2 ^ m
    low = pow_mono {i = 0} {j = m} (omega arith)

    high : 2 ^ m ≤ 9223372036854775808
    high = pow_mono {i = m} {j = 63} (omega arith)

    whole : 2 ^ m + 2 ^ m ≡ 2 ^ n
    whole =
        let next : suc m ≡ n = omega arith in
        omega (arith, pow-suc 2 m, ap (λ (k : ℕ). 2 ^ k) next)

-- a set is of the first n primitives just if it is no greater than all of them together
fits_by : (n all set : ℕ) → suc all ≡ 2 ^ n → ltb all set ≡ not (fits n set)
fits_by n all set e = more_than all set ∙ ap not (sym (leb-suc-suc set all) ∙ ap (leb (suc set)) e)

-- the two words of product k, as the code tests them
module _ (list : List ℕ) (k all : ℕ) (e : suc all ≡ 2 ^ primitive_count list) {c : Product} (is : c ≡ product_at list k) where
  abbrev n : ℕ
  n = primitive_count list

  abbrev d : Product
  d = product_at list k

  pub plain_by : checked_by (refuse_if (eqb c.plain 0 || ltb all c.plain) rule.List (place_of k)) ≡ checked_by (refuse_unless (plain_right n d) rule.List (place_of k))
  plain_by =
      ap checked_by (ap (λ (x : Product). refuse_if (eqb x.plain 0 || ltb all x.plain) rule.List (place_of k)) is
      ∙ ap₂ (λ (a b : Bool). refuse_if (a || b) rule.List (place_of k)) (sym (not-not (eqb d.plain 0))) (fits_by n all d.plain e)
      ∙ either_fails (not (eqb d.plain 0)) (fits n d.plain) rule.List (place_of k))

  pub cuts_by : checked_by (refuse_if (ltb all c.cuts || not (eqb (bit_and c.plain c.cuts) 0)) rule.List (place_of k + 1))
      ≡ checked_by (refuse_unless (cuts_right n d) rule.List (place_of k + 1))
  cuts_by =
      ap checked_by (ap (λ (x : Product). refuse_if (ltb all x.cuts || not (eqb (bit_and x.plain x.cuts) 0)) rule.List (place_of k + 1)) is
      ∙ ap (λ (a : Bool). refuse_if (a || not (eqb (bit_and d.plain d.cuts) 0)) rule.List (place_of k + 1)) (fits_by n all d.cuts e)
      ∙ either_fails (fits n d.cuts) (eqb (bit_and d.plain d.cuts) 0) rule.List (place_of k + 1))
