-- A number as a set of places: two numbers with the same places are equal, and so the algebra of bit_and and bit_or follows from that of tests.
-- Assumes nothing.
use Prim.Native.Nat.{ℕ, zero, suc, ◌*◌, ◌/◌, ◌%◌, ◌^◌, ◌<◌, min, max}
use native.Mathlib.Nat.{mod-lt, one-mul, zero-lt-suc, pow-suc, mul-div_cancel, mul-mod_left, div-one}
use native.Mathlib.Numerals.{one-add}
use native.Mathlib.Omega.{arith}
use mathlib.Core.Bool as bool
use mathlib.Core.Bool.{Bool, true, false, ◌&&◌, ◌||◌, or-true, or-false, and-false, and-or_distrib_left}
use mathlib.Core.Path.{◌≡◌, refl, sym, ap, ap₂, ◌∙◌}
use lib.Arith.{bin_ind, digits_mod}
use lib.Bits as bits
use lib.Bits.{bit_and, bit_or, and_step, or_step, and_shr, or_shr}
use lib.Dec.{eqb, eqb-zero-suc, eqb-suc-zero, eqb-suc-suc}
use lib.Pow.{shr-shr, shl_exact}
use Rattle.ground.specs.Bits.{odd}
use Rattle.ground.proofs.Branches.{false_true, and_left, and_right}

-- place i is in the set n
unfoldable pub has : ℕ → ℕ → Bool
has zero n = odd n
has (suc i) n = has i (n / 2)

-- ---- one digit

two : 0 < 2
two = zero-lt-suc 1

-- what is true of the digits 0 and 1 is true of any digit
by_digit : (P : ℕ → Type 0) → P 0 → P 1 → (x : ℕ) → x < 2 → P x
by_digit P p q zero h = p
by_digit P p q (suc zero) h = q
by_digit P p q (suc (suc x)) h = absurd (omega arith)

digit_and : (x y : ℕ) → x < 2 → y < 2 → eqb (min x y) 1 ≡ (eqb x 1 && eqb y 1)
digit_and x y p q =
    by_digit (λ x. eqb (min x y) 1 ≡ (eqb x 1 && eqb y 1))
    (by_digit (λ y. eqb (min 0 y) 1 ≡ (eqb 0 1 && eqb y 1)) refl refl y q)
    (by_digit (λ y. eqb (min 1 y) 1 ≡ (eqb 1 1 && eqb y 1)) refl refl y q) x p

digit_or : (x y : ℕ) → x < 2 → y < 2 → eqb (max x y) 1 ≡ (eqb x 1 || eqb y 1)
digit_or x y p q =
    by_digit (λ x. eqb (max x y) 1 ≡ (eqb x 1 || eqb y 1))
    (by_digit (λ y. eqb (max 0 y) 1 ≡ (eqb 0 1 || eqb y 1)) refl refl y q)
    (by_digit (λ y. eqb (max 1 y) 1 ≡ (eqb 1 1 || eqb y 1)) refl refl y q) x p

digit_same : (x y : ℕ) → x < 2 → y < 2 → eqb x 1 ≡ eqb y 1 → x ≡ y
digit_same x y p q =
    by_digit (λ x. eqb x 1 ≡ eqb y 1 → x ≡ y)
    (by_digit (λ y. eqb 0 1 ≡ eqb y 1 → 0 ≡ y) (λ e. refl) (λ e. false_true e) y q)
    (by_digit (λ y. eqb 1 1 ≡ eqb y 1 → 1 ≡ y) (λ e. false_true (sym e)) (λ e. refl) y q) x p

module _ (a b : ℕ) where
  and_digit : bit_and a b % 2 ≡ min (a % 2) (b % 2)
  and_digit = ap (λ (x : ℕ). x % 2) (and_step a b) ∙ digits_mod (bit_and (a / 2) (b / 2)) (omega (arith, mod-lt a two))

  or_digit : bit_or a b % 2 ≡ max (a % 2) (b % 2)
  or_digit = ap (λ (x : ℕ). x % 2) (or_step a b) ∙ digits_mod (bit_or (a / 2) (b / 2)) (omega (arith, mod-lt a two, mod-lt b two))

-- ---- each place

pub has_and : (i a b : ℕ) → has i (bit_and a b) ≡ (has i a && has i b)
unfolding has
has_and zero a b = ap (λ (x : ℕ). eqb x 1) (and_digit a b) ∙ digit_and (a % 2) (b % 2) (mod-lt a two) (mod-lt b two)
has_and (suc i) a b = ap (has i) (and_shr a b 1) ∙ has_and i (a / 2) (b / 2)

pub has_or : (i a b : ℕ) → has i (bit_or a b) ≡ (has i a || has i b)
unfolding has
has_or zero a b = ap (λ (x : ℕ). eqb x 1) (or_digit a b) ∙ digit_or (a % 2) (b % 2) (mod-lt a two) (mod-lt b two)
has_or (suc i) a b = ap (has i) (or_shr a b 1) ∙ has_or i (a / 2) (b / 2)

pub has_none : (i : ℕ) → has i 0 ≡ false
unfolding has
has_none zero = refl
has_none (suc i) = has_none i

pub has_one : (j i : ℕ) → has j (2 ^ i) ≡ eqb j i
unfolding has
has_one zero zero = refl
has_one zero (suc i) = ap (λ (x : ℕ). odd x) (pow-suc 2 i) ∙ ap (λ (x : ℕ). eqb x 1) (mul-mod_left (2 ^ i) 2) ∙ sym (eqb-zero-suc i)
has_one (suc j) zero = has_none j ∙ sym (eqb-suc-zero j)
has_one (suc j) (suc i) = ap (has j) (ap (λ (x : ℕ). x / 2) (pow-suc 2 i) ∙ mul-div_cancel (2 ^ i) two) ∙ has_one j i ∙ sym (eqb-suc-suc j i)

-- as code tests a place
pub has_shifted : (i n : ℕ) → has i n ≡ odd (n / 2 ^ i)
unfolding has
has_shifted zero n = ap odd (sym (div-one n))
has_shifted (suc i) n = has_shifted i (n / 2) ∙ ap odd (shr-shr n 1 i ∙ ap (λ (x : ℕ). n / 2 ^ x) (one-add i))

-- numbers with the same places are equal
pub same_places : (a b : ℕ) → ((i : ℕ) → has i a ≡ has i b) → a ≡ b
unfolding has
same_places = bin_ind (λ (n : ℕ). (b : ℕ) → ((i : ℕ) → has i n ≡ has i b) → n ≡ b)
    (bin_ind (λ (n : ℕ). ((i : ℕ) → has i 0 ≡ has i n) → 0 ≡ n) (λ h. refl) (λ n rest h. up 0 n (rest (λ i. h (suc i))) (h zero)))
    (λ n rest b h. up n b (rest (b / 2) (λ i. h (suc i))) (h zero))
  where
    up : (a b : ℕ) → a / 2 ≡ b / 2 → odd a ≡ odd b → a ≡ b
    up a b e o = let d : a % 2 ≡ b % 2 = digit_same (a % 2) (b % 2) (mod-lt a two) (mod-lt b two) o in omega arith

-- ---- the algebra

pub and_assoc : (a b c : ℕ) → bit_and (bit_and a b) c ≡ bit_and a (bit_and b c)
and_assoc a b c = same_places _ _ (λ i. simp has_and (bool.and_assoc (has i a) (has i b) (has i c)))

pub and_or : (a b c : ℕ) → bit_and a (bit_or b c) ≡ bit_or (bit_and a b) (bit_and a c)
and_or a b c = same_places _ _ (λ i. simp (has_and, has_or) (and-or_distrib_left (has i a) (has i b) (has i c)))

pub or_and : (a b c : ℕ) → bit_and (bit_or a b) c ≡ bit_or (bit_and a c) (bit_and b c)
or_and a b c = bits.and_comm (bit_or a b) c ∙ and_or c a b ∙ ap₂ bit_or (bits.and_comm c a) (bits.and_comm c b)

-- ---- a set within another

abbrev pub Within : ℕ → ℕ → Type 0
Within a b = bit_and a b ≡ a

pub within_self : (a : ℕ) → Within a a
within_self a = bits.and_self a

pub within_none : (b : ℕ) → Within 0 b
within_none b = bits.and_zero_l b

-- by places: what is in the one is in the other
module _ (a b : ℕ) where
  pub within_has : Within a b → (i : ℕ) → has i a ≡ true → has i b ≡ true
  within_has w i h = and_right (has i a) (has i b) (sym (has_and i a b) ∙ ap (has i) w ∙ h)

  pub has_within : ((i : ℕ) → has i a ≡ true → has i b ≡ true) → Within a b
  has_within f = same_places _ _ (λ i. has_and i a b ∙ go (has i a) (has i b) (f i))
    where
      go : (x y : Bool) → (x ≡ true → y ≡ true) → (x && y) ≡ x
      go true y g = g refl
      go false y g = refl

  pub has_both : (i : ℕ) → has i a ≡ true → has i b ≡ true → has i (bit_and a b) ≡ true
  has_both i p q = has_and i a b ∙ ap₂ ◌&&◌ p q

  pub both_has : (i : ℕ) → has i (bit_and a b) ≡ true → (has i a ≡ true) × (has i b ≡ true)
  both_has i h = let e = sym (has_and i a b) ∙ h in (and_left (has i a) (has i b) e, and_right (has i a) (has i b) e)

  pub has_left : (i : ℕ) → has i a ≡ true → has i (bit_or a b) ≡ true
  has_left i p = has_or i a b ∙ ap (λ (x : Bool). x || has i b) p

  pub has_right : (i : ℕ) → has i b ≡ true → has i (bit_or a b) ≡ true
  has_right i p = has_or i a b ∙ ap (λ (x : Bool). has i a || x) p ∙ or-true (has i a)

pub within_cut : (a b r : ℕ) → Within a b → Within (bit_and a r) b
within_cut a b r h = has_within (bit_and a r) b (λ i p. within_has a b h i (both_has a r i p).0)

pub within_left : (a b c : ℕ) → Within a b → Within a (bit_or b c)
within_left a b c h = has_within a (bit_or b c) (λ i p. has_left b c i (within_has a b h i p))

pub within_right : (a b c : ℕ) → Within a c → Within a (bit_or b c)
within_right a b c h = has_within a (bit_or b c) (λ i p. has_right b c i (within_has a c h i p))

pub within_or : (a b c d : ℕ) → Within a c → Within b d → Within (bit_or a b) (bit_or c d)
within_or a b c d h k = or_and a b (bit_or c d) ∙ ap₂ bit_or (within_left a c d h) (within_right b c d k)

-- ---- sets that are apart

left_place : (u v p a b : Bool) → (u && a) ≡ u → (v && b) ≡ v → (a && b) ≡ false → (p && (a || b)) ≡ (u || v) → (p && a) ≡ u
left_place u v p true b hu hv hab e = cc (and-false v, or-false u)
left_place u v p false b hu hv hab e = cc (and-false u, and-false p)

module _ (u v p a b : ℕ) (hu : Within u a) (hv : Within v b) (apart : bit_and a b ≡ 0) where
  -- u lies in a and v in b, which are apart: if p's part of the two is u and v together, each is p's part of its own
  pub part_left : bit_and p (bit_or a b) ≡ bit_or u v → bit_and p a ≡ u
  part_left e = same_places _ _ (λ i. has_and i p a ∙ left_place (has i u) (has i v) (has i p) (has i a) (has i b)
      (sym (has_and i u a) ∙ ap (has i) hu) (sym (has_and i v b) ∙ ap (has i) hv) (sym (has_and i a b) ∙ ap (has i) apart ∙ has_none i)
      (ap (λ (x : Bool). has i p && x) (sym (has_or i a b)) ∙ sym (has_and i p (bit_or a b)) ∙ ap (has i) e ∙ has_or i u v))

module _ (u v p a b : ℕ) (hu : Within u a) (hv : Within v b) (apart : bit_and a b ≡ 0) where
  pub part_right : bit_and p (bit_or a b) ≡ bit_or u v → bit_and p b ≡ v
  part_right e = part_left v u p b a hv hu (bits.and_comm b a ∙ apart) (ap (bit_and p) (bits.or_comm b a) ∙ e ∙ bits.or_comm u v)

-- as code makes the set of one place
pub one_shifted : (i : ℕ) → i < 64 → (1 * 2 ^ i) % 2 ^ 64 ≡ 2 ^ i
one_shifted i l = shl_exact {a = 1} 1 i 64 (omega arith) (omega arith) ∙ one-mul (2 ^ i)
