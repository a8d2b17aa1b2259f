-- The digits of a number: how many there are, each by its power of ten, and no more of them where more are allowed. Assumes nothing.
use Prim.Native.Nat.{ℕ, zero, suc, ◌+◌, ◌*◌, ◌/◌, ◌%◌, ◌^◌, ◌≤◌, ◌<◌}
use native.Mathlib.Decide.{dec_lt}
use native.Mathlib.Nat.{pow-suc, pow-succ', one-le-pow, mod-lt, div-div-eq-div-mul}
use native.Mathlib.Omega.{arith}
use mathlib.Core.Bool.{Bool, true, false}
use mathlib.Core.List.{List, [], ◌∷◌, ◌++◌}
use mathlib.Core.Path.{◌≡◌, sym, ap, ◌∙◌}
use borrow.Author.Tests.{lt-ltb, le-ltb}
use lib.Arith.{digits_div, digits_mod, mod-mul}
use lib.Dec.{ltb}
use lib.IntN.{ℤ, pos, negsuc}
use lib.ListN.{length, get_or, length-append, get_or-append}
use lib.Seq.{get_or_at}
use Rattle.std.specs.Prelude.{if◌then◌else◌}
use Rattle.rules.specs.Text.{digit, decimal_in, decimal, number_text}
use Rattle.rules.proofs.Numbers.{few_digits}
use Rattle.rules.specs.Listing.{word_text}

-- a number that has few digits is written alike where more are allowed
wider : (fewer most n : ℕ) → fewer ≤ most → n < 10 ^ suc fewer → decimal_in (suc most) n ≡ decimal_in (suc fewer) n
unfolding decimal_in
wider zero most n l h = rw (lt-ltb n 10 h)
wider (suc fewer) zero n l h = absurd (omega arith)
wider (suc fewer) (suc most) n l h =
    let less : n < 10 ^ suc fewer * 10 = rw (pow-suc 10 (suc fewer)) at h in
    ap (λ (ds : List ℕ). if ltb n 10 then digit n ∷ [] else ds ++ (digit (n % 10) ∷ [])) (wider fewer most (n / 10) (omega arith) (omega arith))

pub long_decimal : (n : ℕ) → n < 10 ^ 10 → word_text n ≡ decimal n
long_decimal n h = wider 9 19 n (omega arith) h

-- one digit, and one digit more
pub one_digit : (n : ℕ) → n < 10 → word_text n ≡ digit n ∷ []
unfolding decimal_in
one_digit n h = rw (lt-ltb n 10 h)

pub last_digit : (n : ℕ) → 10 ≤ n → n < 10 ^ 20 → word_text n ≡ word_text (n / 10) ++ (digit (n % 10) ∷ [])
unfolding decimal_in
last_digit n h l =
    let others : n / 10 < 10 ^ 19 = omega arith in
    ap (λ (b : Bool). if b then digit n ∷ [] else decimal_in 19 (n / 10) ++ (digit (n % 10) ∷ [])) (le-ltb n 10 h)
    ∙ ap (λ (ds : List ℕ). ds ++ (digit (n % 10) ∷ [])) (sym (wider 18 19 (n / 10) (omega arith) others))

pub more_digits : (n : ℕ) → 10 ≤ n → n < 10 ^ 20 → length (word_text n) ≡ length (word_text (n / 10)) + 1
more_digits n h l = ap length (last_digit n h l) ∙ length-append (word_text (n / 10)) (digit (n % 10) ∷ [])

-- some digit, and so some byte
pub some_digit : (most n : ℕ) → 0 < length (decimal_in (suc most) n)
unfolding decimal_in
some_digit most n = go (ltb n 10)
  where
    go : (b : Bool) → 0 < length (if b then digit n ∷ [] else decimal_in most (n / 10) ++ (digit (n % 10) ∷ []))
    go true = omega arith
    go false = omega (arith, length-append (decimal_in most (n / 10)) (digit (n % 10) ∷ []))

pub some_byte : (v : ℤ) → 0 < length (number_text v)
some_byte (pos n) = some_digit 9 n
some_byte (negsuc n) = omega arith

pub few_bytes : (v : ℤ) → length (number_text v) ≤ 11
few_bytes (pos n) = omega (arith, few_digits 10 n)
few_bytes (negsuc n) = omega (arith, few_digits 10 (suc n))

-- ---- by powers of ten

-- from 10 ^ k on there are more than k digits, and below 10 ^ (k + 1) no more than k + 1
pub more_than : (k n : ℕ) → n < 10 ^ 20 → 10 ^ k ≤ n → k < length (word_text n)
more_than zero n l h = some_digit 19 n
more_than (suc k) n l h =
    let times : 10 ^ k * 10 ≤ n = rw (pow-suc 10 k) at h in
    let some = one-le-pow k 10 (omega arith) in
    omega (arith, more_than k (n / 10) (omega arith) (omega arith), more_digits n (omega arith) l)

pub no_more_than : (k n : ℕ) → k < 20 → n < 10 ^ suc k → length (word_text n) ≤ suc k
no_more_than k n l h = omega (arith, ap length (wider k 19 n (omega arith) h), few_digits (suc k) n)

pub below_size : (n : ℕ) → n < 10 ^ 20 → n < 10 ^ length (word_text n)
below_size n l = go (dec_lt n (10 ^ length (word_text n)))
  where
    go : Dec (n < 10 ^ length (word_text n)) → n < 10 ^ length (word_text n)
    go (yes h) = h
    go (no h) = absurd (omega (arith, more_than (length (word_text n)) n l (omega arith)))

-- the digit that k others follow
pub digit_at : (k n i : ℕ) → n < 10 ^ 20 → i + suc k ≡ length (word_text n) → get_or (word_text n) i 0 ≡ digit (n / 10 ^ k % 10)
digit_at zero n i l e = go (dec_lt n 10)
  where
    go : Dec (n < 10) → get_or (word_text n) i 0 ≡ digit (n / 1 % 10)
    go (yes one) =
        let only = one_digit n one in
        let first : i ≡ 0 = omega (arith, ap length only) in
        let same : n ≡ n / 1 % 10 = omega arith in
        (λ j. get_or (only j) (first j) 0) ∙ ap digit same
    go (no more) =
        let others = word_text (n / 10) in
        let last = last_digit n (omega arith) l in
        let size : length others ≡ i = omega (arith, more_digits n (omega arith) l) in
        let same : n % 10 ≡ n / 1 % 10 = omega arith in
        ap (λ (ds : List ℕ). get_or ds i 0) last ∙ get_or_at others (digit (n % 10)) [] 0 i size ∙ ap digit same
digit_at (suc k) n i l e = go (dec_lt n 10) (digit_at k (n / 10) i)
  where
    go : Dec (n < 10) → (n / 10 < 10 ^ 20 → i + suc k ≡ length (word_text (n / 10)) → get_or (word_text (n / 10)) i 0 ≡ digit (n / 10 / 10 ^ k % 10))
        → get_or (word_text n) i 0 ≡ digit (n / 10 ^ suc k % 10)
    go (yes one) earlier = absurd (omega (arith, ap length (one_digit n one)))
    go (no more) earlier =
        let others = word_text (n / 10) in
        let last = last_digit n (omega arith) l in
        let size : i + suc k ≡ length others = omega (arith, more_digits n (omega arith) l) in
        let power : n / 10 / 10 ^ k ≡ n / 10 ^ suc k = div-div-eq-div-mul n 10 (10 ^ k) ∙ ap (λ (p : ℕ). n / p) (sym (pow-succ' 10 k)) in
        ap (λ (ds : List ℕ). get_or ds i 0) last
        ∙ get_or-append others (digit (n % 10) ∷ []) 0 i (omega arith)
        ∙ earlier (omega arith) size
        ∙ ap (λ (q : ℕ). digit (q % 10)) power

-- the digit of a power and those after it are worth n % (10 * power): the power goes into that as often as its digit says, and those after it are left
module _ (n : ℕ) {power : ℕ} (some : 0 < power) where
  worth_left : n % (10 * power) ≡ (n / power % 10) * power + n % power
  worth_left = mod-mul n (omega arith) some

  pub goes_into : n % (10 * power) / power ≡ n / power % 10
  goes_into = ap (λ (m : ℕ). m / power) worth_left ∙ digits_div (n / power % 10) (mod-lt n some)

  pub less_left : n % (10 * power) % power ≡ n % power
  less_left = ap (λ (m : ℕ). m % power) worth_left ∙ digits_mod (n / power % 10) (mod-lt n some)
