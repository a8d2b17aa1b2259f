-- A number's text is its own: no other 32-bit value has it, and it holds digits and at most a minus. Assumes nothing.
use Prim.Native.Nat.{ℕ, zero, suc, ◌+◌, ◌-◌, ◌*◌, ◌/◌, ◌%◌, ◌^◌, ◌≤◌, ◌<◌}
use native.Mathlib.Nat.{pow-suc, div-add-mod'}
use native.Mathlib.Omega.{arith}
use mathlib.Core.Bool.{Bool, true, false}
use mathlib.Core.List.{List, [], ◌∷◌, ◌++◌, tail-eq_of_cons-eq}
use mathlib.Core.Path.{◌≡◌, refl, sym, ap, subst, ◌∙◌}
use borrow.Author.Tests.{ltb-true}
use lib.Dec.{ltb}
use lib.IntN.{ℤ, pos, negsuc}
use lib.ListN.{length, length-append}
use Rattle.ground.specs.Lists.{All}
use Rattle.std.specs.Prelude.{if◌then◌else◌}
use Rattle.ground.proofs.Lists.{all_append, all_map}
use Rattle.rules.specs.Text.{digit, decimal_in, decimal, number_text}
use Rattle.rules.specs.TextForm.{Word32}

-- what a run of digits is worth, after others worth v
unfoldable pub worth : ℕ → List ℕ → ℕ
worth v [] = v
worth v (b ∷ bs) = worth (v * 10 + (b - 48)) bs

worth_last : (bs : List ℕ) (v d : ℕ) → worth v (bs ++ (digit d ∷ [])) ≡ worth v bs * 10 + d
unfolding worth
worth_last [] v d = omega arith
worth_last (b ∷ bs) v d = worth_last bs (v * 10 + (b - 48)) d

pub worth_decimal : (most n : ℕ) → n < 10 ^ most → worth 0 (decimal_in most n) ≡ n
unfolding worth decimal_in
worth_decimal zero n h = omega arith
worth_decimal (suc most) n h = go (ltb n 10) refl (worth_decimal most)
  where
    go : (b : Bool) → ltb n 10 ≡ b → ((m : ℕ) → m < 10 ^ most → worth 0 (decimal_in most m) ≡ m)
        → worth 0 (if b then digit n ∷ [] else decimal_in most (n / 10) ++ (digit (n % 10) ∷ [])) ≡ n
    go true e rest = omega arith
    go false e rest =
        let l : n < 10 ^ most * 10 = rw (pow-suc 10 most) at h in
        let q : n / 10 < 10 ^ most = omega arith in
        worth_last (decimal_in most (n / 10)) 0 (n % 10) ∙ ap (λ (q : ℕ). q * 10 + n % 10) (rest (n / 10) q) ∙ div-add-mod' n 10

-- a byte that is a digit, and bytes that all are
pub record Digit (b : ℕ) : Type 0 where
  pub least : 48 ≤ b
  pub greatest : b ≤ 57

abbrev pub Digits : List ℕ → Type 0
Digits bs = All Digit bs

pub digits : (most n : ℕ) → Digits (decimal_in most n)
unfolding decimal_in
digits zero n = tt
digits (suc most) n = go (ltb n 10) (ltb-true n 10) (digits most (n / 10))
  where
    go : (b : Bool) → (b ≡ true → n < 10) → Digits (decimal_in most (n / 10))
        → Digits (if b then digit n ∷ [] else decimal_in most (n / 10) ++ (digit (n % 10) ∷ []))
    go true l h = let s : n < 10 = l refl in (record { least = omega arith; greatest = omega arith }, tt)
    go false l h = all_append Digit (decimal_in most (n / 10)) (digit (n % 10) ∷ []) h (record { least = omega arith; greatest = omega arith }, tt)

pub decimal_once : (m n : ℕ) → m < 10 ^ 10 → n < 10 ^ 10 → decimal m ≡ decimal n → m ≡ n
decimal_once m n hm hn e = sym (worth_decimal 10 m hm) ∙ ap (worth 0) e ∙ worth_decimal 10 n hn

pub number_once : (v w : ℤ) → Word32 v → Word32 w → number_text v ≡ number_text w → v ≡ w
number_once (pos m) (pos n) hv hw e = ap pos (decimal_once m n (omega (arith, hv.fits)) (omega (arith, hw.fits)) e)
number_once (pos m) (negsuc n) hv hw e = let d : Digit 45 = (subst Digits e (digits 10 m)).0 in absurd (omega arith)
number_once (negsuc m) (pos n) hv hw e = let d : Digit 45 = (subst Digits (sym e) (digits 10 n)).0 in absurd (omega arith)
number_once (negsuc m) (negsuc n) hv hw e =
    let s : suc m ≡ suc n = decimal_once (suc m) (suc n) (omega (arith, hv.fits)) (omega (arith, hw.fits)) (tail-eq_of_cons-eq e) in
    let p : m ≡ n = omega arith in
    ap negsuc p

-- no more digits than are allowed
pub few_digits : (most n : ℕ) → length (decimal_in most n) ≤ most
unfolding decimal_in
few_digits zero n = omega arith
few_digits (suc most) n = go (ltb n 10) (few_digits most (n / 10))
  where
    go : (b : Bool) → length (decimal_in most (n / 10)) ≤ most
        → length (if b then digit n ∷ [] else decimal_in most (n / 10) ++ (digit (n % 10) ∷ [])) ≤ suc most
    go true h = omega arith
    go false h = omega (arith, length-append (decimal_in most (n / 10)) (digit (n % 10) ∷ []))

-- a minus and digits are 45 or more; tabs and line feeds are less
pub decimal_run : (n : ℕ) → All (λ b. 45 ≤ b) (decimal n)
decimal_run n = all_map Digit (λ b. 45 ≤ b) (λ b h. omega arith) (decimal n) (digits 10 n)

pub number_run : (v : ℤ) → All (λ b. 45 ≤ b) (number_text v)
number_run (pos n) = decimal_run n
number_run (negsuc n) = (omega arith, decimal_run (suc n))
