-- A run of digits: where it stops, and that the run of a number's text is worth the number. Assumes nothing.
use Prim.Native.Nat.{ℕ, suc, ◌+◌, ◌-◌, ◌*◌, ◌^◌, ◌≤◌, ◌<◌}
use native.Mathlib.Nat.{add-zero}
use native.Mathlib.Numerals.{add-one}
use native.Mathlib.Omega.{arith}
use mathlib.Core.Bool.{Bool, true, false}
use mathlib.Core.List.{List, [], ◌∷◌, ◌++◌}
use mathlib.Core.Path.{◌≡◌, refl, sym, ap, subst, ◌∙◌}
use borrow.Author.Tests.{le-leb, lt-ltb}
use lib.ListN.{length, get_or, drop, drop_of_length-le}
use lib.Seq.{drop-cons}
use Rattle.std.specs.Char.{is_ascii_digit}
use Rattle.std.specs.Prelude.{if◌then◌else◌}
use Rattle.rules.specs.Text.{decimal}
use Rattle.rules.proofs.Numbers.{Digit, Digits, digits, worth, worth_decimal}
use Rattle.number.specs.Reading.{Ended, found, grown, scanned}

is_digit : {b : ℕ} → Digit b → is_ascii_digit b ≡ true
is_digit {b} d = rw (le-leb 48 b d.least, le-leb b 57 d.greatest)

-- ---- byte by byte

module _ (text : List ℕ) (v i : ℕ) where
  pub scan_more : i < length text → is_ascii_digit (get_or text i 0) ≡ true
      → scanned v i (drop i text) ≡ scanned (grown v (get_or text i 0)) (i + 1) (drop (i + 1) text)
  unfolding scanned
  scan_more l h = rw (add-one, drop-cons text i 0, h)

  pub scan_stops : i < length text → is_ascii_digit (get_or text i 0) ≡ false → scanned v i (drop i text) ≡ found v i
  unfolding scanned
  scan_stops l h = rw (drop-cons text i 0, h)

  pub scan_over : length text ≤ i → scanned v i (drop i text) ≡ found v i
  unfolding scanned
  scan_over l = rw drop_of_length-le

-- ---- it takes so many of the bytes, and no digit follows

pub record Halted (bytes : List ℕ) (at next : ℕ) : Type 0 where
  pub count : ℕ
  pub place : next ≡ at + count
  pub within : count ≤ length bytes
  pub ended : Ended (drop count bytes)

pub scan_halts : (bs : List ℕ) (v at : ℕ) → Halted bs at (scanned v at bs).next
unfolding scanned
scan_halts [] v at = record { count = 0; place = sym (add-zero at); within = omega arith; ended = tt }
scan_halts (b ∷ bs) v at = go (is_ascii_digit b) refl (scan_halts bs (grown v b) (suc at))
  where
    go : (t : Bool) → is_ascii_digit b ≡ t → Halted bs (suc at) (scanned (grown v b) (suc at) bs).next
        → Halted (b ∷ bs) at (if t then scanned (grown v b) (suc at) bs else found v at).next
    go true h r = record { count = suc r.count; place = omega (arith, r.place); within = omega (arith, r.within); ended = r.ended }
    go false h r = record { count = 0; place = sym (add-zero at); within = omega arith; ended = h }

-- ---- the run of a number's text

worth_grows : (bs : List ℕ) (v : ℕ) → v ≤ worth v bs
unfolding worth
worth_grows [] v = omega arith
worth_grows (b ∷ bs) v = omega (arith, worth_grows bs (v * 10 + (b - 48)))

scan_ended : (rest : List ℕ) (v at : ℕ) → Ended rest → scanned v at rest ≡ found v at
unfolding scanned
scan_ended [] v at h = refl
scan_ended (b ∷ bs) v at h = rw h

scan_digit : (b : ℕ) (bs : List ℕ) (v at : ℕ) → Digit b → scanned v at (b ∷ bs) ≡ scanned (grown v b) (suc at) bs
unfolding scanned
scan_digit b bs v at d = rw (is_digit d)

scan_digits : (ds rest : List ℕ) (v at : ℕ) → Digits ds → Ended rest → worth v ds < 10 ^ 10
    → scanned v at (ds ++ rest) ≡ found (worth v ds) (at + length ds)
unfolding worth
scan_digits [] rest v at d h l = scan_ended rest v at h ∙ ap (found v) (sym (add-zero at))
scan_digits (b ∷ ds) rest v at d h l =
    let more = v * 10 + (b - 48) in
    let few : v < 1000000000 = omega (arith, worth_grows ds (v * 10 + (b - 48))) in
    let grows : grown v b ≡ more = rw (lt-ltb v 1000000000 few) in
    let place : suc at + length ds ≡ at + suc (length ds) = omega arith in
    scan_digit b (ds ++ rest) v at d.0
    ∙ ap (λ (w : ℕ). scanned w (suc at) (ds ++ rest)) grows
    ∙ scan_digits ds rest more (suc at) d.1 h l
    ∙ ap (found (worth more ds)) place

pub scan_decimal : (n at : ℕ) (rest bytes : List ℕ) → n < 10 ^ 10 → Ended rest → bytes ≡ decimal n ++ rest
    → scanned 0 at bytes ≡ found n (at + length (decimal n))
scan_decimal n at rest bytes l h e =
    let worth_n = worth_decimal 10 n l in
    ap (scanned 0 at) e
    ∙ scan_digits (decimal n) rest 0 at (digits 10 n) h (subst (λ (w : ℕ). w < 10 ^ 10) (sym worth_n) l)
    ∙ ap (λ (w : ℕ). found w (at + length (decimal n))) worth_n
