-- How bytes, and the digits of a number, are put into a buffer, one after the other. Assumes nothing.
use Prim.Native.Nat.{ℕ, zero, suc, ◌+◌, ◌-◌, ◌*◌, ◌/◌, ◌%◌, ◌^◌, ◌≤◌, ◌<◌}
use native.Mathlib.Nat.{add-zero, zero-add, pow-suc, pow-succ', one-le-pow, le_refl, mod-lt, mod-eq_of_lt, div-one, div-lt_iff_lt-mul}
use native.Mathlib.Numerals.{add-one}
use native.Mathlib.Omega.{arith}
use mathlib.Core.List.{List, [], ◌∷◌, ◌++◌}
use mathlib.Core.Path.{◌≡◌, refl, sym, ap, subst, ◌∙◌}
use lib.ListN.{length, get_or, take, drop, set, length-append}
use lib.Seq.{sets, sets-eq, length-sets, take-suc, take_all, take-length, take-append_seam}
use borrow.Rule.Slice.PartMut.{put_mid}
use Rattle.std.proofs.lemmas.Slice.{put_mid-paste}
use Rattle.ground.proofs.Writes.{sets_append}
use Rattle.rules.specs.Outcome.{over}
use Rattle.rules.specs.Text.{digit}
use Rattle.rules.specs.Listing.{word_text}
use Rattle.number.specs.Writing.{Put}
use Rattle.number.proofs.Digits.{some_digit, below_size, digit_at, goes_into, less_left}

-- ---- putting

pub put_same : {before xs ys after : List ℕ} {at next : ℕ} → xs ≡ ys → Put before at ys after next → Put before at xs after next
put_same {before} {after = after} {at} {next} e p = subst (λ (bytes : List ℕ). Put before at bytes after next) (sym e) p

pub put_none : (before : List ℕ) (at : ℕ) → Put before at [] before at
put_none before at = record { end = sym (add-zero at); buffer = refl }

-- some bytes, and others after them
pub put_join : {before xs between ys after : List ℕ} {at next end : ℕ} → Put before at xs between next → Put between next ys after end
    → Put before at (xs ++ ys) after end
put_join {before} {xs} {ys = ys} {at = at} p q = record {
  end = omega (arith, p.end, q.end, length-append xs ys);
  buffer = q.buffer ∙ (λ i. sets (p.buffer i) (p.end i) ys) ∙ sym (sets_append before at xs ys);
}

pub put_one : (b : ℕ) (before : List ℕ) (at : ℕ) → Put before at (b ∷ []) (set before at b) (at + 1)
put_one b before at = record { end = refl; buffer = refl }

-- what was put at the head of a buffer lies over it, and is read there
module _ {before bytes after : List ℕ} {next : ℕ} (h : length bytes ≤ length before) (p : Put before 0 bytes after next) where
  pub put_over : after ≡ over bytes before
  put_over = p.buffer ∙ sets-eq bytes before 0 (omega arith) ∙ ap (λ (n : ℕ). bytes ++ drop n before) (zero-add (length bytes))

  pub put_taken : take next after ≡ bytes
  put_taken = (λ i. take ((p.end ∙ zero-add (length bytes)) i) (put_over i)) ∙ take-append_seam bytes (drop (length bytes) before)

pub put_size : {before bytes after : List ℕ} {at next : ℕ} → Put before at bytes after next → length after ≡ length before
put_size {before} {bytes} {at = at} p = ap length p.buffer ∙ length-sets before at bytes

-- ---- copying

-- a part that is overwritten
pub part_written : {A : Type 0} (before : List A) (at : ℕ) {xs part : List A} {size : ℕ} → at + length xs ≤ length before → part ≡ xs → size ≡ length xs
    → put_mid at size before part ≡ sets before at xs
part_written {A} before at {xs} {part} {size} room same is =
    put_mid-paste at size before part xs size same refl is
    ∙ (λ i. take at before ++ take (is i) xs ++ drop (at + is i) before)
    ∙ ap (λ (ys : List A). take at before ++ ys ++ drop (at + length xs) before) (take-length xs)
    ∙ sym (sets-eq xs before at room)

-- the first i bytes were put
pub record Copying (before : List ℕ) (at : ℕ) (bytes text : List ℕ) (i : ℕ) : Type 0 where
  pub within : i ≤ length bytes
  pub put : Put before at (take i bytes) text (at + i)

pub none_copied : (before : List ℕ) (at : ℕ) (bytes : List ℕ) → Copying before at bytes before 0
none_copied before at bytes = record { within = omega arith; put = record { end = refl; buffer = refl } }

module _ {before bytes text : List ℕ} {at i : ℕ} (c : Copying before at bytes text i) where
  pub one_copied : i < length bytes → Copying before at bytes (set text (at + i) (get_or bytes i 0)) (i + 1)
  one_copied h =
      let b = get_or bytes i 0 in
      let more : take (i + 1) bytes ≡ take i bytes ++ (b ∷ []) = ap (λ (k : ℕ). take k bytes) (add-one i) ∙ take-suc bytes i 0 h in
      let both = put_join c.put (put_one b text (at + i)) in
      record { within = omega arith; put = put_same more (record { end = omega (arith, both.end); buffer = both.buffer }) }

  pub all_copied : length bytes ≤ i → Put before at bytes text (at + i)
  all_copied h = put_same (sym (take_all i bytes h)) c.put

-- ---- spelling

-- the first i digits were put; the next is that of `power`, others follow it, and `left` is what they are worth together
pub record Spelling (n : ℕ) (before : List ℕ) (at : ℕ) (text : List ℕ) (i power left : ℕ) : Type 0 where
  pub others : ℕ
  pub size : i + suc others ≡ length (word_text n)
  pub power_is : power ≡ 10 ^ others
  pub left_is : left ≡ n % (10 * power)
  pub copying : Copying before at (word_text n) text i

pub none_spelt : (n : ℕ) {power : ℕ} → n < 10 ^ 20 → power ≡ 10 ^ (length (word_text n) - 1) → (before : List ℕ) (at : ℕ)
    → Spelling n before at before 0 power n
none_spelt n {power} fits is before at =
    let digits = length (word_text n) in
    let size : suc (digits - 1) ≡ digits = omega (arith, some_digit 19 n) in
    let above : 10 * power ≡ 10 ^ digits = ap (λ (p : ℕ). 10 * p) is ∙ sym (pow-succ' 10 (digits - 1)) ∙ ap (λ (k : ℕ). 10 ^ k) size in
    record {
      others = digits - 1;
      size = zero-add (suc (digits - 1)) ∙ size;
      power_is = is;
      left_is = sym (mod-eq_of_lt (omega (arith, below_size n fits)));
      copying = none_copied before at (word_text n);
    }

module _ {n : ℕ} {before : List ℕ} {at : ℕ} {text : List ℕ} {i power left : ℕ} (s : Spelling n before at text i power left) where
  not_spelt : i < length (word_text n)
  not_spelt = omega (arith, s.size)

  some_power : 0 < power
  some_power = subst (λ (p : ℕ). 0 < p) (sym s.power_is) (one-le-pow s.others 10 (omega arith))

  next_digit : left / power ≡ n / power % 10
  next_digit = ap (λ (m : ℕ). m / power) s.left_is ∙ goes_into n some_power

  -- the power goes into what is left, and into less, at most nine times
  at_most_nine : {x : ℕ} → x ≤ left → x / power < 10
  at_most_nine h = (div-lt_iff_lt-mul some_power).1 (omega (arith, s.left_is, mod-lt n {m = 10 * power} (omega (arith, some_power))))

  digit_put : n < 10 ^ 20 → Copying before at (word_text n) (set text (at + i) (digit (left / power))) (i + 1)
  digit_put fits =
      let next = digit_at s.others n i fits s.size ∙ ap (λ (p : ℕ). digit (n / p % 10)) (sym s.power_is) ∙ ap digit (sym next_digit) in
      subst (λ (d : ℕ). Copying before at (word_text n) (set text (at + i) d) (i + 1)) next (one_copied s.copying not_spelt)

  -- what is divided has to be what is left
  pub one_spelt : n < 10 ^ 20 → 1 < power → {x : ℕ} → x ≡ left
      → Spelling n before at (set text (at + i) (digit (x / power))) (i + 1) (power / 10) (left % power)
  one_spelt fits h {x} same = go s.others s.size s.power_is
    where
      go : (k : ℕ) → i + suc k ≡ length (word_text n) → power ≡ 10 ^ k
          → Spelling n before at (set text (at + i) (digit (x / power))) (i + 1) (power / 10) (left % power)
      go zero size is = absurd (omega arith)
      go (suc k) size is =
          let tenth : power / 10 ≡ 10 ^ k = omega (arith, pow-suc 10 k) in
          let whole : power ≡ 10 * (power / 10) = omega (arith, pow-suc 10 k) in
          record {
            others = k;
            size = omega arith;
            power_is = tenth;
            left_is = ap (λ (m : ℕ). m % power) s.left_is ∙ less_left n some_power ∙ ap (λ (p : ℕ). n % p) whole;
            copying = rw same (digit_put fits);
          }

  -- the last digit is all that is left
  last_alone : power ≤ 1 → s.others ≡ 0
  last_alone h = go s.others s.power_is
    where
      go : (k : ℕ) → power ≡ 10 ^ k → k ≡ 0
      go zero is = refl
      go (suc k) is = absurd (omega (arith, pow-suc 10 k, one-le-pow k 10 (omega arith)))

  last_whole : power ≤ 1 → left / power ≡ left
  last_whole h = let one : power ≡ 1 = omega (arith, some_power) in ap (λ (p : ℕ). left / p) one ∙ div-one left

  pub nine_left : power ≤ 1 → left < 10
  nine_left h = omega (arith, last_whole h, at_most_nine (le_refl left))

  pub all_spelt : n < 10 ^ 20 → power ≤ 1 → Put before at (word_text n) (set text (at + i) (digit left)) (at + i + 1)
  all_spelt fits h =
      let p = all_copied (digit_put fits) (omega (arith, s.size, last_alone h)) in
      record { end = omega (arith, p.end); buffer = rw (last_whole h) at p.buffer }
