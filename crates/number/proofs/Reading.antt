-- Which number stands at a position: the guess from its digits finds it, and what is confirmed is its text. Assumes nothing.
use Prim.Native.Nat.{ℕ, suc, ◌+◌, ◌-◌, ◌≤◌, ◌<◌}
use native.Mathlib.Nat.{add-zero}
use native.Mathlib.Omega.{arith}
use mathlib.Core.Bool.{Bool, true, false}
use mathlib.Core.List.{List, ◌++◌}
use mathlib.Core.Path.{◌≡◌, refl, sym, ap, subst, ◌∙◌}
use borrow.Author.Tests.{eqb-true, eqb-false}
use lib.Dec.{eqb}
use lib.IntN.{ℤ, pos, negsuc}
use lib.ListN.{length, get_or, take, drop, length-append, length-drop, take-append-drop, get_or-append}
use lib.Seq.{drop-drop, get_or-drop, take-append_seam}
use Rattle.std.specs.Bool.{Decides, then_some}
use Rattle.std.specs.Int.{from_bool}
use Rattle.std.specs.Prelude.{Option, None, Some}
use Rattle.ground.proofs.Branches.{false_true}
use Rattle.ground.proofs.Lists.{all_at}
use Rattle.rules.specs.Text.{minus, decimal, number_text}
use Rattle.rules.specs.TextForm.{Word32}
use Rattle.rules.proofs.Numbers.{Digit, digits}
use Rattle.number.specs.declared.Found.{Found}
use Rattle.number.specs.Reading.{Ended, Stands, found, ReadsNumber, scanned, with_sign, Confirmed}
use Rattle.number.proofs.Digits.{some_digit, some_byte}
use Rattle.number.proofs.Scanning.{scan_halts, scan_decimal}

module _ (text : List ℕ) (at : ℕ) where
  first_byte : {bytes : List ℕ} → drop at text ≡ bytes → get_or text at 0 ≡ get_or bytes 0 0
  first_byte e = ap (λ (i : ℕ). get_or text i 0) (sym (add-zero at)) ∙ sym (get_or-drop at text 0 0) ∙ ap (λ (bs : List ℕ). get_or bs 0 0) e

  -- a number without a sign begins with a digit
  no_minus : (n : ℕ) (rest : List ℕ) → drop at text ≡ decimal n ++ rest → get_or text at 0 ≡ minus → ⊥
  no_minus n rest e h =
      let some = some_digit 9 n in
      let d : Digit (get_or (decimal n) 0 0) = all_at Digit 0 (decimal n) (digits 10 n) 0 some in
      let first : get_or text at 0 ≡ get_or (decimal n) 0 0 = first_byte e ∙ get_or-append (decimal n) rest 0 0 some in
      omega (arith, d.least)

  -- nothing stands after the end
  stands_before_end : length text ≤ at → (v : ℤ) (rest : List ℕ) → Stands text at v rest → ⊥
  stands_before_end h v rest s = omega (arith, ap length s.split, length-append (number_text v) rest, length-drop at text, some_byte v)

  pub none_after_end : length text ≤ at → ReadsNumber text at None
  none_after_end h = record { sound = λ n e. cc; complete = λ v rest s. absurd (stands_before_end h v rest s) }

  -- ---- the guess

  -- whichever number stands there, it is v and ends before `next`
  abbrev Guessed : ℤ → ℕ → Type 0
  Guessed v next = (w : ℤ) (rest : List ℕ) → Stands text at w rest → (v ≡ w) × (next ≡ at + length (number_text w))

  module _ {run : Found ℕ} where
    pub guessed : (b : Bool) → (b ≡ true → get_or text at 0 ≡ minus) → (b ≡ false → get_or text at 0 ≡ minus → ⊥)
        → run ≡ scanned 0 (at + from_bool b) (drop (at + from_bool b) text) → Guessed (with_sign b run.value) run.next
    guessed true h other e (pos n) rest s = absurd (no_minus n rest s.split (h refl))
    guessed true h other e (negsuc k) rest s =
        let few = s.fits.fits in
        let after = sym (drop-drop 1 at text) ∙ ap (drop 1) s.split in
        let r = e ∙ scan_decimal (suc k) (at + 1) rest (drop (at + 1) text) (omega arith) s.ends after in
        let n : run.value ≡ suc k = ap (λ (x : Found ℕ). x.value) r in
        (ap (with_sign true) n, omega (arith, ap (λ (x : Found ℕ). x.next) r))
    guessed false h other e (pos n) rest s =
        let few = s.fits.fits in
        let stand : drop (at + 0) text ≡ decimal n ++ rest = ap (λ (i : ℕ). drop i text) (add-zero at) ∙ s.split in
        let r = e ∙ scan_decimal n (at + 0) rest (drop (at + 0) text) (omega arith) s.ends stand in
        (ap (λ (x : Found ℕ). pos x.value) r, omega (arith, ap (λ (x : Found ℕ). x.next) r))
    guessed false h other e (negsuc k) rest s = absurd (other refl (first_byte s.split))

  -- its digits stop in the text, before a byte that is none
  pub record Stops (next : ℕ) : Type 0 where
    pub after : at ≤ next
    pub inside : next ≤ length text
    pub ended : Ended (drop next text)

  pub run_stops : {run : Found ℕ} (from : ℕ) → at ≤ from → from ≤ length text → run ≡ scanned 0 from (drop from text) → Stops run.next
  run_stops {run} from l h e =
      let r = scan_halts (drop from text) 0 from in
      let next : run.next ≡ from + r.count = ap (λ (x : Found ℕ). x.next) e ∙ r.place in
      record {
        after = omega arith;
        inside = omega (arith, r.within, length-drop from text);
        ended = subst Ended (drop-drop r.count from text ∙ ap (λ (i : ℕ). drop i text) (sym next)) r.ended;
      }

  -- what is read from a byte on that may be a minus
  module _ {byte from : ℕ} {run : Found ℕ} (inside : at < length text) (is : byte ≡ get_or text at 0) (from_is : from ≡ from_bool (eqb byte minus))
      (e : run ≡ scanned 0 (at + from) (drop (at + from) text)) where
    pub read_stops : Stops run.next
    read_stops =
        let few : (b : Bool) → from_bool b ≤ 1 = λ b. elim b as (λ x. from_bool x ≤ 1) [ true ↦ omega arith | false ↦ omega arith ] in
        run_stops (at + from) (omega arith) (omega (arith, few (eqb byte minus))) e

    pub read_guess : Guessed (with_sign (eqb byte minus) run.value) run.next
    read_guess =
        guessed (eqb byte minus) (λ h. sym is ∙ eqb-true byte minus h) (λ h k. eqb-false byte minus h (is ∙ k))
        (subst (λ (i : ℕ). run ≡ scanned 0 (at + i) (drop (at + i) text)) from_is e)

  -- ---- the guess, confirmed

  pub confirmed : (next : ℕ) {v w : ℤ} {own : List ℕ} {right : Bool} {o : Option (Found ℤ)} → own ≡ number_text v → w ≡ v
      → Decides right (take (next - at) (drop at text) ≡ own) → o ≡ then_some right (found w next) → Confirmed text at next v o
  confirmed next {v} {w} {own} {right} {o} own_is value_is says answer = go right says answer
    where
      go : (b : Bool) → Decides b (take (next - at) (drop at text) ≡ own) → o ≡ then_some b (found w next) → Confirmed text at next v o
      go true d e = rw e (d.0 refl ∙ own_is, ap (λ (z : ℤ). found z next) value_is)
      go false d e = rw e (λ same. false_true (d.1 (same ∙ sym own_is)))

  module _ {v : ℤ} {next : ℕ} (stops : Stops next) (guess : Guessed v next) where
    -- what has no place in 32 bits is no number
    pub none_fits : (Word32 v → ⊥) → ReadsNumber text at None
    none_fits h = record {
      sound = λ n e. cc;
      complete = λ w rest s. absurd (h (subst Word32 (sym (guess w rest s).0) s.fits));
    }

    abbrev Spelt : Type 0
    Spelt = take (next - at) (drop at text) ≡ number_text v

    stands : Word32 v → Spelt → Stands text at v (drop next text)
    stands fits spelt =
        let place : at + (next - at) ≡ next = omega (arith, stops.after) in
        let rest = drop-drop (next - at) at text ∙ ap (λ (i : ℕ). drop i text) place in
        let split = sym (take-append-drop (next - at) (drop at text)) ∙ (λ i. spelt i ++ rest i) in
        record { fits = fits; split = split; ends = stops.ended }

    spelt_by : (w : ℤ) (rest : List ℕ) → Stands text at w rest → Spelt
    spelt_by w rest s =
        let g = guess w rest s in
        let size : next - at ≡ length (number_text w) = omega (arith, g.1) in
        (λ i. take (size i) (s.split i)) ∙ take-append_seam (number_text w) rest ∙ ap number_text (sym g.0)

    pub confirmed_reads : Word32 v → {o : Option (Found ℤ)} → Confirmed text at next v o → ReadsNumber text at o
    confirmed_reads fits {o = None} c = record { sound = λ n e. cc; complete = λ w rest s. absurd (c (spelt_by w rest s)) }
    confirmed_reads fits {o = Some m} c = record {
      sound = λ n e.
          let same : n ≡ found v next = cc in
          subst (λ (x : Found ℤ). (at ≤ x.next) × (x.next ≤ length text) × Stands text at x.value (drop x.next text)) (sym same)
          (stops.after, stops.inside, stands fits c.0);
      complete = λ w rest s. let g = guess w rest s in ap Some (c.1 ∙ (λ i. found (g.0 i) (g.1 i)));
    }
