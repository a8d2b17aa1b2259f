-- An answer that meets its call's record is a refusal just where the rules refuse; a hit, or clear, is what the search came to. Assumes nothing.
use Rattle.std.specs.Prelude.{Err}
use Prim.Native.Nat.{ℕ}
use native.Mathlib.Omega.{arith}
use mathlib.Core.Bool.{Bool, true, false}
use mathlib.Core.List.{List, [], ◌∷◌}
use mathlib.Core.Logic.{◌⊎◌, inl, inr}
use mathlib.Core.Option.{Option, none, some}
use mathlib.Core.Path.{◌≡◌, refl, sym, ap, subst, ◌∙◌}
use lib.IntN.{ℤ}
use lib.ListN.{length}
use Rattle.ground.specs.Lists.{first_of}
use Rattle.rules.specs.declared.Refusal.{Refusal}
use Rattle.rules.specs.declared.Searched.{Searched}
use Rattle.rules.specs.Refusals.{room_refusal}
use Rattle.rules.specs.TextCalls.{table_read, read_refusal, TextRead}
use Rattle.rules.specs.TextForm.{TextForm}
use Rattle.rules.specs.Told.{Located, Written, Tale, Told, sound, clear, hit, wrote, refusal, fine, refused, tell, told_checked, told_located, told_searched, told_written}
use Rattle.rules.specs.TreeCalls.{point_tale, search_tale, TableChecked}
use Rattle.rules.specs.Verdict.{table_refusal}
use Rattle.rules.proofs.Settled.{checked_settled, form_once}
use Rattle.rules.proofs.Told.{checked_once, written_once}
use Rattle.promises.specs.Promises.{OnlyAnswers, Writes}

tale_of : {a b : Told} → a ≡ b → a.tale ≡ b.tale
tale_of e = ap (λ (told : Told). told.tale) e

never : ◌≡◌ {A = ℕ} 0 1 → ⊥
never e = omega arith

-- ---- what was told for the refusal x, if there is one, and else a tale that is none

abbrev NoRefusal : Tale → Type 0
NoRefusal tale = (v : ℕ) → refusal v ≡ tale → ⊥

told_refusal : (x : Option Refusal) (tale : Tale) → NoRefusal tale → {q : Refusal} → refused q ≡ tell x tale → x ≡ some q
told_refusal none tale other {q} e = absurd (other q.value (tale_of e))
told_refusal (some p) tale other {q} e =
    let same = checked_once (Err q) (Err p) e in
    let is : p ≡ q = cc in
    ap some is

pub hit_told : (x : Option Refusal) (found : Option ℕ) (n : ℕ) {first count : ℕ} → fine (hit first count) ≡ tell x (search_tale found n)
    → (found ≡ some first) × (n ≡ count)
hit_told none none n e = let tale = tale_of e in absurd (never (cc))
hit_told none (some k) n e = let tale = tale_of e in (cc, cc)
hit_told (some q) found n e = let tale = tale_of e in absurd (never (cc))

pub clear_told : (x : Option Refusal) (found : Option ℕ) (n : ℕ) → fine clear ≡ tell x (search_tale found n) → found ≡ none
clear_told none none n e = refl
clear_told none (some k) n e = let tale = tale_of e in absurd (never (cc))
clear_told (some q) found n e = let tale = tale_of e in absurd (never (cc))

-- where nothing was refused a search told clear, or a hit
pub search_told : (x : Option Refusal) (found : Option ℕ) (n : ℕ) {told : Told} → told ≡ tell x (search_tale found n) → x ≡ none
    → (told ≡ fine clear) ⊎ ((first : ℕ) × (count : ℕ) × (told ≡ fine (hit first count)))
search_told none none n e none-broken = inl e
search_told none (some first) n e none-broken = inr (first, n, e)
search_told (some q) found n e none-broken = absurd (never (cc))

-- ---- calls that only answer

-- a record that fixes what is told: the refusal x, if there is one, and else a tale that is none
module _ {A : Type 0} (told : A → Told) (x : Option Refusal) (tale : Tale) (other : NoRefusal tale) where
  refuses : (r : A) {q : Refusal} → told r ≡ tell x tale → x ≡ some q → told r ≡ refused q
  refuses r answer e = answer ∙ ap (λ (y : Option Refusal). tell y tale) e

  no_other : (r : A) {q : Refusal} → told r ≡ tell x tale → told r ≡ refused q → x ≡ some q
  no_other r answer e = told_refusal x tale other (sym e ∙ answer)

  answers : {Meets : A → Type 0} → ((r : A) → Meets r → told r ≡ tell x tale) → ((r s : A) → Meets r → Meets s → r ≡ s) → OnlyAnswers told Meets x
  answers answer settled = record {
    settled = λ {r} {s} m n. settled r s m n;
    refuses = λ {r} m e. refuses r (answer r m) e;
    no_other = λ {r} m e. no_other r (answer r m) e;
  }

pub check_answers : (t : List ℤ) → OnlyAnswers told_checked (TableChecked t) (table_refusal t)
check_answers t = answers told_checked (table_refusal t) sound (λ v e. never (cc)) (λ r m. m.answer) (λ r s. checked_settled)

pub point_answers : {Meets : Located → Type 0} (x : Option Refusal) (b : Bool) → ((r : Located) → Meets r → told_located r ≡ tell x (point_tale b))
    → ((r s : Located) → Meets r → Meets s → r ≡ s) → OnlyAnswers told_located Meets x
point_answers x b = answers told_located x (point_tale b) (other b)
  where
    other : (b : Bool) → NoRefusal (point_tale b)
    other true v e = never (cc)
    other false v e = never (cc)

pub search_answers : {Meets : Searched → Type 0} (x : Option Refusal) (found : Option ℕ) (count : ℕ)
    → ((r : Searched) → Meets r → told_searched r ≡ tell x (search_tale found count))
    → ((r s : Searched) → Meets r → Meets s → r ≡ s) → OnlyAnswers told_searched Meets x
search_answers x found count = answers told_searched x (search_tale found count) (other found)
  where
    other : (found : Option ℕ) → NoRefusal (search_tale found count)
    other none v e = never (cc)
    other (some first) v e = never (cc)

-- ---- calls that write

pub writes : {Lent : Type 0} {Meets : Lent → Written → Type 0} {before : Lent} (x : Option Refusal) (n : ℕ)
    → ((after : Lent) (r : Written) → Meets after r → told_written r ≡ tell x (wrote n))
    → ((a b : Lent) (r s : Written) → Meets a r → Meets b s → (r ≡ s) × (a ≡ b))
    → ((after : Lent) (q : Refusal) → Meets after (Err q) → after ≡ before) → Writes Meets before x
writes {Meets = Meets} x n answer settled keeps = record {
  settled = λ {a} {b} {r} {s} m k. settled a b r s m k;
  refuses = λ {after} {r} m e. refuses told_written x (wrote n) other r (answer after r m) e;
  no_other = λ {after} {r} m e. no_other told_written x (wrote n) other r (answer after r m) e;
  unchanged = λ {after} {r} q m e. keeps after q (subst (Meets after) (written_once r (Err q) e) m);
}
  where
    other : NoRefusal (wrote n)
    other v e = never (cc)

-- a text stands in one way only, so its reader answers by any account of how it stands
pub read_answer : {text : List ℕ} (form : TextForm text) {before after : List ℤ} {r : Written} → TextRead text before after r
    → told_written r ≡ tell (read_refusal form (length before)) (wrote (length (table_read form)))
read_answer form {before} read =
    let once = form_once read.form form in
    let rule : (x : Option Refusal) (t : List ℤ) → Option Refusal
    = λ x t. first_of (x ∷ table_refusal t ∷ room_refusal (length t) (length before) ∷ []) in
    read.answer ∙ (λ i. tell (rule (once.0 i) (once.1 i)) (wrote (length (once.1 i))))
