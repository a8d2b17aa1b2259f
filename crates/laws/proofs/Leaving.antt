-- What a call that writes tells and leaves: a refusal, and the buffer as it was; or its words at the buffer's start. Assumes nothing.
use Rattle.std.specs.Prelude.{Ok, Err}
use Prim.Native.Nat.{ℕ, ◌≤◌}
use native.Mathlib.Nat.{zero-add}
use native.Mathlib.Omega.{arith}
use mathlib.Core.List.{List, ◌++◌}
use mathlib.Core.Option.{Option, none, some}
use mathlib.Core.Path.{◌≡◌, sym, ap, ◌∙◌}
use lib.ListN.{length, drop}
use lib.Seq.{sets, sets-eq}
use Rattle.rules.specs.declared.Refusal.{Refusal}
use Rattle.rules.specs.Outcome.{leave}
use Rattle.rules.specs.Told.{Written, wrote, tell, told_written}

module _ {A : Type 0} (rule : Option Refusal) (n : ℕ) (words before : List A) where
  pub record Left (after : List A) (r : Written) : Type 0 where
    pub answer : told_written r ≡ tell rule (wrote n)
    pub buffer : after ≡ leave rule words before

  pub as_it_was : {q : Refusal} → rule ≡ some q → Left before (Err q)
  as_it_was h = record {
    answer = sym (ap (λ (x : Option Refusal). tell x (wrote n)) h);
    buffer = sym (ap (λ (x : Option Refusal). leave x words before) h);
  }

  pub at_its_start : rule ≡ none → length words ≡ n → n ≤ length before → {after : List A} → after ≡ sets before 0 words → Left after (Ok n)
  at_its_start h size fits is =
      let whole = sets-eq words before 0 (omega (arith, size, fits)) ∙ ap (λ (k : ℕ). words ++ drop k before) (zero-add (length words)) in
      record {
        answer = sym (ap (λ (x : Option Refusal). tell x (wrote n)) h);
        buffer = is ∙ whole ∙ sym (ap (λ (x : Option Refusal). leave x words before) h);
      }
