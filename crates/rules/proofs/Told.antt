-- An answer is what it tells: no two answers tell the same, in three words too, and the answer of a call that writes tells what it had to refuse.
-- Assumes nothing.
use Prim.Native.Nat.{ℕ, ◌≤◌}
use Rattle.std.specs.Prelude.{true, false, Ok, Err}
use native.Mathlib.Omega.{arith}
use mathlib.Core.List.{List, ◌∷◌, head-eq_of_cons-eq, tail-eq_of_cons-eq}
use mathlib.Core.Option.{Option, none, some}
use mathlib.Core.Path.{◌≡◌, refl, sym, ap, ◌∙◌}
use Rattle.rules.specs.declared.Refusal.{Refusal}
use Rattle.rules.specs.declared.Rule.{Rule}
use Rattle.rules.specs.declared.Rule.TheVariants as rule
use Rattle.rules.specs.declared.Searched.{Searched}
use Rattle.rules.specs.declared.Searched.TheVariants as searched
use Rattle.rules.specs.Rules.{number_of, rule_of}
use Rattle.rules.specs.Screen.{triple_of}
use Rattle.rules.specs.Told.{Checked, Located, Written, Told, wrote, fine, refused, tell, told_checked, told_located, told_searched, told_written}

tale : {a b : Told} → a ≡ b → a.tale ≡ b.tale
tale e = ap (λ (t : Told). t.tale) e

-- no two rules have one number
pub rule_back : (r : Rule) → rule_of (number_of r) ≡ r
rule_back rule.Length = refl
rule_back rule.Kind = refl
rule_back rule.Fields = refl
rule_back rule.Children = refl
rule_back rule.Once = refl
rule_back rule.Bound = refl
rule_back rule.Choices = refl
rule_back rule.Room = refl
rule_back rule.List = refl
rule_back rule.Outside = refl
rule_back rule.Primitives = refl
rule_back rule.Frame = refl
rule_back rule.Text = refl
rule_back rule.Leaves = refl
rule_back rule.Ways = refl

pub number_bounds : (r : Rule) → (1 ≤ number_of r) × (number_of r ≤ 15)
number_bounds rule.Length = (omega arith, omega arith)
number_bounds rule.Kind = (omega arith, omega arith)
number_bounds rule.Fields = (omega arith, omega arith)
number_bounds rule.Children = (omega arith, omega arith)
number_bounds rule.Once = (omega arith, omega arith)
number_bounds rule.Bound = (omega arith, omega arith)
number_bounds rule.Choices = (omega arith, omega arith)
number_bounds rule.Room = (omega arith, omega arith)
number_bounds rule.List = (omega arith, omega arith)
number_bounds rule.Outside = (omega arith, omega arith)
number_bounds rule.Primitives = (omega arith, omega arith)
number_bounds rule.Frame = (omega arith, omega arith)
number_bounds rule.Text = (omega arith, omega arith)
number_bounds rule.Leaves = (omega arith, omega arith)
number_bounds rule.Ways = (omega arith, omega arith)

pub rule_once : (r s : Rule) → number_of r ≡ number_of s → r ≡ s
rule_once r s e = sym (rule_back r) ∙ ap rule_of e ∙ rule_back s

refusal_once : (p q : Refusal) → refused p ≡ refused q → p ≡ q
refusal_once p q e =
    let n : p.rule ≡ q.rule = rule_once p.rule q.rule (ap (λ (t : Told). t.number) e) in
    let t = tale e in
    let v : p.value ≡ q.value = cc in
    λ i. record { rule = n i; value = v i }

pub checked_once : (a b : Checked) → told_checked a ≡ told_checked b → a ≡ b
checked_once (Ok _) (Ok _) e = refl
checked_once (Ok _) (Err q) e = let t = tale e in cc
checked_once (Err p) (Ok _) e = let t = tale e in cc
checked_once (Err p) (Err q) e = ap Err (refusal_once p q e)

pub located_once : (a b : Located) → told_located a ≡ told_located b → a ≡ b
located_once (Ok true) (Ok true) e = refl
located_once (Ok true) (Ok false) e = let t = tale e in cc
located_once (Ok true) (Err q) e = let t = tale e in cc
located_once (Ok false) (Ok true) e = let t = tale e in cc
located_once (Ok false) (Ok false) e = refl
located_once (Ok false) (Err q) e = let t = tale e in cc
located_once (Err p) (Ok true) e = let t = tale e in cc
located_once (Err p) (Ok false) e = let t = tale e in cc
located_once (Err p) (Err q) e = ap Err (refusal_once p q e)

pub searched_once : (a b : Searched) → told_searched a ≡ told_searched b → a ≡ b
searched_once searched.Clear searched.Clear e = refl
searched_once searched.Clear (searched.Hit g d) e = let t = tale e in cc
searched_once searched.Clear (searched.Refused q) e = let t = tale e in cc
searched_once (searched.Hit f c) searched.Clear e = let t = tale e in cc
searched_once (searched.Hit f c) (searched.Hit g d) e = let t = tale e in cc
searched_once (searched.Hit f c) (searched.Refused q) e = let t = tale e in cc
searched_once (searched.Refused p) searched.Clear e = let t = tale e in cc
searched_once (searched.Refused p) (searched.Hit g d) e = let t = tale e in cc
searched_once (searched.Refused p) (searched.Refused q) e = ap searched.Refused (refusal_once p q e)

-- the words of two answers, from the first on
module _ {a b : ℕ} {xs ys : List ℕ} (e : a ∷ xs ≡ b ∷ ys) where
  here : a ≡ b
  here = head-eq_of_cons-eq e

  after : xs ≡ ys
  after = tail-eq_of_cons-eq e

pub triple_once : (a b : Searched) → triple_of (told_searched a) ≡ triple_of (told_searched b) → a ≡ b
triple_once searched.Clear searched.Clear e = refl
triple_once searched.Clear (searched.Hit g d) e = absurd (omega (arith, here e))
triple_once searched.Clear (searched.Refused q) e = absurd (omega (arith, here e))
triple_once (searched.Hit f c) searched.Clear e = absurd (omega (arith, here e))
triple_once (searched.Hit f c) (searched.Hit g d) e = λ i. searched.Hit (here (after e) i) (here (after (after e)) i)
triple_once (searched.Hit f c) (searched.Refused q) e = absurd (omega (arith, here e))
triple_once (searched.Refused p) searched.Clear e = absurd (omega (arith, here e))
triple_once (searched.Refused p) (searched.Hit g d) e = absurd (omega (arith, here e))
triple_once (searched.Refused p) (searched.Refused q) e =
    let n : p.rule ≡ q.rule = rule_once p.rule q.rule (omega (arith, here e)) in
    λ i. searched.Refused (record { rule = n i; value = here (after e) i })

pub written_once : (a b : Written) → told_written a ≡ told_written b → a ≡ b
written_once (Ok m) (Ok n) e = let t = tale e in cc
written_once (Ok m) (Err q) e = let t = tale e in cc
written_once (Err p) (Ok n) e = let t = tale e in cc
written_once (Err p) (Err q) e = ap Err (refusal_once p q e)

-- a call that wrote had nothing to refuse, and one that refused had this refusal
pub wrote_none : (x : Option Refusal) (m n : ℕ) → fine (wrote n) ≡ tell x (wrote m) → (x ≡ none) × (n ≡ m)
wrote_none none m n e = let t = tale e in (refl, cc)
wrote_none (some q) m n e = let t = tale e in let z : ◌≡◌ {A = ℕ} 0 1 = cc in absurd (omega arith)

pub refused_some : (x : Option Refusal) (m : ℕ) (r : Refusal) → refused r ≡ tell x (wrote m) → x ≡ some r
refused_some none m r e = let t = tale e in cc
refused_some (some q) m r e = ap some (sym (refusal_once r q e))
