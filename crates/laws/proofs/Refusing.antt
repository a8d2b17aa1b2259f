-- What every refusal of a rule has, from the rules that it is made of; and what is told by such a rule. Assumes nothing.
use Prim.Native.Nat.{ℕ, ◌<◌}
use native.Mathlib.Omega.{arith}
use mathlib.Core.Bool.{Bool, true, false}
use mathlib.Core.List.{List, [], ◌∷◌, map}
use mathlib.Core.Option.{Option, none, some}
use mathlib.Core.Path.{◌≡◌, refl, sym, subst}
use Rattle.ground.specs.Lists.{All, rest, first_of, rulings}
use Rattle.ground.proofs.Counting.{all_made}
use Rattle.rules.specs.declared.Refusal.{Refusal}
use Rattle.rules.specs.declared.Rule.{Rule}
use Rattle.rules.specs.Refusals.{refuse, refuse_if, refuse_unless}
use Rattle.rules.specs.Told.{Tale, Told, fine, refused, tell}

-- whatever the rule refuses with has the property
pub record Gives (P : Refusal → Type 0) (rule : Option Refusal) : Type 0 where
  pub each : {q : Refusal} → rule ≡ some q → P q

module _ (P : Refusal → Type 0) where
  pub none_gives : Gives P none
  none_gives = record { each = λ e. let z : ◌≡◌ {A = ℕ} 0 1 = cc in absurd (omega arith) }

  pub refuse_gives : (rule : Rule) (value : ℕ) → P (record { rule = rule; value = value }) → Gives P (refuse rule value)
  refuse_gives rule value p = record { each = λ {q} e. let same : record { rule = rule; value = value } ≡ q = cc in subst P same p }

  pub if_gives : (b : Bool) (rule : Rule) (value : ℕ) → P (record { rule = rule; value = value }) → Gives P (refuse_if b rule value)
  if_gives true rule value p = refuse_gives rule value p
  if_gives false rule value p = none_gives

  pub unless_gives : (b : Bool) (rule : Rule) (value : ℕ) → P (record { rule = rule; value = value }) → Gives P (refuse_unless b rule value)
  unless_gives true rule value p = none_gives
  unless_gives false rule value p = refuse_gives rule value p

  -- the first of several rules that is broken
  pub first_gives : (rules : List (Option Refusal)) → All (Gives P) rules → Gives P (first_of rules)
  unfolding first_of
  first_gives [] all = none_gives
  first_gives (none ∷ rules) all = first_gives rules all.1
  first_gives (some q ∷ rules) all = all.0

  -- a rule for each of the numbers below n
  pub rulings_give : (rule : ℕ → Option Refusal) (n : ℕ) → ((k : ℕ) → k < n → Gives P (rule k)) → Gives P (rulings rule 0 n)
  rulings_give rule n each = first_gives (map rule (rest 0 n)) (all_made (Gives P) rule n each)

-- what a refusal of the rule tells, or else the tale
pub told_by : (P : Told → Type 0) (rule : Option Refusal) (tale : Tale) → Gives (λ q. P (refused q)) rule → (rule ≡ none → P (fine tale))
    → {told : Told} → told ≡ tell rule tale → P told
told_by P none tale gives fine e = subst P (sym e) (fine refl)
told_by P (some q) tale gives fine e = subst P (sym e) (gives.each refl)
