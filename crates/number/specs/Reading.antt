-- Which number stands at a position of a text, and what reading it answers.
use Rattle.std.specs.Prelude.{ℕ, suc, ◌+◌, ◌-◌, ◌*◌, ◌≤◌, Bool, false, List, [], ◌∷◌, ◌++◌, ◌≡◌, ltb, ℤ, pos, neg_ℤ, length, take, drop, if◌then◌else◌, Option, Some, SomeIff}
use Rattle.std.specs.Option.{ForSome}
use Rattle.std.specs.Char.{is_ascii_digit}
use Rattle.rules.specs.Text.{digit, number_text}
use Rattle.rules.specs.TextForm.{Word32}
use Rattle.number.specs.declared.Found.{Found}

-- a number has ended before these bytes
abbrev pub Ended : List ℕ → Type 0
Ended [] = Unit {0}
Ended (b ∷ bs) = is_ascii_digit b ≡ false

-- the number v stands at a position of a text, and after it the rest
pub record Stands (text : List ℕ) (at : ℕ) (v : ℤ) (rest : List ℕ) : Type 0 where
  pub fits : Word32 v
  pub split : drop at text ≡ number_text v ++ rest
  pub ends : Ended rest

-- something that was read, and the position after it
abbrev pub found : {A : Type 0} → A → ℕ → Found A
found v next = record { value = v; next = next }

-- some number just if one stands there; then it is this one, and it ends here
pub record ReadsNumber (text : List ℕ) (at : ℕ) (o : Option (Found ℤ)) : Type 0 where
  pub sound : ForSome o (λ n. (at ≤ n.next) × (n.next ≤ length text) × Stands text at n.value (drop n.next text))
  pub complete : (v : ℤ) (rest : List ℕ) → Stands text at v rest → o ≡ Some (found v (at + length (number_text v)))

-- ---- the guess

-- one digit more; what has ten digits stays as it is, so that a run may have any length
abbrev pub grown : ℕ → ℕ → ℕ
grown v b = if ltb v 1000000000 then v * 10 + (b - digit 0) else v

-- what the digits at the head of some bytes, after others worth v, are worth with these, and the position after them
unfoldable pub scanned : ℕ → ℕ → List ℕ → Found ℕ
scanned v at [] = found v at
scanned v at (b ∷ bs) = if is_ascii_digit b then scanned (grown v b) (suc at) bs else found v at

-- the number of a sign and a magnitude
abbrev pub with_sign : Bool → ℕ → ℤ
with_sign minus n = if minus then neg_ℤ (pos n) else pos n

-- the guess v, which ends before `next`: some just if the text up to there is its own
abbrev pub Confirmed : List ℕ → ℕ → ℕ → ℤ → Option (Found ℤ) → Type 0
Confirmed text at next v o = SomeIff o (take (next - at) (drop at text) ≡ number_text v) (found v next)
