-- What a call can tell (section 12 of docs/RULES.md): a refusal tells a number of the table of refusals, any other answer 0, and a hit that at
-- least one sample is inside.
use Rattle.std.specs.Prelude.{ℕ, ◌≤◌, ◌≡◌}
use Rattle.rules.specs.Told.{Tale, sound, inside, outside, clear, hit, wrote, refusal, Told}

-- the table of refusals ends with this number
abbrev pub last_refusal : ℕ
last_refusal = 15

-- a number of the table of refusals
abbrev pub InTable : ℕ → Type 0
InTable number = (1 ≤ number) × (number ≤ last_refusal)

abbrev pub PossibleTale : ℕ → Tale → Type 0
PossibleTale number sound = number ≡ 0
PossibleTale number inside = number ≡ 0
PossibleTale number outside = number ≡ 0
PossibleTale number clear = number ≡ 0
PossibleTale number (hit first count) = (number ≡ 0) × (1 ≤ count)
PossibleTale number (wrote n) = number ≡ 0
PossibleTale number (refusal value) = InTable number

abbrev pub Possible : Told → Type 0
Possible told = PossibleTale told.number told.tale
