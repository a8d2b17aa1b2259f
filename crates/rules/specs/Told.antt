-- Section 12 of docs/RULES.md: what each answer tells: the number of a refusal, 0 where nothing is refused, and the values that go with it.
use Rattle.std.specs.Prelude.{ℕ, Bool, true, false, ⊤, Result, Ok, Err, Some, None}
use Rattle.std.specs.Prelude as prelude
use Rattle.std.proofs.Math.Option.{Option, none, some}
use Rattle.rules.specs.declared.Hit.{Hit}
use Rattle.rules.specs.declared.Refusal.{Refusal}
use Rattle.rules.specs.declared.Searched.{Searched}
use Rattle.rules.specs.declared.Searched.TheVariants as searched
use Rattle.rules.specs.Rules.{number_of}

-- what the check of a table answers
abbrev pub Checked : Type 0
Checked = Result ⊤ Refusal

-- what a question about one point answers: whether it is inside
abbrev pub Located : Type 0
Located = Result Bool Refusal

-- what the search of a frame answers: a hit, with the first inside sample and how many there are, or that there is none
abbrev pub searched_of : Result (prelude.Option Hit) Refusal → Searched
searched_of (Ok None) = searched.Clear
searched_of (Ok (Some found)) = searched.Hit found.first found.count
searched_of (Err r) = searched.Refused r

-- what a call that writes answers: how many words or bytes it wrote
abbrev pub Written : Type 0
Written = Result ℕ Refusal

pub data Tale : Type 0 where
  sound : Tale
  inside outside : Tale
  clear : Tale
  -- the position of the first inside sample, and the number of inside samples
  hit : ℕ → ℕ → Tale
  -- how many words or bytes
  wrote : ℕ → Tale
  -- the value of a refusal
  refusal : ℕ → Tale

pub record Told : Type 0 where
  pub number : ℕ
  pub tale : Tale

abbrev pub fine : Tale → Told
fine tale = record { number = 0; tale = tale }

abbrev pub refused_by : ℕ → ℕ → Told
refused_by number value = record { number = number; tale = refusal value }

abbrev pub refused : Refusal → Told
refused r = refused_by (number_of r.rule) r.value

-- what an answer tells where nothing is refused
abbrev pub checked_tale : ⊤ → Tale
checked_tale _ = sound

abbrev pub located_tale : Bool → Tale
located_tale true = inside
located_tale false = outside

abbrev pub searched_tale : prelude.Option Hit → Tale
searched_tale None = clear
searched_tale (Some found) = hit found.first found.count

-- and where there may be a refusal
abbrev pub told_by : {A : Type 0} → (A → Tale) → Result A Refusal → Told
told_by tale (Ok x) = fine (tale x)
told_by tale (Err r) = refused r

abbrev pub told_checked : Checked → Told
told_checked = told_by checked_tale

abbrev pub told_located : Located → Told
told_located = told_by located_tale

abbrev pub told_searched : Searched → Told
told_searched searched.Clear = fine clear
told_searched (searched.Hit first count) = fine (hit first count)
told_searched (searched.Refused r) = refused r

abbrev pub told_written : Written → Told
told_written = told_by wrote

-- a refusal where there is one, and else the tale
abbrev pub tell : Option Refusal → Tale → Told
tell none tale = fine tale
tell (some r) tale = refused r
