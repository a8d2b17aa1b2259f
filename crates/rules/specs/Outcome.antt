-- Section 13 of docs/RULES.md: what a call leaves in a lent buffer.
use Rattle.std.specs.Prelude.{List, ◌++◌, length, drop}
use Rattle.std.proofs.Math.Option.{Option, none, some}
use Rattle.rules.specs.declared.Refusal.{Refusal}

module _ {A : Type 0} where
  -- a result at the buffer's start; what lies beyond it stays
  abbrev pub over : List A → List A → List A
  over result buffer = result ++ drop (length result) buffer

  -- a refusal leaves the buffer as it was
  abbrev pub leave : Option Refusal → List A → List A → List A
  leave none result buffer = over result buffer
  leave (some r) result buffer = buffer
