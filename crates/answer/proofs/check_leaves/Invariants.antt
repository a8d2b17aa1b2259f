use Prim.Native.Nat.{ℕ}
use mathlib.Core.List.{List}
use mathlib.Core.Option.{Option}
use mathlib.Core.Path.{◌≡◌}
use lib.IntN.{ℤ}
use lib.ListN.{length}
use Rattle.ground.specs.Lists.{rulings}
use Rattle.rules.specs.declared.Rule.TheVariants.{Outside}
use Rattle.rules.specs.Boxes.{holds, window_box}
use Rattle.rules.specs.Frame.{code_at, point_of}
use Rattle.rules.specs.Refusals.{refuse_unless}
use Rattle.rules.specs.declared.Place.{Place}
use Rattle.rules.specs.declared.Refusal.{Refusal}
use Rattle.rules.specs.declared.Window.{Window}
use Rattle.answer.proofs.check_leaves.Given as goal

-- sample k is in the window
abbrev pub rule : Window → List ℤ → Place → ℕ → Option Refusal
rule w samples place k = refuse_unless (holds (window_box w) (point_of place k (code_at samples k))) Outside k

abbrev pub invariant-loop-k : goal.invariant-loop-k
invariant-loop-k l = rulings (rule l.w l.samples l.place) 0 (length l.samples) ≡ rulings (rule l.w l.samples l.place) l.k (length l.samples)
