use mathlib.Core.Bool.{Bool}
use mathlib.Core.List.{List}
use mathlib.Core.Path.{◌≡◌, ap, ◌∙◌}
use Prim.Native.Nat.{ℕ}
use lib.IntN.{ℤ}
use Rattle.rules.specs.declared.Place.{Place}
use Rattle.rules.specs.declared.Point.{Point}
use Rattle.rules.specs.declared.Rule.TheVariants.{Outside}
use Rattle.rules.specs.declared.Window.{Window}
use Rattle.rules.specs.Boxes.{holds, window_box}
use Rattle.rules.specs.Frame.{code_at, point_of}
use Rattle.rules.specs.Refusals.{refuse_unless}
use Rattle.rules.specs.Told.{Checked}
use Rattle.laws.specs.Checking.{checked_by}
use Rattle.laws.proofs.Turns.{turn_kept, turn_broken, turns_over}
use Rattle.answer.proofs.check_leaves.Invariants.{rule}
use Rattle.answer.proofs.check_leaves.Goals as goal

-- sample k was held against the window
module _ (w : Window) (samples : List ℤ) (place : Place) (k : ℕ) {p : Point} (is : p ≡ point_of place k (code_at samples k)) where
  held : {b : Bool} → b ≡ holds (window_box w) p → {r : Checked} → r ≡ checked_by (refuse_unless b Outside k) → r ≡ checked_by (rule w samples place k)
  held e told = told ∙ ap (λ (b : Bool). checked_by (refuse_unless b Outside k)) (e ∙ ap (holds (window_box w)) is)

pub returns-in_err-refuse_unless : goal.returns-in_err-refuse_unless
returns-in_err-refuse_unless c =
    turn_broken (rule c.args.w c.args.samples.now c.args.place) c.loop-k.invariant c.loop-k-test.true c.from_residual.ensures.1
    (held c.args.w c.args.samples.now c.args.place c.loop-k.k c.point_at.ensures.value c.in_window-inside.ensures c.in_err-refuse_unless.ensures)

pub loop-k-preserved : goal.loop-k-preserved
loop-k-preserved c =
    turn_kept (rule c.args.w c.args.samples.now c.args.place) c.loop-k.invariant c.loop-k-test.true
    (held c.args.w c.args.samples.now c.args.place c.loop-k.k c.point_at.ensures.value c.in_window-inside.ensures c.in_ok-refuse_unless.ensures)

pub returns : goal.returns
returns c = turns_over (rule c.args.w c.args.samples.now c.args.place) c.loop-k.invariant c.loop-k-test.false
