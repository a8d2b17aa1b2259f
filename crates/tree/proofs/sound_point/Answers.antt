use mathlib.Core.Path.{◌≡◌, ap, ◌∙◌}
use Rattle.rules.specs.declared.Point.{Point}
use Rattle.rules.specs.declared.Window.{Window}
use Rattle.rules.specs.Boxes.{window_box, full_range, everywhere}
use Rattle.rules.specs.Told.{Checked}
use Rattle.rules.specs.TreeCalls.{point_refusal, TreeLocated}
use Rattle.laws.specs.Checking.{checked_by}
use Rattle.laws.proofs.Soundness.{table_sound}
use Rattle.laws.proofs.Telling.{point_holds, went_on, stopped}
use Rattle.laws.proofs.Turns.{on_exit}
use Rattle.tree.proofs.Calls.{point_out, point_fine}
use Rattle.tree.proofs.sound_point.Goals as goal

-- the window that was asked is the range of all points
placed : {w : Window} → w ≡ full_range → (p : Point) {r : Checked} → r ≡ checked_by (point_refusal (window_box w) p) → r ≡ checked_by (point_refusal everywhere p)
placed e p h = h ∙ ap (λ (w : Window). checked_by (point_refusal (window_box w) p)) e

pub inside_at-requires : goal.inside_at-requires
inside_at-requires c = record {
  ready = table_sound c.args.table.now c.requires;
  p_value = point_holds everywhere c.args.p (went_on _ (placed c.everywhere.ensures c.args.p c.in_ok-check_point.ensures));
}

pub returns-in_err-check_point : goal.returns-in_err-check_point
returns-in_err-check_point c =
    on_exit (TreeLocated c.args.table.now c.args.p) c.from_residual.ensures.1
    (point_out c.args.table.now c.args.p c.requires (stopped _ (placed c.everywhere.ensures c.args.p c.in_err-check_point.ensures)))

pub returns : goal.returns
returns c =
    point_fine c.args.table.now c.args.p c.requires (went_on _ (placed c.everywhere.ensures c.args.p c.in_ok-check_point.ensures)) c.inside_at.ensures
