use mathlib.Core.Path.{◌≡◌, ap, ◌∙◌}
use Rattle.rules.specs.declared.Point.{Point}
use Rattle.rules.specs.Boxes.{Box}
use Rattle.rules.specs.ListCalls.{ListLocated}
use Rattle.rules.specs.ListWords.{list_window}
use Rattle.rules.specs.Told.{Checked}
use Rattle.rules.specs.TreeCalls.{point_refusal}
use Rattle.laws.specs.Checking.{checked_by}
use Rattle.laws.proofs.Held.{list_window_in_range}
use Rattle.laws.proofs.SoundLists.{list_sound}
use Rattle.laws.proofs.Telling.{point_holds, went_on, stopped}
use Rattle.laws.proofs.Turns.{on_exit}
use Rattle.answer.proofs.Calls.{point_out, point_fine}
use Rattle.answer.proofs.point_in.Goals as goal

-- the window that was asked is the list's
placed : {a b : Box} → a ≡ b → (p : Point) {r : Checked} → r ≡ checked_by (point_refusal a p) → r ≡ checked_by (point_refusal b p)
placed e p h = h ∙ ap (λ (b : Box). checked_by (point_refusal b p)) e

pub window_of-requires : goal.window_of-requires
window_of-requires c = list_sound c.args.list.now c.requires.list_right

pub inside_at-requires : goal.inside_at-requires
inside_at-requires c =
    let list = c.args.list.now in
    let at = went_on _ (placed c.window_of.ensures c.args.p c.in_ok-check_point.ensures) in record {
      ready = c.requires;
      p_value = list_window_in_range list (list_sound list c.requires.list_right).header c.args.p (point_holds (list_window list) c.args.p at);
    }

pub returns-in_err-check_point : goal.returns-in_err-check_point
returns-in_err-check_point c =
    on_exit (ListLocated c.args.table.now c.args.list.now c.args.p) c.from_residual.ensures.1
    (point_out c.args.table.now c.args.list.now c.args.p c.requires (stopped _ (placed c.window_of.ensures c.args.p c.in_err-check_point.ensures)))

pub returns : goal.returns
returns c =
    point_fine c.args.table.now c.args.list.now c.args.p c.requires (went_on _ (placed c.window_of.ensures c.args.p c.in_ok-check_point.ensures)) c.inside_at.ensures
