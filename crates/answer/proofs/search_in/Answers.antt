use mathlib.Core.List.{List}
use mathlib.Core.Path.{◌≡◌, ap, ◌∙◌}
use lib.IntN.{ℤ}
use Rattle.rules.specs.declared.Place.{Place}
use Rattle.rules.specs.Boxes.{Box}
use Rattle.rules.specs.Frame.{leaves_refusal}
use Rattle.rules.specs.ListCalls.{ListSearched}
use Rattle.rules.specs.Told.{Checked, searched_of}
use Rattle.laws.specs.Checking.{checked_by}
use Rattle.laws.proofs.SoundLists.{list_sound}
use Rattle.laws.proofs.Telling.{went_on, stopped}
use Rattle.laws.proofs.Turns.{on_exit}
use Rattle.answer.proofs.Calls.{search_leaves, search_fine}
use Rattle.answer.proofs.search_in.Goals as goal

-- the window that was asked is the list's
placed : {a b : Box} → a ≡ b → (samples : List ℤ) (place : Place) {r : Checked} → r ≡ checked_by (leaves_refusal a samples place) → r ≡ checked_by (leaves_refusal b samples place)
placed e samples place h = h ∙ ap (λ (b : Box). checked_by (leaves_refusal b samples place)) e

pub window_of-requires : goal.window_of-requires
window_of-requires c = list_sound c.args.list.now c.requires.accepted.list_right

pub check_leaves-requires : goal.check_leaves-requires
check_leaves-requires c = c.requires.place_value

pub scan-requires : goal.scan-requires
scan-requires c = record { ready = c.requires.accepted; place_value = c.requires.place_value }

pub returns-in_err-check_leaves : goal.returns-in_err-check_leaves
returns-in_err-check_leaves c =
    on_exit (λ r. ListSearched c.args.table.now c.args.list.now c.args.samples.now c.args.place (searched_of r)) c.from_residual.ensures.1
    (search_leaves c.args.table.now c.args.list.now c.args.samples.now c.args.place c.requires.accepted c.requires.place_value
    (stopped _ (placed c.window_of.ensures c.args.samples.now c.args.place c.in_err-check_leaves.ensures)))

pub returns : goal.returns
returns c =
    search_fine c.args.table.now c.args.list.now c.args.samples.now c.args.place c.requires.accepted c.requires.place_value
    (went_on _ (placed c.window_of.ensures c.args.samples.now c.args.place c.in_ok-check_leaves.ensures)) c.scan.ensures
