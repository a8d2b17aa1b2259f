use Prim.Native.Nat.{ℕ}
use mathlib.Core.Path.{◌≡◌, ap, ◌∙◌}
use Rattle.rules.specs.declared.Rectangle.{Rectangle}
use Rattle.rules.specs.Boxes.{Box}
use Rattle.rules.specs.ListWords.{list_window}
use Rattle.rules.specs.Refusals.{room_refusal}
use Rattle.rules.specs.Told.{Checked}
use Rattle.rules.specs.Waterfall.{rectangle_refusal}
use Rattle.laws.specs.Checking.{checked_by}
use Rattle.laws.proofs.Rectangles.{drawable}
use Rattle.laws.proofs.Telling.{went_on, alone}
use Rattle.laws.proofs.Turns.{first_broken, first_kept_on}
use Rattle.waterfall.proofs.check_picture.Goals as goal

-- the window that was asked is the list's
placed : {a b : Box} → a ≡ b → (q : Rectangle) {r : Checked} → r ≡ checked_by (rectangle_refusal a q) → r ≡ checked_by (rectangle_refusal b q)
placed e q h = h ∙ ap (λ (b : Box). checked_by (rectangle_refusal b q)) e

pub words_of-needed-requires : goal.words_of-needed-requires
words_of-needed-requires c =
    let D = drawable (list_window c.args.list.now) c.args.q (went_on _ (placed c.window_of.ensures c.args.q c.in_ok-check_rectangle.ensures)) in
    (D.columns_right.sized, D.codes_right.sized)

pub returns-in_err-check_rectangle : goal.returns-in_err-check_rectangle
returns-in_err-check_rectangle c = first_broken _ _ c.from_residual.ensures.1 (placed c.window_of.ensures c.args.q c.in_err-check_rectangle.ensures)

pub returns : goal.returns
returns c =
    first_kept_on _ _ (placed c.window_of.ensures c.args.q c.in_ok-check_rectangle.ensures)
    (alone _ (c.refuse_unless.ensures ∙ ap (λ (n : ℕ). checked_by (room_refusal n c.args.room)) c.words_of-needed.ensures))
