use Rattle.std.specs.Prelude.{Ok}
use mathlib.Core.Path.{sym, subst}
use Prim.Native.Nat.{ℕ}
use lib.ListN.{length}
use Rattle.rules.specs.ListCalls.{PictureDrawn}
use Rattle.rules.specs.ListWords.{list_window}
use Rattle.laws.proofs.SoundLists.{list_sound}
use Rattle.laws.proofs.Telling.{went_on, stopped}
use Rattle.laws.proofs.Turns.{on_exit}
use Rattle.waterfall.proofs.Calls.{shape_kept, shape_wrong, written}
use Rattle.waterfall.proofs.draw.Goals as goal

pub check_picture-requires : goal.check_picture-requires
check_picture-requires c = list_sound c.args.list.now c.requires.list_right

pub put_picture-requires : goal.put_picture-requires
put_picture-requires c =
    let kept = shape_kept (list_window c.args.list.now) c.args.q (length c.args.picture.now) (went_on _ c.in_ok-check_picture.ensures) in
    record { accepted = c.requires; drawable = kept.0; q_in_bounds = kept.1 }

pub words_of-requires : goal.words_of-requires
words_of-requires c =
    let D = (shape_kept (list_window c.args.list.now) c.args.q (length c.args.picture.now) (went_on _ c.in_ok-check_picture.ensures)).0 in
    (D.columns_right.sized, D.codes_right.sized)

pub returns-in_err-check_picture : goal.returns-in_err-check_picture
returns-in_err-check_picture c =
    on_exit (PictureDrawn c.args.table.now c.args.list.now c.args.q c.args.picture.now c.args.picture.now) c.from_residual.ensures.1
    (shape_wrong c.args.table.now c.args.list.now c.args.q c.args.picture.now c.requires (stopped _ c.in_err-check_picture.ensures))

pub returns : goal.returns
returns c =
    let t = c.args.table.now in
    let list = c.args.list.now in
    let q = c.args.q in
    let before = c.args.picture.now in
    subst (λ (n : ℕ). PictureDrawn t list q before c.put_picture.new.picture (Ok n)) (sym c.words_of.ensures)
    (written t list q before c.requires (went_on _ c.in_ok-check_picture.ensures) c.put_picture.ensures)
