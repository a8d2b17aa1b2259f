-- What the call of a picture answers, from the rules that were kept or broken on the way. Assumes nothing.
use Rattle.std.specs.Prelude.{Ok, Err}
use Prim.Native.Nat.{ℕ, ◌<◌, ◌≤◌}
use mathlib.Core.Bool.{true}
use mathlib.Core.List.{List, [], ◌∷◌}
use mathlib.Core.Option.{Option, none, some}
use mathlib.Core.Path.{◌≡◌, ◌∙◌}
use borrow.Author.Tests.{leb-true}
use lib.Dec.{leb}
use lib.IntN.{ℤ, pos, ◌+ℤ◌, ◌-ℤ◌}
use lib.ListN.{length}
use lib.Seq.{sets}
use Rattle.ground.proofs.Counting.{first_broken, first_passed, first_kept}
use Rattle.rules.specs.declared.Rule.TheVariants.{Room}
use Rattle.rules.specs.declared.Axis.TheVariants.{Column, Code}
use Rattle.rules.specs.declared.Rectangle.{Rectangle}
use Rattle.rules.specs.declared.Refusal.{Refusal}
use Rattle.rules.specs.Boxes.{Box}
use Rattle.rules.specs.ListCalls.{accept_refusal, waterfall, waterfall_refusal, PictureDrawn}
use Rattle.rules.specs.ListInside.{inside_list}
use Rattle.rules.specs.ListWords.{word, list_window}
use Rattle.rules.specs.Ranges.{within, size_of, columns, codes}
use Rattle.rules.specs.Refusals.{room_refusal}
use Rattle.rules.specs.Table.{primitives}
use Rattle.rules.specs.Waterfall.{columns_of, codes_of, picture_words, rectangle_refusal}
use Rattle.laws.specs.Drawing.{Drawable}
use Rattle.laws.specs.SoundList.{SoundHeader}
use Rattle.laws.proofs.Axes.{lowered_in}
use Rattle.laws.proofs.Leaving.{Left, as_it_was, at_its_start}
use Rattle.laws.proofs.Pictures.{picture_length}
use Rattle.laws.proofs.Rectangles.{drawable, up_in, down_in}
use Rattle.laws.proofs.Soundness.{unless_kept}
use Rattle.says.specs.Checks.{Accepted}
use Rattle.waterfall.specs.Drawing.{shape_refusal}
use Rattle.rules.specs.Told.{Written}

-- where nothing is refused of it, the rectangle is right and there is room
pub shape_kept : (window : Box) (q : Rectangle) (room : ℕ) → shape_refusal window q room ≡ none → Drawable window q × (picture_words q ≤ room)
shape_kept window q room right =
    let needed = picture_words q in
    let shape = first_kept (rectangle_refusal window q) (room_refusal needed room ∷ []) right in
    let enough = unless_kept (leb needed room) Room needed (first_kept (room_refusal needed room) [] shape.1).0 in
    (drawable window q shape.0, leb-true needed room enough)

-- each column and each code of it is in range
module _ {list : List ℕ} {q : Rectangle} (S : SoundHeader list) (D : Drawable (list_window list) q) where
  pub column_in : (i : ℕ) → i < size_of (columns_of q) → within columns (q.xlo +ℤ pos i) ≡ true
  column_in i l = lowered_in Column (word list 1) (word list 2) S.x.hi (q.xlo +ℤ pos i) (up_in D.columns_right i l)

  pub code_in : (j : ℕ) → j < size_of (codes_of q) → within codes (q.yhi -ℤ pos j) ≡ true
  code_in j l = lowered_in Code (word list 3) (word list 4) S.y.hi (q.yhi -ℤ pos j) (down_in D.codes_right j l)

module _ (t : List ℤ) (list : List ℕ) (q : Rectangle) (before : List ℤ) where
  abbrev rule : Option Refusal
  rule = waterfall_refusal t list q (length before)

  abbrev shape : List (Option Refusal)
  shape = rectangle_refusal (list_window list) q ∷ room_refusal (picture_words q) (length before) ∷ []

  abbrev words : List ℤ
  words = waterfall t list q

  abbrev Outcome : List ℤ → Written → Type 0
  Outcome = PictureDrawn t list q before

  by_left : {after : List ℤ} {r : Written} → Left rule (picture_words q) words before after r → Outcome after r
  by_left L = record { answer = L.answer; buffer = L.buffer }

  pub not_accepted : {r : Refusal} → accept_refusal t list ≡ some r → Outcome before (Err r)
  not_accepted h = by_left (as_it_was rule (picture_words q) words before (first_broken (accept_refusal t list) shape h))

  words_length : length words ≡ picture_words q
  unfolding waterfall
  words_length = picture_length (inside_list (primitives t) list) (list_window list).z q

  module _ (A : Accepted t list) where
    past_accept : rule ≡ shape_refusal (list_window list) q (length before)
    past_accept = first_passed (accept_refusal t list) shape A.accepts

    pub shape_wrong : {r : Refusal} → shape_refusal (list_window list) q (length before) ≡ some r → Outcome before (Err r)
    shape_wrong h = by_left (as_it_was rule (picture_words q) words before (past_accept ∙ h))

    pub written : shape_refusal (list_window list) q (length before) ≡ none → {after : List ℤ} → after ≡ sets before 0 words → Outcome after (Ok (picture_words q))
    written right is = by_left (at_its_start rule (picture_words q) words before (past_accept ∙ right) words_length (shape_kept (list_window list) q (length before) right).1 is)
