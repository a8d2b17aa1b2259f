-- Every contract for C settles its call: any two answers that meet it are the same, and so are the lent buffers. Assumes nothing.
use Prim.Native.Nat.{ℕ}
use mathlib.Core.List.{List}
use mathlib.Core.Path.{◌≡◌, sym, ap, ◌∙◌}
use lib.IntN.{ℤ}
use Rattle.rules.specs.declared.Place.{Place}
use Rattle.rules.specs.declared.Point.{Point}
use Rattle.rules.specs.declared.Rectangle.{Rectangle}
use Rattle.rules.specs.declared.Window.{Window}
use Rattle.rules.specs.Told.{Told, told_checked, told_located, told_searched, told_written}
use Rattle.rules.specs.TreeCalls.{TableChecked, TreeLocated, TreeSearched}
use Rattle.rules.specs.ListCalls.{ListMade, ListLocated, ListSearched, ScreenSearched, PictureDrawn}
use Rattle.rules.specs.RewriteCall.{TreeRewritten}
use Rattle.rules.specs.TextCalls.{TextRead, TextWritten}
use Rattle.rules.proofs.Settled as outcome
use Rattle.answer_c.specs.declared.Answer.{Answer}
use Rattle.answer_c.specs.Answers.{answer_of}
use Rattle.zone_c.specs.Answered.{Answered}

-- answers to C with the same outcome are the same
same_answer : {Outcome : Type 0} {told : Outcome → Told} {P Q : Outcome → Type 0} {a b : Answer} (p : Answered told P a) (q : Answered told Q b)
    → p.outcome ≡ q.outcome → a ≡ b
same_answer {told = told} p q e = p.is ∙ ap (λ r. answer_of (told r)) e ∙ sym q.is

pub check_settled : {t : List ℤ} {a b : Answer} → Answered told_checked (TableChecked t) a → Answered told_checked (TableChecked t) b → a ≡ b
check_settled p q = same_answer p q (outcome.checked_settled p.kept q.kept)

pub tree_point_settled : {t : List ℤ} {p : Point} {a b : Answer}
    → Answered told_located (TreeLocated t p) a → Answered told_located (TreeLocated t p) b → a ≡ b
tree_point_settled p q = same_answer p q (outcome.tree_located_settled p.kept q.kept)

pub tree_search_settled : {t samples : List ℤ} {place : Place} {a b : Answer}
    → Answered told_searched (TreeSearched t samples place) a → Answered told_searched (TreeSearched t samples place) b → a ≡ b
tree_search_settled p q = same_answer p q (outcome.tree_searched_settled p.kept q.kept)

pub list_point_settled : {t : List ℤ} {list : List ℕ} {p : Point} {a b : Answer}
    → Answered told_located (ListLocated t list p) a → Answered told_located (ListLocated t list p) b → a ≡ b
list_point_settled p q = same_answer p q (outcome.list_located_settled p.kept q.kept)

pub list_search_settled : {t : List ℤ} {list : List ℕ} {samples : List ℤ} {place : Place} {a b : Answer}
    → Answered told_searched (ListSearched t list samples place) a → Answered told_searched (ListSearched t list samples place) b → a ≡ b
list_search_settled p q = same_answer p q (outcome.list_searched_settled p.kept q.kept)

pub make_list_settled : {t : List ℤ} {w : Window} {before m n : List ℕ} {a b : Answer}
    → Answered told_written (ListMade t w before m) a → Answered told_written (ListMade t w before n) b → (a ≡ b) × (m ≡ n)
make_list_settled p q = let once = outcome.list_made_settled p.kept q.kept in (same_answer p q once.0, once.1)

pub list_search_frames_settled : {t : List ℤ} {list : List ℕ} {codes : List ℤ} {frames : ℕ} {place : Place} {before m n : List ℕ} {a b : Answer}
    → Answered told_written (ScreenSearched t list codes frames place before m) a → Answered told_written (ScreenSearched t list codes frames place before n) b
    → (a ≡ b) × (m ≡ n)
list_search_frames_settled p q = let once = outcome.screen_searched_settled p.kept q.kept in (same_answer p q once.0, once.1)

pub list_waterfall_settled : {t : List ℤ} {list : List ℕ} {q : Rectangle} {before m n : List ℤ} {a b : Answer}
    → Answered told_written (PictureDrawn t list q before m) a → Answered told_written (PictureDrawn t list q before n) b
    → (a ≡ b) × (m ≡ n)
list_waterfall_settled p q = let once = outcome.picture_drawn_settled p.kept q.kept in (same_answer p q once.0, once.1)

pub rewrite_settled : {t before m n work c d : List ℤ} {a b : Answer}
    → Answered told_written (TreeRewritten t before m work c) a → Answered told_written (TreeRewritten t before n work d) b → (a ≡ b) × (m ≡ n) × (c ≡ d)
rewrite_settled p q = let once = outcome.tree_rewritten_settled p.kept q.kept in (same_answer p q once.0, once.1, once.2)

pub read_text_settled : {text : List ℕ} {before m n : List ℤ} {a b : Answer}
    → Answered told_written (TextRead text before m) a → Answered told_written (TextRead text before n) b → (a ≡ b) × (m ≡ n)
read_text_settled p q = let once = outcome.text_read_settled p.kept q.kept in (same_answer p q once.0, once.1)

pub write_text_settled : {t : List ℤ} {before m n : List ℕ} {a b : Answer}
    → Answered told_written (TextWritten t before m) a → Answered told_written (TextWritten t before n) b → (a ≡ b) × (m ≡ n)
write_text_settled p q = let once = outcome.text_written_settled p.kept q.kept in (same_answer p q once.0, once.1)
