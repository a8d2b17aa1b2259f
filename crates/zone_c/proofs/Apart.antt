-- Nothing is lost on the way to C: from the three numbers C reads the outcome back, so no two outcomes of a call become the same three numbers.
-- Assumes nothing.
use Rattle.std.specs.Prelude.{Ok, Err, true, false}
use Prim.Native.Nat.{ℕ, zero, suc, ◌≤◌}
use native.Mathlib.Omega.{arith}
use mathlib.Core.List.{List}
use mathlib.Core.Path.{◌≡◌, refl, sym, ap, ◌∙◌}
use lib.Dec.{eqb, eqb-suc-zero}
use lib.IntN.{ℤ}
use Rattle.std.specs.Prelude.{if◌then◌else◌}
use Rattle.rules.specs.declared.Refusal.{Refusal}
use Rattle.rules.specs.declared.Rule.{Rule}
use Rattle.rules.specs.declared.Searched.{Searched}
use Rattle.rules.specs.declared.Searched.TheVariants as searched
use Rattle.rules.specs.Rules.{number_of, rule_of}
use Rattle.rules.proofs.Told.{number_bounds, rule_back}
use Rattle.rules.specs.declared.Place.{Place}
use Rattle.rules.specs.declared.Point.{Point}
use Rattle.rules.specs.declared.Rectangle.{Rectangle}
use Rattle.rules.specs.declared.Window.{Window}
use Rattle.rules.specs.Told.{Checked, Located, Written, Told, refused, told_checked, told_located, told_searched, told_written}
use Rattle.rules.specs.TreeCalls.{TableChecked, TreeLocated, TreeSearched}
use Rattle.rules.specs.ListCalls.{ListMade, ListLocated, ListSearched, ScreenSearched, PictureDrawn}
use Rattle.rules.specs.RewriteCall.{TreeRewritten}
use Rattle.rules.specs.TextCalls.{TextRead, TextWritten}
use Rattle.promises.specs.Possible.{Possible}
use Rattle.promises.proofs.Possible as law
use Rattle.answer_c.specs.declared.Answer.{Answer}
use Rattle.answer_c.specs.Answers.{answer_of, unless_refused, read_checked, read_located, read_searched, read_written}
use Rattle.zone_c.specs.Answered.{Answered, Readable}

-- ---- what is possible is read back

not_zero : {A : Type 0} (n : ℕ) (a b : A) → 1 ≤ n → (if eqb n 0 then a else b) ≡ b
not_zero zero a b l = absurd (omega arith)
not_zero (suc n) a b l = rw (eqb-suc-zero n)

refused_back : {Outcome : Type 0} (refusing : Refusal → Outcome) (q : Refusal) (fine : Outcome)
    → unless_refused refusing (answer_of (refused q)) fine ≡ refusing q
refused_back refusing q fine =
    not_zero (number_of q.rule) fine (refusing (record { rule = rule_of (number_of q.rule); value = q.value })) (number_bounds q.rule).0
    ∙ ap (λ (r : Rule). refusing (record { rule = r; value = q.value })) (rule_back q.rule)

checked_back : (r : Checked) → Possible (told_checked r) → read_checked (answer_of (told_checked r)) ≡ r
checked_back (Ok _) l = refl
checked_back (Err q) l = refused_back Err q _

located_back : (r : Located) → Possible (told_located r) → read_located (answer_of (told_located r)) ≡ r
located_back (Ok false) l = refl
located_back (Ok true) l = refl
located_back (Err q) l = refused_back Err q _

searched_back : (r : Searched) → Possible (told_searched r) → read_searched (answer_of (told_searched r)) ≡ r
searched_back searched.Clear l = refl
searched_back (searched.Hit first count) l = not_zero count searched.Clear (searched.Hit first count) l.1
searched_back (searched.Refused q) l = refused_back searched.Refused q _

written_back : (r : Written) → Possible (told_written r) → read_written (answer_of (told_written r)) ≡ r
written_back (Ok n) l = refl
written_back (Err q) l = refused_back Err q _

-- ---- so each call is readable from C

module _ {Outcome : Type 0} {told : Outcome → Told} {read : Answer → Outcome} where
  readable : ((r : Outcome) → Possible (told r) → read (answer_of (told r)) ≡ r) → {promise : Outcome → Type 0}
      → ((r : Outcome) → promise r → Possible (told r)) → Readable told read promise
  readable back possible = record { reads = λ p. ap read p.is ∙ back p.outcome (possible p.outcome p.kept) }

  -- one answer to two questions told the same outcome
  pub apart : {P Q : Outcome → Type 0} → Readable told read P → Readable told read Q → {a : Answer} (p : Answered told P a) (q : Answered told Q a)
      → p.outcome ≡ q.outcome
  apart first second p q = sym (first.reads p) ∙ second.reads q

pub check_readable : (t : List ℤ) → Readable told_checked read_checked (TableChecked t)
check_readable t = readable checked_back (λ r. law.check_possible)

pub tree_point_readable : (t : List ℤ) (p : Point) → Readable told_located read_located (TreeLocated t p)
tree_point_readable t p = readable located_back (λ r. law.tree_point_possible)

pub tree_search_readable : (t samples : List ℤ) (place : Place) → Readable told_searched read_searched (TreeSearched t samples place)
tree_search_readable t samples place = readable searched_back (λ r. law.tree_search_possible)

pub make_list_readable : (t : List ℤ) (w : Window) (before after : List ℕ) → Readable told_written read_written (ListMade t w before after)
make_list_readable t w before after = readable written_back (λ r. law.make_list_possible)

pub list_point_readable : (t : List ℤ) (list : List ℕ) (p : Point) → Readable told_located read_located (ListLocated t list p)
list_point_readable t list p = readable located_back (λ r. law.list_point_possible)

pub list_search_readable : (t : List ℤ) (list : List ℕ) (samples : List ℤ) (place : Place)
    → Readable told_searched read_searched (ListSearched t list samples place)
list_search_readable t list samples place = readable searched_back (λ r. law.list_search_possible)

pub list_search_frames_readable : (t : List ℤ) (list : List ℕ) (codes : List ℤ) (frames : ℕ) (place : Place) (before after : List ℕ)
    → Readable told_written read_written (ScreenSearched t list codes frames place before after)
list_search_frames_readable t list codes frames place before after = readable written_back (λ r. law.list_search_frames_possible)

pub list_waterfall_readable : (t : List ℤ) (list : List ℕ) (q : Rectangle) (before after : List ℤ) → Readable told_written read_written (PictureDrawn t list q before after)
list_waterfall_readable t list q before after = readable written_back (λ r. law.list_waterfall_possible)

pub rewrite_readable : (t before after work cleared : List ℤ) → Readable told_written read_written (TreeRewritten t before after work cleared)
rewrite_readable t before after work cleared = readable written_back (λ r. law.rewrite_tree_possible)

pub read_text_readable : (text : List ℕ) (before after : List ℤ) → Readable told_written read_written (TextRead text before after)
read_text_readable text before after = readable written_back (λ r. law.read_text_possible)

pub write_text_readable : (t : List ℤ) (before after : List ℕ) → Readable told_written read_written (TextWritten t before after)
write_text_readable t before after = readable written_back (λ r. law.write_text_possible)
