-- Whatever meets the record of a call tells what is possible: its refusals have numbers of the table, and its hits a count. Assumes nothing.
use Prim.Native.Nat.{ℕ, suc, ◌≤◌}
use native.Mathlib.Omega.{arith}
use mathlib.Core.Bool.{Bool, true, false}
use mathlib.Core.List.{List, [], ◌∷◌}
use mathlib.Core.Option.{Option, none, some}
use mathlib.Core.Path.{◌≡◌, refl, sym, subst}
use lib.IntN.{ℤ}
use lib.ListN.{length}
use Rattle.ground.specs.Lists.{below, count_if, find_if}
use Rattle.std.specs.Prelude.{if◌then◌else◌}
use Rattle.rules.specs.declared.Place.{Place}
use Rattle.rules.specs.declared.Point.{Point}
use Rattle.rules.specs.declared.Rectangle.{Rectangle}
use Rattle.rules.specs.declared.Refusal.{Refusal}
use Rattle.rules.specs.declared.Searched.{Searched}
use Rattle.rules.specs.declared.Window.{Window}
use Rattle.rules.specs.Frame.{sample_inside, first_inside, inside_count}
use Rattle.rules.specs.Inside.{inside}
use Rattle.rules.specs.ListCalls.{make_refusal, ListMade, list_point_refusal, ListLocated, list_search_refusal, ListSearched, screen_refusal, ScreenSearched}
use Rattle.rules.specs.ListCalls.{waterfall_refusal, PictureDrawn}
use Rattle.rules.specs.ListInside.{inside_list}
use Rattle.rules.specs.RewriteCall.{rewrite_refusal, TreeRewritten}
use Rattle.rules.specs.Table.{primitives}
use Rattle.rules.specs.TextCalls.{read_refusal, TextRead, write_refusal, TextWritten}
use Rattle.rules.specs.Told.{Checked, Located, Written, Tale, Told, sound, fine, tell, told_checked, told_located, told_searched, told_written}
use Rattle.rules.specs.Tree.{tree_of}
use Rattle.rules.specs.TreeCalls.{point_tale, search_tale, TableChecked, tree_point_refusal, TreeLocated, tree_search_refusal, TreeSearched}
use Rattle.rules.specs.Verdict.{table_refusal}
use Rattle.rules.proofs.Told.{number_bounds}
use Rattle.promises.specs.Possible.{Possible}

-- ---- a refusal tells the number of its rule, which is one of the table; any other answer is possible where nothing is refused

told_possible : (rule : Option Refusal) (tale : Tale) → Possible (fine tale) → {told : Told} → told ≡ tell rule tale → Possible told
told_possible none tale possible e = subst Possible (sym e) possible
told_possible (some q) tale possible e = subst Possible (sym e) (number_bounds q.rule)

point_possible : (b : Bool) → Possible (fine (point_tale b))
point_possible true = refl
point_possible false = refl

-- what is found is counted
found_counted : (test : ℕ → Bool) (ks : List ℕ) {first : ℕ} → find_if test ks ≡ some first → 1 ≤ count_if test ks
unfolding find_if count_if
found_counted test [] e = let z : ◌≡◌ {A = ℕ} 0 1 = cc in absurd (omega arith)
found_counted test (k ∷ ks) {first} e = go (test k) e (found_counted test ks)
  where
    go : (b : Bool) → (if b then some k else find_if test ks) ≡ some first → (find_if test ks ≡ some first → 1 ≤ count_if test ks)
        → 1 ≤ (if b then suc (count_if test ks) else count_if test ks)
    go true is later = omega arith
    go false is later = later is

found_possible : (found : Option ℕ) (count : ℕ) → ((first : ℕ) → found ≡ some first → 1 ≤ count) → Possible (fine (search_tale found count))
found_possible none count counted = refl
found_possible (some first) count counted = (refl, counted first refl)

search_possible : (is_inside : Point → Bool) (samples : List ℤ) (place : Place)
    → Possible (fine (search_tale (first_inside is_inside samples place) (inside_count is_inside samples place)))
unfolding first_inside inside_count
search_possible is_inside samples place =
    found_possible _ _ (λ first e. found_counted (sample_inside is_inside samples place) (below (length samples)) e)

-- ---- the calls

pub check_possible : {t : List ℤ} {r : Checked} → TableChecked t r → Possible (told_checked r)
check_possible {t} m = told_possible (table_refusal t) sound refl m.answer

pub tree_point_possible : {t : List ℤ} {p : Point} {r : Located} → TreeLocated t p r → Possible (told_located r)
tree_point_possible {t} {p} m = told_possible (tree_point_refusal t p) _ (point_possible (inside (tree_of t) p)) m.answer

pub tree_search_possible : {t samples : List ℤ} {place : Place} {r : Searched} → TreeSearched t samples place r → Possible (told_searched r)
tree_search_possible {t} {samples} {place} m =
    told_possible (tree_search_refusal t samples place) _ (search_possible (inside (tree_of t)) samples place) m.answer

pub make_list_possible : {t : List ℤ} {w : Window} {before after : List ℕ} {r : Written} → ListMade t w before after r → Possible (told_written r)
make_list_possible {t} {w} {before} m = told_possible (make_refusal t w (length before)) _ refl m.answer

pub list_point_possible : {t : List ℤ} {list : List ℕ} {p : Point} {r : Located} → ListLocated t list p r → Possible (told_located r)
list_point_possible {t} {list} {p} m = told_possible (list_point_refusal t list p) _ (point_possible (inside_list (primitives t) list p)) m.answer

pub list_search_possible : {t : List ℤ} {list : List ℕ} {samples : List ℤ} {place : Place} {r : Searched}
    → ListSearched t list samples place r → Possible (told_searched r)
list_search_possible {t} {list} {samples} {place} m =
    told_possible (list_search_refusal t list samples place) _ (search_possible (inside_list (primitives t) list) samples place) m.answer

pub list_search_frames_possible : {t : List ℤ} {list : List ℕ} {codes : List ℤ} {frames : ℕ} {place : Place} {before after : List ℕ} {r : Written}
    → ScreenSearched t list codes frames place before after r → Possible (told_written r)
list_search_frames_possible {t} {list} {codes} {frames} {place} {before} m =
    told_possible (screen_refusal t list codes frames (length before)) _ refl m.answer

pub list_waterfall_possible : {t : List ℤ} {list : List ℕ} {q : Rectangle} {before after : List ℤ} {r : Written}
    → PictureDrawn t list q before after r → Possible (told_written r)
list_waterfall_possible {t} {list} {q} {before} m = told_possible (waterfall_refusal t list q (length before)) _ refl m.answer

pub rewrite_tree_possible : {t before after work cleared : List ℤ} {r : Written} → TreeRewritten t before after work cleared r → Possible (told_written r)
rewrite_tree_possible {t} {before} {work = work} m =
    told_possible (rewrite_refusal t (length before) (length work)) _ refl m.answer

pub read_text_possible : {text : List ℕ} {before after : List ℤ} {r : Written} → TextRead text before after r → Possible (told_written r)
read_text_possible {before = before} m = told_possible (read_refusal m.form (length before)) _ refl m.answer

pub write_text_possible : {t : List ℤ} {before after : List ℕ} {r : Written} → TextWritten t before after r → Possible (told_written r)
write_text_possible {t} {before} m = told_possible (write_refusal t (length before)) _ refl m.answer
