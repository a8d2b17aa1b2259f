-- Answers that look right and are not. Each theorem speaks of one good input, at which the rules do not refuse the call, and of every answer that
-- could go with the impostor's error there: none of them meets the call's record. Beside each input stands the outcome that does (`right-..`).
-- Assumes nothing.
use Rattle.std.specs.Prelude.{Ok, Err, false}
use Prim.Native.Nat.{ℕ, ◌+◌, ◌^◌, ◌≤◌, ◌<◌}
use native.Mathlib.Omega.{arith}
use mathlib.Core.Bool.{true}
use mathlib.Core.List.{List, [], ◌∷◌, ◌++◌, map, flat_map, head-eq_of_cons-eq}
use mathlib.Core.Option.{none}
use mathlib.Core.Path.{◌≡◌, refl, sym, ap, ◌∙◌}
use borrow.Author.Tests.{le-leb}
use lib.Dec.{lit≤, leb}
use lib.IntN.{ℤ, pos, negsuc, nat_abs}
use lib.ListN.{length, get_or, replicate, length-replicate, get_or-replicate}
use Rattle.ground.specs.Bits.{selected, places_where}
use Rattle.ground.specs.Lists.{from, all_of, any_of, keep_if, count_if, find_if, first_of}
use Rattle.rules.specs.declared.Axis.TheVariants.{Column}
use Rattle.rules.specs.declared.Kind.TheVariants.{Box}
use Rattle.rules.specs.declared.Place.{Place}
use Rattle.rules.specs.declared.Primitive.{Primitive}
use Rattle.rules.specs.declared.Product.{Product}
use Rattle.rules.specs.declared.Rectangle.{Rectangle}
use Rattle.rules.specs.declared.Refusal.{Refusal}
use Rattle.rules.specs.declared.Searched.{Searched}
use Rattle.rules.specs.declared.Searched.TheVariants as searched
use Rattle.rules.specs.declared.Window.{Window}
use Rattle.rules.specs.Ranges.{columns, codes}
use Rattle.rules.specs.Table.{primitives}
use Rattle.rules.specs.Verdict.{table_refusal}
use Rattle.rules.specs.Tree as tree
use Rattle.rules.specs.Tree.{Tree, solid, trees, tree_of}
use Rattle.rules.specs.Inside.{inside}
use Rattle.rules.specs.Choices.{choices, in_of, out_of, joined, ◌crossed_with◌, expansion}
use Rattle.rules.specs.Products.{stays, trimmed, firsts, products}
use Rattle.rules.specs.ListWords.{raised, list_of, word, product_count}
use Rattle.rules.specs.ListFaults.{list_refusal}
use Rattle.rules.specs.ListInside.{inside_product, inside_list}
use Rattle.rules.specs.Frame.{first_inside, inside_count}
use Rattle.rules.specs.Text.{TextRow, decimal_in}
use Rattle.rules.specs.TextForm.{spelt}
use Rattle.rules.specs.Outcome.{over}
use Rattle.rules.specs.TreeCalls.{TableChecked, TreeLocated, TreeSearched}
use Rattle.rules.specs.Waterfall.{no_frame, newest}
use Rattle.rules.specs.ListCalls.{zone_list, ListMade, accept_refusal, ListLocated, ListSearched, screen_triples, ScreenSearched, waterfall, PictureDrawn}
use Rattle.rules.specs.TextCalls.{TextRead, table_text, TextWritten}
use Rattle.rules.specs.Form.{leaf, ◌∪◌, ◌∩◌, ◌∖◌, form_of, leaves}
use Rattle.rules.specs.Procedure.{is_primitive, is_union, lowest, ended, left_done, right_done, until, turn, within, normalize}
use Rattle.rules.specs.NormalForm.{product_of, products_of}
use Rattle.rules.specs.TreeRows.{rows_in, rows_from}
use Rattle.rules.specs.RewriteCall.{most_rewritten, most_ways, rewrite_words, finished_rows, rewrite_refusal, TreeRewritten}
use Rattle.rules.proofs.Zones.{nought, box, union, inter, diff, q, triangle, turned_round, corner_cut, layer, columns_of, at, still_fits}
use Rattle.rules.proofs.Settled.{checked_settled, tree_located_settled, tree_searched_settled, list_made_settled}
use Rattle.rules.proofs.Settled.{list_located_settled, list_searched_settled, screen_searched_settled, picture_drawn_settled}
use Rattle.rules.proofs.Settled.{text_read_settled, text_written_settled, tree_rewritten_settled, over_whole}
use Rattle.rules.proofs.Rewriting.{q_rows, rows_of_q, still_fits_finished}
use Rattle.rules.specs.Told.{Written}

-- ---- the right outcomes at one input of each call: zone Q in columns -100..100, and the text of one box

abbrev window : Window
window = columns_of (negsuc 99) (pos 100)

abbrev room : List ℕ
room = replicate 12 7

-- the first eight words of a list for that window
abbrev list_header : ℕ → ℕ → List ℕ
list_header products solids = products ∷ 32668 ∷ 32868 ∷ 0 ∷ 65535 ∷ 0 ∷ 2097151 ∷ solids ∷ []

abbrev q_list : List ℕ
q_list = list_header 2 4 ++ (9 ∷ 2 ∷ 12 ∷ 0 ∷ [])

-- columns 19, 20 and 21, of which the last two are inside
abbrev three : List ℤ
three = nought ∷ nought ∷ nought ∷ []

abbrev from19 : Place
from19 = record { first = pos 19; frame = nought }

pub right_check : TableChecked q (Ok tt)
unfolding table_refusal from all_of count_if find_if first_of flat_map
right_check = record { answer = refl }

pub right_tree_point : TreeLocated q (at 8 0) (Ok true)
unfolding table_refusal trees inside from all_of count_if find_if first_of flat_map
right_tree_point = record { answer = refl }

pub right_tree_search : TreeSearched q three from19 (searched.Hit 1 2)
unfolding table_refusal trees inside first_inside inside_count from all_of any_of count_if find_if first_of flat_map
right_tree_search = record { answer = refl }

pub right_make : ListMade q window room q_list (Ok 12)
unfolding table_refusal trees choices ◌crossed_with◌ firsts products zone_list from all_of keep_if count_if find_if first_of selected places_where flat_map
right_make = record { answer = refl; buffer = refl }

pub right_list_point : ListLocated q q_list (at 8 0) (Ok true)
unfolding table_refusal list_refusal accept_refusal inside_product inside_list from all_of any_of count_if find_if first_of selected flat_map
right_list_point = record { answer = refl }

pub right_list_search : ListSearched q q_list three from19 (searched.Hit 1 2)
unfolding table_refusal list_refusal accept_refusal inside_product inside_list first_inside inside_count from all_of any_of count_if find_if first_of selected flat_map
right_list_search = record { answer = refl }

-- a screenful of two frames of these columns, by the number of the first; Q has points in frame 0 alone
abbrev triple_room : List ℕ
triple_room = replicate 7 7

abbrev From : ℤ → List ℕ → Written → Type 0
From number = ScreenSearched q q_list (three ++ three) 2 (record { first = pos 19; frame = number }) triple_room

pub right_screen : From (negsuc 0) (0 ∷ 0 ∷ 0 ∷ 1 ∷ 1 ∷ 2 ∷ 7 ∷ []) (Ok 6)
unfolding table_refusal list_refusal accept_refusal inside_product inside_list first_inside inside_count screen_triples from all_of any_of count_if find_if first_of selected flat_map
right_screen = record { answer = refl; buffer = refl }

-- columns 0..9 at code 0 in frames -3..-1; their list for frames -4..-2; and the picture of columns 9 and 10 and codes 0 and 1
abbrev layers : List ℤ
layers = layer (negsuc 2) (negsuc 0)

abbrev layers_list : List ℕ
layers_list = 1 ∷ 0 ∷ 65535 ∷ 0 ∷ 65535 ∷ 1048572 ∷ 1048574 ∷ 1 ∷ 1 ∷ 0 ∷ []

abbrev square : Rectangle
square = record { xlo = pos 9; xhi = pos 10; ylo = nought; yhi = pos 1 }

abbrev picture_room : List ℤ
picture_room = replicate 5 (pos 7)

abbrev Drawn : List ℤ → Written → Type 0
Drawn = PictureDrawn layers layers_list square picture_room

pub right_picture : Drawn (no_frame ∷ no_frame ∷ negsuc 1 ∷ no_frame ∷ pos 7 ∷ []) (Ok 4)
unfolding table_refusal list_refusal accept_refusal inside_product inside_list newest waterfall from all_of any_of count_if find_if first_of selected flat_map
right_picture = record { answer = refl; buffer = refl }

abbrev one_box : List ℤ
one_box = box nought (pos 9)

abbrev box_row : TextRow
box_row = record { kind = Box; words = nought ∷ pos 9 ∷ nought ∷ nought ∷ nought ∷ nought ∷ [] }

-- zone 1, box 0 9 0 0 0 0: 23 bytes
abbrev box_text : List ℕ
box_text = 122 ∷ 111 ∷ 110 ∷ 101 ∷ 9 ∷ 49 ∷ 10 ∷ 98 ∷ 111 ∷ 120 ∷ 9 ∷ 48 ∷ 9 ∷ 57 ∷ 9 ∷ 48 ∷ 9 ∷ 48 ∷ 9 ∷ 48 ∷ 9 ∷ 48 ∷ 10 ∷ []

abbrev text_room : List ℕ
text_room = replicate 23 7

abbrev table_room : List ℤ
table_room = replicate 12 (pos 7)

pub right_write : TextWritten one_box text_room box_text (Ok 23)
unfolding table_refusal table_text decimal_in from all_of count_if find_if first_of flat_map
right_write = record { answer = refl; buffer = refl }

pub right_read : TextRead box_text table_room one_box (Ok 12)
unfolding table_refusal decimal_in from all_of count_if find_if first_of flat_map
right_read = record {
  form = spelt (box_row ∷ []) (lit≤ tt) (lit≤ tt) (lit≤ tt) (record { named = refl; fit = omega arith }, tt) refl;
  answer = refl;
  buffer = refl;
}

never : ◌≡◌ {A = ℕ} 0 1 → ⊥
never e = omega arith

-- ---- one that refuses everything: where the rules refuse nothing no refusal does, whatever is left in the buffer

pub refuses_tables : (why : Refusal) → TableChecked q (Err why) → ⊥
refuses_tables why h = let e = checked_settled h right_check in never (cc)

pub refuses_tree_points : (why : Refusal) → TreeLocated q (at 8 0) (Err why) → ⊥
refuses_tree_points why h = let e = tree_located_settled h right_tree_point in never (cc)

pub refuses_tree_searches : (why : Refusal) → TreeSearched q three from19 (searched.Refused why) → ⊥
refuses_tree_searches why h = let e = tree_searched_settled h right_tree_search in never (cc)

pub refuses_lists : (why : Refusal) {after : List ℕ} → ListMade q window room after (Err why) → ⊥
refuses_lists why h = let e = (list_made_settled h right_make).0 in never (cc)

pub refuses_list_points : (why : Refusal) → ListLocated q q_list (at 8 0) (Err why) → ⊥
refuses_list_points why h = let e = list_located_settled h right_list_point in never (cc)

pub refuses_list_searches : (why : Refusal) → ListSearched q q_list three from19 (searched.Refused why) → ⊥
refuses_list_searches why h = let e = list_searched_settled h right_list_search in never (cc)

pub refuses_screens : (why : Refusal) {after : List ℕ} → From (negsuc 0) after (Err why) → ⊥
refuses_screens why h = let e = (screen_searched_settled h right_screen).0 in never (cc)

pub refuses_pictures : (why : Refusal) {after : List ℤ} → Drawn after (Err why) → ⊥
refuses_pictures why h = let e = (picture_drawn_settled h right_picture).0 in never (cc)

pub refuses_texts : (why : Refusal) {after : List ℤ} → TextRead box_text table_room after (Err why) → ⊥
refuses_texts why h = let e = (text_read_settled h right_read).0 in never (cc)

pub refuses_to_write_text : (why : Refusal) {after : List ℕ} → TextWritten one_box text_room after (Err why) → ⊥
refuses_to_write_text why h = let e = (text_written_settled h right_write).0 in never (cc)

-- ---- one that always says clear, or outside

pub tree_always_clear : TreeSearched q three from19 searched.Clear → ⊥
tree_always_clear h = let e = tree_searched_settled h right_tree_search in never (cc)

pub list_always_clear : ListSearched q q_list three from19 searched.Clear → ⊥
list_always_clear h = let e = list_searched_settled h right_list_search in never (cc)

pub tree_always_outside : TreeLocated q (at 8 0) (Ok false) → ⊥
tree_always_outside h = let e = tree_located_settled h right_tree_point in never (cc)

pub list_always_outside : ListLocated q q_list (at 8 0) (Ok false) → ⊥
list_always_outside h = let e = list_located_settled h right_list_point in never (cc)

-- ---- one that tests only the first sample: two frames of three samples agree in it, and no answer does for both

-- columns 19, 20 and 21 again; the codes of the last two are out of Q
abbrev leaving : List ℤ
leaving = nought ∷ pos 50 ∷ pos 50 ∷ []

pub right_tree_leaving : TreeSearched q leaving from19 searched.Clear
unfolding table_refusal trees inside first_inside inside_count from all_of any_of count_if find_if first_of flat_map
right_tree_leaving = record { answer = refl }

pub right_list_leaving : ListSearched q q_list leaving from19 searched.Clear
unfolding table_refusal list_refusal accept_refusal inside_product inside_list first_inside inside_count from all_of any_of count_if find_if first_of selected flat_map
right_list_leaving = record { answer = refl }

pub tree_first_sample_only : (r : Searched) → TreeSearched q three from19 r → TreeSearched q leaving from19 r → ⊥
tree_first_sample_only r h g =
    let e = tree_searched_settled h right_tree_search in
    let f = tree_searched_settled g right_tree_leaving in
    never (cc)

pub list_first_sample_only : (r : Searched) → ListSearched q q_list three from19 r → ListSearched q q_list leaving from19 r → ⊥
list_first_sample_only r h g =
    let e = list_searched_settled h right_list_search in
    let f = list_searched_settled g right_list_leaving in
    never (cc)

-- ---- ones that hold other codes in a column than those from the sample before to the sample's own

-- columns 19, 20 and 21 once more: no sample stands in Q, and an edge crosses it in column 20 upwards, in column 21 downwards
abbrev crossed : List ℤ
crossed = negsuc 2 ∷ pos 3 ∷ negsuc 2 ∷ []

pub right_tree_crossed : TreeSearched q crossed from19 (searched.Hit 1 2)
unfolding table_refusal trees inside first_inside inside_count from all_of any_of count_if find_if first_of flat_map
right_tree_crossed = record { answer = refl }

pub right_list_crossed : ListSearched q q_list crossed from19 (searched.Hit 1 2)
unfolding table_refusal list_refusal accept_refusal inside_product inside_list first_inside inside_count from all_of any_of count_if find_if first_of selected flat_map
right_list_crossed = record { answer = refl }

pub tree_samples_only : TreeSearched q crossed from19 searched.Clear → ⊥
tree_samples_only h = let e = tree_searched_settled h right_tree_crossed in never (cc)

pub list_samples_only : ListSearched q q_list crossed from19 searched.Clear → ⊥
list_samples_only h = let e = list_searched_settled h right_list_crossed in never (cc)

-- edges of one direction alone are filled: one of the two columns is missed
pub tree_one_direction : (first : ℕ) → TreeSearched q crossed from19 (searched.Hit first 1) → ⊥
tree_one_direction first h = let e = tree_searched_settled h right_tree_crossed in let n : ◌≡◌ {A = ℕ} 1 2 = cc in omega arith

pub list_one_direction : (first : ℕ) → ListSearched q q_list crossed from19 (searched.Hit first 1) → ⊥
list_one_direction first h = let e = list_searched_settled h right_list_crossed in let n : ◌≡◌ {A = ℕ} 1 2 = cc in omega arith

-- the code of the sample before is counted: in `leaving` it is the only one inside
pub tree_earlier_code_counted : (first count : ℕ) → TreeSearched q leaving from19 (searched.Hit first count) → ⊥
tree_earlier_code_counted first count h = let e = tree_searched_settled h right_tree_leaving in never (cc)

pub list_earlier_code_counted : (first count : ℕ) → ListSearched q q_list leaving from19 (searched.Hit first count) → ⊥
list_earlier_code_counted first count h = let e = list_searched_settled h right_list_leaving in never (cc)

-- sample 0 is filled, as from the foot of the screen: one sample stands in column 20, over Q, and none before it
abbrev from20 : Place
from20 = record { first = pos 20; frame = nought }

abbrev alone : List ℤ
alone = pos 5 ∷ []

pub right_tree_alone : TreeSearched q alone from20 searched.Clear
unfolding table_refusal trees inside first_inside inside_count from all_of any_of count_if find_if first_of flat_map
right_tree_alone = record { answer = refl }

pub right_list_alone : ListSearched q q_list alone from20 searched.Clear
unfolding table_refusal list_refusal accept_refusal inside_product inside_list first_inside inside_count from all_of any_of count_if find_if first_of selected flat_map
right_list_alone = record { answer = refl }

pub tree_sample_0_filled : (first count : ℕ) → TreeSearched q alone from20 (searched.Hit first count) → ⊥
tree_sample_0_filled first count h = let e = tree_searched_settled h right_tree_alone in never (cc)

pub list_sample_0_filled : (first count : ℕ) → ListSearched q q_list alone from20 (searched.Hit first count) → ⊥
list_sample_0_filled first count h = let e = list_searched_settled h right_list_alone in never (cc)

-- ---- one that invents the number of inside samples: where there are two, no other number does

pub tree_invented_count : (first count : ℕ) → (count ≡ 2 → ⊥) → TreeSearched q three from19 (searched.Hit first count) → ⊥
tree_invented_count first count other h = let e = tree_searched_settled h right_tree_search in other (cc)

pub list_invented_count : (first count : ℕ) → (count ≡ 2 → ⊥) → ListSearched q q_list three from19 (searched.Hit first count) → ⊥
list_invented_count first count other h = let e = list_searched_settled h right_list_search in other (cc)

-- ---- one that leaves the buffer untouched, whatever it answers

pub list_untouched : (r : Written) → ListMade q window room room r → ⊥
list_untouched r h = let e = (list_made_settled h right_make).1 in never (cc)

pub screen_untouched : (r : Written) → From (negsuc 0) triple_room r → ⊥
screen_untouched r h = let e : ◌≡◌ {A = ℕ} 7 0 = head-eq_of_cons-eq (screen_searched_settled h right_screen).1 in omega arith

pub picture_untouched : (r : Written) → Drawn picture_room r → ⊥
picture_untouched r h = let e : ◌≡◌ {A = ℕ} 7 2147483648 = ap nat_abs (head-eq_of_cons-eq (picture_drawn_settled h right_picture).1) in omega arith

pub text_untouched : (r : Written) → TextWritten one_box text_room text_room r → ⊥
text_untouched r h = let e : ◌≡◌ {A = ℕ} 7 122 = head-eq_of_cons-eq (text_written_settled h right_write).1 in omega arith

pub table_untouched : (r : Written) → TextRead box_text table_room table_room r → ⊥
table_untouched r h = let e = (text_read_settled h right_read).1 in never (cc)

-- ---- of a screenful: one that always says clear; one whose frame number stands still, so that frames of the same codes get the same words; one that
-- counts positions over the frames

-- each word of an outcome is that of the right one
same_word : (number : ℤ) {words after : List ℕ} {r s : Written} → From number words r → From number after s → (i : ℕ) → word words i ≡ word after i
same_word number right h i = ap (λ (ws : List ℕ). word ws i) (screen_searched_settled right h).1

module _ {after : List ℕ} {r : Written} (h : From (negsuc 0) after r) where
  pub screen_always_clear : word after 3 ≡ 0 → ⊥
  screen_always_clear is = let e : ◌≡◌ {A = ℕ} 1 0 = same_word (negsuc 0) right_screen h 3 ∙ is in omega arith

  pub number_stands_still : word after 3 ≡ word after 0 → ⊥
  number_stands_still is =
      let e : ◌≡◌ {A = ℕ} 1 0 = same_word (negsuc 0) right_screen h 3 ∙ is ∙ sym (same_word (negsuc 0) right_screen h 0) in omega arith

  pub positions_over_the_frames : word after 4 ≡ length three + 1 → ⊥
  positions_over_the_frames is = let e : ◌≡◌ {A = ℕ} 1 4 = same_word (negsuc 0) right_screen h 4 ∙ is in omega arith

-- ---- one that fills sample 0 from the frame before: from code 5 of frame -1 to code -5 of frame 0 an edge would cross Q in column 20

abbrev TwoSingles : List ℕ → Written → Type 0
TwoSingles = ScreenSearched q q_list (pos 5 ∷ negsuc 4 ∷ []) 2 (record { first = pos 20; frame = negsuc 0 }) triple_room

pub right_singles : TwoSingles (0 ∷ 0 ∷ 0 ∷ 0 ∷ 0 ∷ 0 ∷ 7 ∷ []) (Ok 6)
unfolding table_refusal list_refusal accept_refusal inside_product inside_list first_inside inside_count screen_triples from all_of any_of count_if find_if first_of selected flat_map
right_singles = record { answer = refl; buffer = refl }

pub filled_from_the_frame_before : {after : List ℕ} {r : Written} → TwoSingles after r → word after 3 ≡ 1 → ⊥
filled_from_the_frame_before h is = let e : ◌≡◌ {A = ℕ} 0 1 = ap (λ (ws : List ℕ). word ws 3) (screen_searched_settled right_singles h).1 ∙ is in omega arith

-- ---- one that forgets the hundred of a refused frame, and one that stops there: frame 1048576 does not exist, and neither does frame -1048577

pub right_last_frame : From (pos 1048575) (0 ∷ 0 ∷ 0 ∷ 112 ∷ 2 ∷ 0 ∷ 7 ∷ []) (Ok 6)
unfolding table_refusal list_refusal accept_refusal inside_product inside_list first_inside inside_count screen_triples from all_of any_of count_if find_if first_of selected flat_map
right_last_frame = record { answer = refl; buffer = refl }

pub hundred_forgotten : {after : List ℕ} {r : Written} → From (pos 1048575) after r → word after 3 ≡ 12 → ⊥
hundred_forgotten h is = let e : ◌≡◌ {A = ℕ} 112 12 = same_word (pos 1048575) right_last_frame h 3 ∙ is in omega arith

pub right_first_frame : From (negsuc 1048576) (112 ∷ 2 ∷ 0 ∷ 0 ∷ 0 ∷ 0 ∷ 7 ∷ []) (Ok 6)
unfolding table_refusal list_refusal accept_refusal inside_product inside_list first_inside inside_count screen_triples from all_of any_of count_if find_if first_of selected flat_map
right_first_frame = record { answer = refl; buffer = refl }

-- by leaving the words of the frames after it, or by refusing the whole call
pub stops_at_a_refused_frame : (r : Written) → From (negsuc 1048576) (over (112 ∷ 2 ∷ 0 ∷ []) triple_room) r → ⊥
stops_at_a_refused_frame r h = let e : ◌≡◌ {A = ℕ} 0 7 = same_word (negsuc 1048576) right_first_frame h 3 in omega arith

pub refused_with_its_frame : (why : Refusal) {after : List ℕ} → From (negsuc 1048576) after (Err why) → ⊥
refused_with_its_frame why h = let e = (screen_searched_settled h right_first_frame).0 in never (cc)

-- ---- one that invents the product count, and one whose list is always empty: where there are two products, no other number does

pub invented_product_count : (count : ℕ) → (count ≡ 2 → ⊥) → {after : List ℕ} {r : Written} → ListMade q window room after r → product_count after ≡ count → ⊥
invented_product_count count other h is = other (sym is ∙ ap product_count (list_made_settled h right_make).1)

pub always_empty : {after : List ℕ} {r : Written} → ListMade q window room after r → product_count after ≡ 0 → ⊥
always_empty = invented_product_count 0 (λ e. omega arith)

-- ---- one that raises frames as it raises columns: Q has no point in frames -5..-1, and the list says which frames these are

abbrev early : Window
early = record { xlo = columns.lo; xhi = columns.hi; ylo = codes.lo; yhi = codes.hi; zlo = negsuc 4; zhi = negsuc 0 }

pub right_early : ListMade q early room (0 ∷ 0 ∷ 65535 ∷ 0 ∷ 65535 ∷ 1048571 ∷ 1048575 ∷ 4 ∷ 7 ∷ 7 ∷ 7 ∷ 7 ∷ []) (Ok 8)
unfolding table_refusal trees choices ◌crossed_with◌ firsts products zone_list from all_of keep_if count_if find_if first_of selected places_where flat_map
right_early = record { answer = refl; buffer = refl }

pub frames_as_columns : {after : List ℕ} {r : Written} → ListMade q early room after r → word after 5 ≡ raised Column early.zlo → ⊥
frames_as_columns h is =
    let e : ◌≡◌ {A = ℕ} 32763 1048571 = sym is ∙ ap (λ (list : List ℕ). word list 5) (list_made_settled h right_early).1 in omega arith

-- ---- one that prunes the first product and copies the others raw: in (A ∪ B) - C, with C far away, both lose their cut

abbrev cut_far : List ℤ
cut_far = box nought (pos 9) ++ (box nought (pos 9) ++ (union 0 1 ++ (box (pos 40) (pos 49) ++ diff 2 3)))

pub right_cut_far : ListMade cut_far window room (list_header 2 3 ++ (1 ∷ 0 ∷ 2 ∷ 0 ∷ [])) (Ok 12)
unfolding table_refusal trees choices ◌crossed_with◌ firsts products zone_list from all_of keep_if count_if find_if first_of selected places_where flat_map
right_cut_far = record { answer = refl; buffer = refl }

abbrev pub first_pruned : Window → List Primitive → List Product → List Product
first_pruned w solids [] = []
first_pruned w solids (c ∷ cs) = trimmed w solids c ∷ cs

abbrev pub raw_list : List ℤ → Window → List ℕ
raw_list t w = list_of w (length (primitives t)) (first_pruned w (primitives t) (keep_if (stays w (primitives t)) (choices in_of (tree_of t))))

-- its second product keeps the cut
pub raw_cut_far : raw_list cut_far window ≡ list_header 2 3 ++ (1 ∷ 0 ∷ 2 ∷ 4 ∷ [])
unfolding trees choices ◌crossed_with◌ from keep_if find_if selected places_where flat_map
raw_cut_far = refl

pub others_raw : (r : Written) → ListMade cut_far window room (over (raw_list cut_far window) room) r → ⊥
unfolding trees choices ◌crossed_with◌ from keep_if find_if selected places_where flat_map
others_raw r h = let e : ◌≡◌ {A = ℕ} 4 0 = ap (λ (list : List ℕ). get_or list 11 0) (list_made_settled h right_cut_far).1 in omega arith

-- ---- one that tests a cut against the box of its left subtree: in A ∩ (B - C) the cut C meets B, and misses what A leaves of it

abbrev barred : List ℤ
barred = box (pos 5) (pos 9) ++ (box nought (pos 9) ++ (box nought (pos 3) ++ (diff 1 2 ++ inter 0 3)))

pub right_barred : ListMade barred window room (list_header 1 3 ++ (3 ∷ 0 ∷ 7 ∷ 7 ∷ [])) (Ok 10)
unfolding table_refusal trees choices ◌crossed_with◌ firsts products zone_list from all_of keep_if count_if find_if first_of selected places_where flat_map
right_barred = record { answer = refl; buffer = refl }

-- the choices in a tree; those of a difference keep, of the right side's cuts, the ones that meet the box of the left side's choice
module _ (w : Window) (solids : List Primitive) where
  abbrev cut_from : Product → Product → Product
  cut_from left right = joined left (record { plain = right.plain; cuts = (trimmed w solids (record { plain = left.plain; cuts = right.cuts })).cuts })

  unfoldable pub cut_at_left : Tree → List Product
  cut_at_left (solid i s) = record { plain = 2 ^ i; cuts = 0 } ∷ []
  cut_at_left (tree.union left right) = cut_at_left left ++ cut_at_left right
  cut_at_left (tree.inter left right) = cut_at_left left crossed_with cut_at_left right
  cut_at_left (tree.diff left right) = flat_map (λ r. map (λ l. cut_from l r) (cut_at_left left)) (choices out_of right)

abbrev pub left_list : List ℤ → Window → List ℕ
left_list t w = list_of w (length (primitives t)) (firsts (keep_if (stays w (primitives t)) (cut_at_left w (primitives t) (tree_of t))))

-- its product keeps the cut
pub left_barred : left_list barred window ≡ list_header 1 3 ++ (3 ∷ 4 ∷ [])
unfolding trees choices cut_at_left ◌crossed_with◌ firsts from keep_if find_if selected places_where flat_map
left_barred = refl

pub cut_against_left : (r : Written) → ListMade barred window room (over (left_list barred window) room) r → ⊥
unfolding trees choices cut_at_left ◌crossed_with◌ firsts from keep_if find_if selected places_where flat_map
cut_against_left r h = let e : ◌≡◌ {A = ℕ} 4 0 = ap (λ (list : List ℕ). get_or list 9 0) (list_made_settled h right_barred).1 in omega arith

-- ---- one that leaves a triangle's edges out, and one that wants its corners one way round

pub right_on_an_edge : TreeLocated triangle (at 5 5) (Ok true)
unfolding table_refusal trees inside from all_of count_if find_if first_of flat_map
right_on_an_edge = record { answer = refl }

pub edges_left_out : TreeLocated triangle (at 5 5) (Ok false) → ⊥
edges_left_out h = let e = tree_located_settled h right_on_an_edge in never (cc)

pub right_turned_round : TreeLocated turned_round (at 1 1) (Ok true)
unfolding table_refusal trees inside from all_of count_if find_if first_of flat_map
right_turned_round = record { answer = refl }

pub one_way_round_only : TreeLocated turned_round (at 1 1) (Ok false) → ⊥
one_way_round_only h = let e = tree_located_settled h right_turned_round in never (cc)

-- ---- one that tests a cut against the triangle, which it misses, and not against its box

pub right_corner_cut : ListMade corner_cut window room (list_header 1 2 ++ (1 ∷ 2 ∷ 7 ∷ 7 ∷ [])) (Ok 10)
unfolding table_refusal trees choices ◌crossed_with◌ firsts products zone_list from all_of keep_if count_if find_if first_of selected places_where flat_map
right_corner_cut = record { answer = refl; buffer = refl }

pub cut_against_the_triangle : (r : Written) → ListMade corner_cut window room (list_header 1 2 ++ (1 ∷ 0 ∷ 7 ∷ 7 ∷ [])) r → ⊥
cut_against_the_triangle r h = let e : ◌≡◌ {A = ℕ} 0 2 = ap (λ (list : List ℕ). get_or list 9 0) (list_made_settled h right_corner_cut).1 in omega arith

-- ---- ones that draw another frame, or draw it elsewhere: the newest of frames -4..-2 stands in word 2, and nowhere else

word_of : (i : ℕ) {after : List ℤ} {r : Written} → Drawn after r → get_or after i nought ≡ get_or (no_frame ∷ no_frame ∷ negsuc 1 ∷ no_frame ∷ pos 7 ∷ []) i nought
word_of i h = ap (λ (words : List ℤ). get_or words i nought) (picture_drawn_settled h right_picture).1

pub picture_all_none : {after : List ℤ} {r : Written} → Drawn after r → get_or after 2 nought ≡ no_frame → ⊥
picture_all_none h is = let e : ◌≡◌ {A = ℕ} 2147483648 2 = ap nat_abs (sym is ∙ word_of 2 h) in omega arith

pub picture_oldest : {after : List ℤ} {r : Written} → Drawn after r → get_or after 2 nought ≡ negsuc 2 → ⊥
picture_oldest h is = let e : ◌≡◌ {A = ℕ} 3 2 = ap nat_abs (sym is ∙ word_of 2 h) in omega arith

-- the newest frame of the zone, which is past the window
pub picture_past_the_window : {after : List ℤ} {r : Written} → Drawn after r → get_or after 2 nought ≡ negsuc 0 → ⊥
picture_past_the_window h is = let e : ◌≡◌ {A = ℕ} 1 2 = ap nat_abs (sym is ∙ word_of 2 h) in omega arith

pub picture_lowest_code_first : {after : List ℤ} {r : Written} → Drawn after r → get_or after 0 nought ≡ negsuc 1 → ⊥
picture_lowest_code_first h is = let e : ◌≡◌ {A = ℕ} 2 2147483648 = ap nat_abs (sym is ∙ word_of 0 h) in omega arith

-- ---- of a rewriting, in areas of any words, 24,573 at the least

-- (A ∪ B) ∩ C, B and C apart
abbrev part_far : List ℤ
part_far = box nought (pos 9) ++ (box (pos 20) (pos 29) ++ (union 0 1 ++ (box (pos 5) (pos 12) ++ inter 2 3)))

rows_of_part_far : finished_rows part_far ≡ rows_from 0 ((leaf 0 ∩ leaf 2) ∪ (leaf 1 ∩ leaf 2))
unfolding finished_rows form_of leaves trees from flat_map find_if normalize within turn until ended left_done right_done is_primitive is_union lowest
rows_of_part_far = refl

-- pruning leaves A ∩ C of it
pub pruned_part_far : products window (primitives part_far) (tree_of part_far) ≡ products_of (leaf 0 ∩ leaf 2)
unfolding trees choices ◌crossed_with◌ firsts products product_of products_of from keep_if find_if selected places_where flat_map
pruned_part_far = refl

module _ (before work : List ℤ) (fits : rewrite_words ≤ length before) (work-fits : rewrite_words ≤ length work) where
  abbrev zeros : List ℤ
  zeros = replicate (length work) nought

  -- at a sound table of few primitives and ways, by the rows that its tree comes to
  right_at : (t rows : List ℤ) → table_refusal t ≡ none → leb (length (primitives t)) most_rewritten ≡ true → leb (expansion (tree_of t)) most_ways ≡ true
      → finished_rows t ≡ rows → TreeRewritten t before (over rows before) work zeros (Ok (length rows))
  unfolding first_of
  right_at t rows sound few many is = record {
    answer = rw (nothing, is) refl;
    tree = rw (nothing, is) refl;
    zeroed = rw nothing (sym (over_whole zeros work (omega (arith, length-replicate (length work) nought))));
  }
    where
      nothing : rewrite_refusal t (length before) (length work) ≡ none
      nothing = rw (sound, few, many, le-leb rewrite_words (length before) fits, le-leb rewrite_words (length work) work-fits) refl

  pub right_rewrite : TreeRewritten q before (over q_rows before) work zeros (Ok 27)
  unfolding table_refusal trees choices ◌crossed_with◌ from all_of count_if find_if first_of flat_map
  right_rewrite = right_at q q_rows refl refl refl rows_of_q

  pub right_still_fits : TreeRewritten still_fits before (over (rows_from 0 (((leaf 0 ∩ leaf 1) ∖ leaf 2) ∩ leaf 3)) before) work zeros (Ok 21)
  unfolding table_refusal trees choices ◌crossed_with◌ rows_from rows_in from all_of count_if find_if first_of flat_map
  right_still_fits = right_at still_fits _ refl refl refl still_fits_finished

  pub right_part_far : TreeRewritten part_far before (over (rows_from 0 ((leaf 0 ∩ leaf 2) ∪ (leaf 1 ∩ leaf 2))) before) work zeros (Ok 21)
  unfolding table_refusal trees choices ◌crossed_with◌ rows_from rows_in from all_of count_if find_if first_of flat_map
  right_part_far = right_at part_far _ refl refl refl rows_of_part_far

  -- each word of a tree's area is that of the right one
  tree_word : {t after right cleared : List ℤ} {r s : Written} → TreeRewritten t before after work cleared r → TreeRewritten t before right work zeros s
      → (i : ℕ) → get_or after i nought ≡ get_or right i nought
  tree_word h k i = ap (λ (words : List ℤ). get_or words i nought) (tree_rewritten_settled h k).1

  -- one that refuses
  pub refuses_rewriting : (why : Refusal) {after cleared : List ℤ} → TreeRewritten q before after work cleared (Err why) → ⊥
  refuses_rewriting why h = let e = (tree_rewritten_settled h right_rewrite).0 in never (cc)

  -- one that leaves the tree's area as it was, where word 4 is not by chance the right one
  pub rewrite_untouched : (get_or before 4 nought ≡ pos 3 → ⊥) → {cleared : List ℤ} (r : Written) → TreeRewritten q before before work cleared r → ⊥
  rewrite_untouched other r h = other (tree_word h right_rewrite 4)

  -- one that does not clear some word of the work area, up to its last
  pub work_not_cleared : {after cleared : List ℤ} {r : Written} → TreeRewritten q before after work cleared r
      → (i : ℕ) → i < length work → (get_or cleared i nought ≡ nought → ⊥) → ⊥
  work_not_cleared h i l other =
      let e = ap (λ (words : List ℤ). get_or words i nought) (tree_rewritten_settled h right_rewrite).2 in
      other (e ∙ get_or-replicate (length work) i nought nought l)

  -- one that writes the row of the root first: a union's, and its kind is 3
  pub rows_root_first : {after cleared : List ℤ} {r : Written} → TreeRewritten q before after work cleared r → get_or after 0 nought ≡ pos 3 → ⊥
  rows_root_first h is = let e : ◌≡◌ {A = ℕ} 3 0 = ap nat_abs (sym is ∙ tree_word h right_rewrite 0) in omega arith

  -- one that goes on while 6.5 fits
  pub goes_on_while_65_fits : {cleared : List ℤ} (r : Written)
      → TreeRewritten still_fits before (over (rows_from 0 (((leaf 0 ∩ leaf 1) ∩ leaf 3) ∖ leaf 2)) before) work cleared r → ⊥
  unfolding rows_from rows_in
  goes_on_while_65_fits r h = let e : ◌≡◌ {A = ℕ} 3 2 = ap nat_abs (tree_word h right_still_fits 10) in omega arith

  -- one that prunes, whatever stands behind what it wrote: B ∩ C is in the finished tree, though no point is in both
  pub pruned_rewriting : {after cleared : List ℤ}
      → TreeRewritten part_far before after work cleared (Ok (length (rows_from 0 (leaf 0 ∩ leaf 2)))) → ⊥
  unfolding rows_from rows_in
  pruned_rewriting h =
      let e = (tree_rewritten_settled h right_part_far).0 in
      let n : ◌≡◌ {A = ℕ} 9 21 = cc in
      omega arith
