-- The three promises hold: each sentence cites the theorem that keeps it. Assumes nothing.
use Rattle.std.specs.Prelude.{Ok}
use Prim.Native.Nat.{ℕ, ◌*◌}
use native.Mathlib.Omega.{arith}
use mathlib.Core.List.{List}
use mathlib.Core.Option.{Option}
use mathlib.Core.Path.{◌≡◌, ap, subst, ◌∙◌}
use lib.IntN.{ℤ}
use lib.ListN.{length}
use Rattle.ground.proofs.Saying.{says_itself}
use Rattle.rules.specs.declared.Refusal.{Refusal}
use Rattle.rules.specs.declared.Window.{Window}
use Rattle.rules.specs.Boxes.{Box}
use Rattle.rules.specs.Frame.{first_inside, inside_count}
use Rattle.rules.specs.Inside.{inside}
use Rattle.rules.specs.ListCalls.{zone_list, make_refusal, ListMade, list_point_refusal, list_search_refusal, screen_refusal, waterfall_refusal}
use Rattle.rules.specs.ListInside.{inside_list}
use Rattle.rules.specs.Products.{products}
use Rattle.rules.specs.RewriteCall.{finished_rows, rewrite_refusal}
use Rattle.rules.specs.Screen.{triple_words}
use Rattle.rules.specs.Table.{primitives}
use Rattle.rules.specs.TextCalls.{table_read, read_refusal, table_text, write_refusal}
use Rattle.rules.specs.Told.{Written, fine, wrote, tell, told_written}
use Rattle.rules.specs.Tree.{tree_of}
use Rattle.rules.specs.TreeCalls.{tree_point_refusal, tree_search_refusal}
use Rattle.rules.specs.Waterfall.{picture_words}
use Rattle.rules.proofs.Settled.{tree_located_settled, tree_searched_settled, list_located_settled, list_searched_settled, list_made_settled}
use Rattle.rules.proofs.Settled.{text_read_settled, text_written_settled, list_made_keeps, text_read_keeps, text_written_keeps}
use Rattle.rules.proofs.Settled.{screen_searched_settled, screen_searched_keeps, picture_drawn_settled, picture_drawn_keeps}
use Rattle.rules.proofs.Settled.{tree_rewritten_settled, tree_rewritten_keeps}
use Rattle.rules.proofs.Told.{written_once, triple_once}
use Rattle.paper.proofs.Equivalences.{rule_points}
use Rattle.promises.specs.Promises.{Promise1, InTree, InList, Made, Faithful, Promise2, Listable, Promise3}
use Rattle.promises.proofs.ListAsTree.{sample_held, window_in_range, made_passes, list_locates, list_answers_tree, list_refuses_outside, searches_agree}
use Rattle.promises.proofs.Copies.{list_needs, listable_fine, not_refused, made_listable, made_fits, made_length, made_words, made_here}
use Rattle.promises.proofs.Outcomes.{check_answers, point_answers, search_answers, writes, read_answer}
use Rattle.promises.proofs.Buffers.{list_right, list_rest, list_room}
use Rattle.promises.proofs.Searches.{search_finds}
use Rattle.promises.proofs.Screens.{screen_writes, screen_tells}
use Rattle.promises.proofs.Pictures.{picture_writes, picture_tells, made_picture}
use Rattle.promises.proofs.Rewritings.{rewrite_keeps, rewrite_leaves, rewrite_writes, rewrite_fits, rewrite_tells}
use Rattle.promises.proofs.Rewritings.{rewrite_rest_stays, rewrite_clears, list_from_rewriting}
use Rattle.promises.proofs.Sets.{tests_are_sets, tree_answers_sets}
use Rattle.promises.proofs.Strangers.{stranger_refused}
use Rattle.promises.proofs.RoundTrips.{writes_text, table_text_table, reads_text, text_table_text}

-- ---- Promise 1: each call by its settled-lemma; a call that writes by its keeps-lemma too

pub promise_1 : Promise1
promise_1 = record {
  check_table = check_answers;
  tree_point = λ t p. point_answers (tree_point_refusal t p) (inside (tree_of t) p) (λ r m. m.answer) (λ r s. tree_located_settled);
  tree_search = λ t samples place.
      let is_inside = inside (tree_of t) in
      search_answers (tree_search_refusal t samples place) (first_inside is_inside samples place) (inside_count is_inside samples place)
      (λ r m. m.answer) (λ r s. tree_searched_settled);
  make_list = λ t w before.
      writes (make_refusal t w (length before)) (length (zone_list t w))
      (λ after r m. m.answer) (λ a b r s. list_made_settled) (λ after q. list_made_keeps);
  list_point = λ t list p.
      point_answers (list_point_refusal t list p) (inside_list (primitives t) list p) (λ r m. m.answer) (λ r s. list_located_settled);
  list_search = λ t list samples place.
      let is_inside = inside_list (primitives t) list in
      search_answers (list_search_refusal t list samples place) (first_inside is_inside samples place) (inside_count is_inside samples place)
      (λ r m. m.answer) (λ r s. list_searched_settled);
  list_search_frames = λ t list codes frames place before.
      writes (screen_refusal t list codes frames (length before)) (triple_words * frames)
      (λ after r m. m.answer) (λ a b r s. screen_searched_settled) (λ after q. screen_searched_keeps);
  list_waterfall = λ t list q before.
      writes (waterfall_refusal t list q (length before)) (picture_words q)
      (λ after r m. m.answer) (λ a b r s. picture_drawn_settled) (λ after q. picture_drawn_keeps);
  rewrite_tree = λ t before work.
      writes (rewrite_refusal t (length before) (length work)) (length (finished_rows t)) (λ areas r m. m.answer)
      (λ a b r s m k. let same = tree_rewritten_settled m k in (same.0, λ i. (same.1 i, same.2 i)))
      (λ areas q m. let kept = tree_rewritten_keeps m in λ i. (kept.0 i, kept.1 i));
  read_text = λ text form before.
      writes (read_refusal form (length before)) (length (table_read form))
      (λ after r. read_answer form) (λ a b r s. text_read_settled) (λ after q. text_read_keeps);
  write_text = λ t before.
      writes (write_refusal t (length before)) (length (table_text t))
      (λ after r m. m.answer) (λ a b r s. text_written_settled) (λ after q. text_written_keeps);
}

-- ---- Promise 2

faithful : {t : List ℤ} {w : Window} {list : List ℕ} → Made t w list → Faithful t w list
faithful {t} {w} {list} m = record {
  answers = λ p held by-list.
      tree_answers_sets t listable.sound p (window_in_range w listable.window p held) (list_locates t w list list n here p held by-list);
  as_tree = list_answers_tree t w list list n here;
  refuses = list_refuses_outside t w list list n here;
  frame_as_tree = searches_agree t w list list n here;
  refuses_frame = λ samples place frame k l out earlier by-list.
      let passes = made_passes t w list list n here in
      stranger_refused t list samples place by-list passes.0 frame k l
      (ap (λ (b : Box). sample_held b samples place k) passes.1 ∙ out)
      (λ j h. ap (λ (b : Box). sample_held b samples place j) passes.1 ∙ earlier j h);
  picture = λ q met wrote_it. made_picture t w list list n here met wrote_it;
}
  where
    n : ℕ
    n = m.words

    here : ListMade t w list list (Ok n)
    here = made_here m

    listable : Listable t w
    listable = made_listable here

pub promise_2 : Promise2
promise_2 = record {
  tree_answers = tree_answers_sets;
  list_answers = λ t w list. faithful;
  tree_searches = λ t samples place.
      search_finds (inside (tree_of t)) (InTree t) (tests_are_sets (tree_of t)) samples place (tree_search_refusal t samples place) (λ r m. m.answer);
  list_searches = λ t list samples place.
      let is_inside = inside_list (primitives t) list in
      search_finds is_inside (InList t list) (λ p. says_itself (is_inside p)) samples place (list_search_refusal t list samples place) (λ r m. m.answer);
  screen_writes = screen_writes;
  screen_tells = screen_tells;
  triples_apart = triple_once;
  picture_writes = picture_writes;
  picture_tells = picture_tells;
  rewrite_writes = rewrite_writes;
  rewrite_fits = rewrite_fits;
  rewrite_tells = rewrite_tells;
  rewrite_rest_stays = rewrite_rest_stays;
  rewrite_clears = rewrite_clears;
  each_rule_keeps = rule_points;
  each_rewrite_keeps = rewrite_keeps;
  each_rewrite_loses_no_leaf = rewrite_leaves;
  list_from_rewriting = list_from_rewriting;
  writes_text = writes_text;
  table_text_table = table_text_table;
  reads_text = reads_text;
  text_table_text = text_table_text;
}

-- ---- Promise 3

pub promise_3 : {t : List ℤ} {w : Window} {before after : List ℕ} {r : Written} → ListMade t w before after r → Promise3 t w before after r
unfolding zone_list products
promise_3 {t} {w} {before} {after} {r} made = record {
  writes = λ l fits.
      let told = ap (λ (x : Option Refusal). tell x (wrote (length (zone_list t w)))) (listable_fine t w l (length before) fits) in
      made.answer ∙ told ∙ ap (λ (n : ℕ). fine (wrote n)) (list_needs t w);
  only_then = λ e. (made_listable (wrote_it e), made_fits (wrote_it e));
  exactly = λ e. made_words (wrote_it e);
  each_once = λ e. list_right t w before after r made (not_refused (wrote_it e));
  rest_stays = λ e i l. list_rest t w before after r made (not_refused (wrote_it e)) i (omega (arith, made_length (wrote_it e)));
  no_room = λ l short. list_room t w before after r made l.sound l.window l.few short;
}
  where
    wrote_it : {n : ℕ} → told_written r ≡ fine (wrote n) → ListMade t w before after (Ok n)
    wrote_it {n} e = subst (ListMade t w before after) (written_once r (Ok n) e) made
