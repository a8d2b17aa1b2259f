-- What the rewriting promises holds: of one rewrite, of a run of the procedure, and of the areas that the call leaves. Assumes nothing.
use Rattle.std.specs.Prelude.{Ok}
use Prim.Native.Nat.{ℕ, ◌-◌, ◌/◌, ◌≤◌}
use native.Mathlib.Nat.{le_refl, zero-add}
use native.Mathlib.Omega.{arith}
use mathlib.Core.Bool.{Bool, not, ◌&&◌, ◌||◌}
use mathlib.Core.List.{List, []}
use mathlib.Core.Option.{Option, none}
use mathlib.Core.Path.{◌≡◌, refl, sym, ap, subst, ◌∙◌}
use borrow.Author.Tests.{leb-true}
use lib.Dec.{leb}
use lib.IntN.{ℤ, pos}
use lib.ListN.{length, get_or, take, drop, replicate, length-replicate}
use Rattle.ground.proofs.Branches.{and_left}
use Rattle.ground.proofs.Counting.{first_kept}
use Rattle.rules.specs.declared.Rule.TheVariants as rule
use Rattle.rules.specs.declared.Refusal.{Refusal}
use Rattle.rules.specs.declared.Window.{Window}
use Rattle.rules.specs.Choices.{choices, in_of, expansion}
use Rattle.rules.specs.Form.{Form, leaf, ◌∪◌, form_of, holds_at, leaves}
use Rattle.rules.specs.ListCalls.{zone_list, ListMade}
use Rattle.rules.specs.ListWords.{list_of}
use Rattle.rules.specs.NormalForm.{products_of}
use Rattle.rules.specs.Outcome.{over, leave}
use Rattle.rules.specs.Products.{products}
use Rattle.rules.specs.Refusals.{refuse_unless}
use Rattle.rules.specs.RewriteCall.{most_rewritten, most_ways, rewrite_words, finished_tree, finished_rows, rewrite_refusal, TreeRewritten}
use Rattle.rules.specs.Table.{primitives}
use Rattle.rules.specs.Told.{Written, fine, wrote, tell, told_written}
use Rattle.rules.specs.Tree.{tree_of}
use Rattle.rules.specs.TreeRows.{rows_in, rows_from, form_to, form_in}
use Rattle.rules.specs.Verdict.{table_refusal}
use Rattle.rules.proofs.Settled.{over_whole, over_rest}
use Rattle.rules.proofs.Told.{written_once, wrote_none}
use Rattle.laws.specs.Sound.{Sound}
use Rattle.laws.proofs.Soundness.{unless_kept, table_sound}
use Rattle.paper.specs.Runs.{Cutting, meet, less, by, Runs, bare, step, both, again, done}
use Rattle.paper.proofs.Equivalences.{rule_points, rule_leaves}
use Rattle.paper.proofs.Taking.{taken_rule}
use Rattle.paper.proofs.Running.{runs_points, runs_leaves, runs_normal}
use Rattle.paper.proofs.Ending.{normalize_runs}
use Rattle.paper.proofs.Products.{runs_products}
use Rattle.paper.proofs.Zones.{choices_form, joins_products, root_inside, room_enough}
use Rattle.paper.proofs.Rows.{rows_leaves, length_rows, read_back}
use Rattle.promises.specs.Rewriting.{Rewrite, here, left_of_∪, left_of_∩, left_of_∖, right_of_∪, Rewrites, no_more, one_more}
use Rattle.promises.specs.Rewriting.{holding, pruned, Rewritten}
use Rattle.promises.proofs.Copies.{made_words}

-- ---- one rewrite

pub rewrite_keeps : {T U : Form} → Rewrite T U → (holding : ℕ → Bool) → holds_at holding T ≡ holds_at holding U
unfolding holds_at
rewrite_keeps (here rule least) holding = rule_points rule holding
rewrite_keeps (left_of_∪ {Y = Y} r) holding = ap (λ (b : Bool). b || holds_at holding Y) (rewrite_keeps r holding)
rewrite_keeps (left_of_∩ {Y = Y} r) holding = ap (λ (b : Bool). b && holds_at holding Y) (rewrite_keeps r holding)
rewrite_keeps (left_of_∖ {Y = Y} r) holding = ap (λ (b : Bool). b && not (holds_at holding Y)) (rewrite_keeps r holding)
rewrite_keeps (right_of_∪ {X = X} r) holding = ap (λ (b : Bool). holds_at holding X || b) (rewrite_keeps r holding)

pub rewrite_leaves : {T U : Form} → Rewrite T U → leaves T ≤ leaves U
unfolding leaves
rewrite_leaves (here rule least) = rule_leaves rule
rewrite_leaves (left_of_∪ r) = omega (arith, rewrite_leaves r)
rewrite_leaves (left_of_∩ r) = omega (arith, rewrite_leaves r)
rewrite_leaves (left_of_∖ r) = omega (arith, rewrite_leaves r)
rewrite_leaves (right_of_∪ r) = omega (arith, rewrite_leaves r)

-- ---- a run of the procedure makes such rewrites, one after the other

then_more : {T U N : Form} → Rewrites T U → Rewrites U N → Rewrites T N
then_more no_more s = s
then_more (one_more r rs) s = one_more r (then_more rs s)

all_left_of_∪ : {X M Y : Form} → Rewrites X M → Rewrites (X ∪ Y) (M ∪ Y)
all_left_of_∪ no_more = no_more
all_left_of_∪ (one_more r rs) = one_more (left_of_∪ r) (all_left_of_∪ rs)

all_right_of_∪ : {X Y N : Form} → Rewrites Y N → Rewrites (X ∪ Y) (X ∪ N)
all_right_of_∪ no_more = no_more
all_right_of_∪ (one_more r rs) = one_more (right_of_∪ r) (all_right_of_∪ rs)

all_left : (o : Cutting) (i : ℕ) {X M : Form} → Rewrites X M → Rewrites (by o X (leaf i)) (by o M (leaf i))
all_left o i no_more = no_more
all_left meet i (one_more r rs) = one_more (left_of_∩ r) (all_left meet i rs)
all_left less i (one_more r rs) = one_more (left_of_∖ r) (all_left less i rs)

runs_rewrites : {T N : Form} → Runs T N → Rewrites T N
runs_rewrites bare = no_more
runs_rewrites (step taken r) = let (k, rule, least) = taken_rule taken in one_more (here rule least) (runs_rewrites r)
runs_rewrites (both r s) = then_more (all_left_of_∪ (runs_rewrites r)) (all_right_of_∪ (runs_rewrites s))
runs_rewrites (again o X A B i e r s) = then_more (all_left o i (runs_rewrites r)) (runs_rewrites s)
runs_rewrites (done o X M i e r u) = all_left o i (runs_rewrites r)

-- ---- the finished tree of a sound table

finished_right : (t : List ℤ) → Sound t → length (primitives t) ≤ most_rewritten → expansion (tree_of t) ≤ most_ways → Rewritten t (finished_tree t)
unfolding products
finished_right t S few many = record {
  normal = runs_normal run;
  by_rules = runs_rewrites run;
  by_procedure = refl;
  exact = exact;
  points = λ p. sym (runs_points run (holding t p)) ∙ root_inside t S p;
  no_leaf_lost = runs_leaves run;
  enough = room_enough t S few many run;
  pruned_list = λ w. ap (pruned w (primitives t)) (sym exact);
}
  where
    run : Runs (form_of (tree_of t)) (finished_tree t)
    run = normalize_runs (form_of (tree_of t))

    exact : products_of (finished_tree t) ≡ choices in_of (tree_of t)
    exact = runs_products joins_products run ∙ sym (choices_form (tree_of t))

-- ---- the call

pub rewrite_writes : {t before after work cleared : List ℤ} {r : Written} → TreeRewritten t before after work cleared r
    → rewrite_refusal t (length before) (length work) ≡ none → told_written r ≡ fine (wrote (length (finished_rows t)))
rewrite_writes {t} met kept = met.answer ∙ ap (λ (x : Option Refusal). tell x (wrote (length (finished_rows t)))) kept

module _ {t before after work cleared : List ℤ} {r : Written} {n : ℕ}
    (met : TreeRewritten t before after work cleared r) (wrote_it : told_written r ≡ fine (wrote n)) where
  told : (rewrite_refusal t (length before) (length work) ≡ none) × (n ≡ length (finished_rows t))
  told = wrote_none (rewrite_refusal t (length before) (length work)) (length (finished_rows t)) n (sym wrote_it ∙ met.answer)

  -- the rows stand at the start of the tree's area
  rows_over : after ≡ over (finished_rows t) before
  rows_over = met.tree ∙ ap (λ (x : Option Refusal). leave x (finished_rows t) before) told.0

  -- they are read back as the tree that they were written from
  back : form_in after n ≡ finished_tree t
  unfolding finished_rows
  back =
      let F : Form = finished_tree t in
      let m : n / 3 ≡ rows_in F = omega (arith, told.1, length_rows 0 F) in
      ap (λ (rows : ℕ). form_to rows after (rows - 1)) m
      ∙ ap (λ (rows : ℕ). form_to (rows_in F) after (rows - 1)) (sym (zero-add (rows_in F)))
      ∙ read_back F (rows_in F) 0 after (drop (length (rows_from 0 F)) before) (le_refl (rows_in F)) rows_over

  -- the rules of the call, which were all kept
  kept : (table_refusal t ≡ none) × (length (primitives t) ≤ most_rewritten) × (expansion (tree_of t) ≤ most_ways) × (rewrite_words ≤ length before)
  kept =
      let solids = length (primitives t) in
      let ways = expansion (tree_of t) in
      let room = leb rewrite_words (length before) in
      let work_room = leb rewrite_words (length work) in
      let table = first_kept (table_refusal t) _ told.0 in
      let few = first_kept (refuse_unless (leb solids most_rewritten) rule.Leaves solids) _ table.1 in
      let many = first_kept (refuse_unless (leb ways most_ways) rule.Ways ways) _ few.1 in
      let areas = first_kept (refuse_unless (room && work_room) rule.Room rewrite_words) [] many.1 in (
        table.0,
        leb-true solids most_rewritten (unless_kept (leb solids most_rewritten) rule.Leaves solids few.0),
        leb-true ways most_ways (unless_kept (leb ways most_ways) rule.Ways ways many.0),
        leb-true rewrite_words (length before) (and_left room work_room (unless_kept (room && work_room) rule.Room rewrite_words areas.0)),
      )

  finished : Rewritten t (finished_tree t)
  finished = finished_right t (table_sound t kept.0) kept.1 kept.2

  pub rewrite_fits : (n ≤ rewrite_words) × (rewrite_words ≤ length before)
  unfolding finished_rows
  rewrite_fits =
      let F : Form = finished_tree t in
      (omega (arith, told.1, length_rows 0 F, rows_leaves F, finished.enough), kept.3)

  pub rewrite_tells : Rewritten t (form_in after n)
  rewrite_tells = subst (λ (F : Form). Rewritten t F) (sym back) finished

  pub rewrite_rest_stays : (i : ℕ) → n ≤ i → get_or after i (pos 0) ≡ get_or before i (pos 0)
  rewrite_rest_stays i l =
      ap (λ (words : List ℤ). get_or words i (pos 0)) rows_over ∙ over_rest (finished_rows t) before (pos 0) i (omega (arith, told.1))

  pub rewrite_clears : cleared ≡ replicate (length work) (pos 0)
  rewrite_clears =
      let zeros : List ℤ = replicate (length work) (pos 0) in
      met.zeroed ∙ ap (λ (x : Option Refusal). leave x zeros work) told.0
      ∙ over_whole zeros work (omega (arith, length-replicate (length work) (pos 0)))

  pub list_from_rewriting : {w : Window} {room list : List ℕ} {s : Written} {m : ℕ} → ListMade t w room list s → told_written s ≡ fine (wrote m)
      → take m list ≡ list_of w (length (primitives t)) (pruned w (primitives t) (products_of (form_in after n)))
  unfolding zone_list
  list_from_rewriting {w} {room} {list} {s} {m} made told-it =
      made_words (subst (ListMade t w room list) (written_once s (Ok m) told-it) made)
      ∙ ap (list_of w (length (primitives t))) (rewrite_tells.pruned_list w)
