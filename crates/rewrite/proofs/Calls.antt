-- What the call answers, by the first rule that is broken; and what it leaves where none is. Assumes nothing.
use Rattle.std.specs.Prelude.{Ok, Err}
use Prim.Native.Nat.{ℕ, ◌+◌, ◌-◌, ◌*◌, ◌≤◌, ◌<◌}
use mathlib.Core.Bool.{Bool, true, false, ◌&&◌, ◌||◌}
use mathlib.Core.List.{List, [], ◌∷◌, ◌++◌, append-nil}
use mathlib.Core.Logic.{◌⊎◌, inl, inr}
use mathlib.Core.Option.{Option, none, some}
use mathlib.Core.Path.{◌≡◌, refl, sym, ap, ap₂, ◌∙◌}
use native.Mathlib.Nat.{zero-add}
use native.Mathlib.Omega.{arith}
use borrow.Author.Tests.{ltb-true, ltb-false, le-leb, lt-leb}
use lib.Dec.{leb, ltb}
use lib.IntN.{ℤ, pos}
use lib.ListN.{length, length-drop, length-replicate, drop, replicate}
use lib.Seq.{sets, sets-eq, length-sets}
use Rattle.ground.specs.Lists.{first_of}
use Rattle.ground.proofs.Branches.{or_cases}
use Rattle.ground.proofs.Counting.{first_broken, first_passed}
use Rattle.rules.specs.declared.Rule.TheVariants as rule
use Rattle.rules.specs.declared.Refusal.{Refusal}
use Rattle.rules.specs.Choices.{expansion}
use Rattle.rules.specs.Form.{Form, form_of}
use Rattle.rules.specs.Outcome.{over, leave}
use Rattle.rules.specs.Refusals.{refuse, refuse_unless}
use Rattle.rules.specs.RewriteCall.{most_rewritten, most_ways, rewrite_words, finished_tree, finished_rows, rewrite_refusal, TreeRewritten}
use Rattle.rules.specs.Table.{row_count, primitives}
use Rattle.rules.specs.Told.{wrote, tell}
use Rattle.rules.specs.Tree.{tree_of}
use Rattle.rules.specs.TreeRows.{rows_in, rows_from}
use Rattle.rules.specs.Verdict.{table_refusal}
use Rattle.laws.specs.Sound.{Sound}
use Rattle.laws.proofs.Soundness.{or_false, table_sound}
use Rattle.paper.proofs.Ending.{normalize_runs}
use Rattle.paper.proofs.Rows.{rows_leaves, length_rows}
use Rattle.paper.proofs.Running.{runs_leaves}
use Rattle.paper.proofs.Zones.{room_enough}
use Rattle.moves.specs.Moves.{most_words}
use Rattle.normal.specs.Held.{Ready}
use Rattle.normal.specs.Prefix.{flat}
use Rattle.normal.proofs.Words.{length_flat}
use Rattle.finished.specs.Rows.{zeros}
use Rattle.flatten.specs.Forms.{Laid}
use Rattle.rewrite.specs.Limits.{Limits, Finished}
use Rattle.rewrite.proofs.Numbers.{root_small}

-- ---- the room of two areas
pub too_short : (a b : ℕ) → (ltb a rewrite_words || ltb b rewrite_words) ≡ true → (leb rewrite_words a && leb rewrite_words b) ≡ false
too_short a b h = go (or_cases (ltb a rewrite_words) (ltb b rewrite_words) h)
  where
    no_second : (x : Bool) → (x && false) ≡ false
    no_second true = refl
    no_second false = refl

    go : (ltb a rewrite_words ≡ true) ⊎ (ltb b rewrite_words ≡ true) → (leb rewrite_words a && leb rewrite_words b) ≡ false
    go (inl e) = ap (λ (x : Bool). x && leb rewrite_words b) (lt-leb rewrite_words a (ltb-true a rewrite_words e))
    go (inr e) = ap (λ (x : Bool). leb rewrite_words a && x) (lt-leb rewrite_words b (ltb-true b rewrite_words e)) ∙ no_second (leb rewrite_words a)

pub long_enough : (a b : ℕ) → (ltb a rewrite_words || ltb b rewrite_words) ≡ false → (rewrite_words ≤ a) × (rewrite_words ≤ b)
long_enough a b h = let e = or_false (ltb a rewrite_words) (ltb b rewrite_words) h in (ltb-false a rewrite_words e.0, ltb-false b rewrite_words e.1)

-- ---- an area cleared to its end
none_left : (n : ℕ) (l : List ℤ) → length l ≡ n - n → l ≡ []
none_left n [] e = refl
none_left n (x ∷ xs) e = absurd (omega arith)

nothing_past : (w : List ℤ) → replicate (length w) (pos 0) ++ drop (length (replicate (length w) (pos 0))) w ≡ replicate (length w) (pos 0)
nothing_past w =
    ap (λ (l : List ℤ). replicate (length w) (pos 0) ++ l)
    (ap (λ (n : ℕ). drop n w) (length-replicate (length w) (pos 0)) ∙ none_left (length w) (drop (length w) w) (length-drop (length w) w))
    ∙ append-nil (replicate (length w) (pos 0))

pub clear_all : (w : List ℤ) → sets w 0 (zeros (length w)) ≡ replicate (length w) (pos 0)
unfolding zeros
clear_all w =
    let Z : List ℤ = replicate (length w) (pos 0) in
    sets-eq Z w 0 (omega (arith, length-replicate (length w) (pos 0))) ∙ ap (λ (k : ℕ). Z ++ drop k w) (zero-add (length Z)) ∙ nothing_past w

-- ---- the rules in their order
module _ (t before work : List ℤ) where
  abbrev many_primitives : Option Refusal
  many_primitives = refuse_unless (leb (length (primitives t)) most_rewritten) rule.Leaves (length (primitives t))

  abbrev many_ways : Option Refusal
  many_ways = refuse_unless (leb (expansion (tree_of t)) most_ways) rule.Ways (expansion (tree_of t))

  abbrev no_room : Option Refusal
  no_room = refuse_unless (leb rewrite_words (length before) && leb rewrite_words (length work)) rule.Room rewrite_words

  refused_by : {r : Refusal} → rewrite_refusal t (length before) (length work) ≡ some r → TreeRewritten t before before work work (Err r)
  refused_by h = record {
    answer = sym (ap (λ (x : Option Refusal). tell x (wrote (length (finished_rows t)))) h);
    tree = sym (ap (λ (x : Option Refusal). leave x (finished_rows t) before) h);
    zeroed = sym (ap (λ (x : Option Refusal). leave x (replicate (length work) (pos 0)) work) h);
  }

  pub by_table : {r : Refusal} → table_refusal t ≡ some r → TreeRewritten t before before work work (Err r)
  by_table h = refused_by (first_broken (table_refusal t) (many_primitives ∷ many_ways ∷ no_room ∷ []) h)

  module _ (h : table_refusal t ≡ none) where
    past_table : rewrite_refusal t (length before) (length work) ≡ first_of (many_primitives ∷ many_ways ∷ no_room ∷ [])
    past_table = first_passed (table_refusal t) (many_primitives ∷ many_ways ∷ no_room ∷ []) h

    pub by_primitives : {n : ℕ} → n ≡ length (primitives t) → most_rewritten < n → TreeRewritten t before before work work (Err (record { rule = rule.Leaves; value = n }))
    by_primitives {n} e l =
        let z : many_primitives ≡ refuse rule.Leaves n =
        ap (λ (x : ℕ). refuse_unless (leb x most_rewritten) rule.Leaves x) (sym e) ∙ ap (λ (b : Bool). refuse_unless b rule.Leaves n) (lt-leb n most_rewritten l) in
        refused_by (past_table ∙ first_broken many_primitives (many_ways ∷ no_room ∷ []) z)

    module _ (few : length (primitives t) ≤ most_rewritten) where
      past_primitives : rewrite_refusal t (length before) (length work) ≡ first_of (many_ways ∷ no_room ∷ [])
      past_primitives =
          past_table ∙ first_passed many_primitives (many_ways ∷ no_room ∷ []) (ap (λ (b : Bool). refuse_unless b rule.Leaves (length (primitives t))) (le-leb (length (primitives t)) most_rewritten few))

      pub by_ways : {n : ℕ} → n ≡ expansion (tree_of t) → most_ways < n → TreeRewritten t before before work work (Err (record { rule = rule.Ways; value = n }))
      by_ways {n} e l =
          let z : many_ways ≡ refuse rule.Ways n = ap (λ (x : ℕ). refuse_unless (leb x most_ways) rule.Ways x) (sym e) ∙ ap (λ (b : Bool). refuse_unless b rule.Ways n) (lt-leb n most_ways l) in
          refused_by (past_primitives ∙ first_broken many_ways (no_room ∷ []) z)

      module _ (ways : expansion (tree_of t) ≤ most_ways) where
        past_ways : rewrite_refusal t (length before) (length work) ≡ first_of (no_room ∷ [])
        past_ways = past_primitives ∙ first_passed many_ways (no_room ∷ []) (ap (λ (b : Bool). refuse_unless b rule.Ways (expansion (tree_of t))) (le-leb (expansion (tree_of t)) most_ways ways))

        pub by_room : (leb rewrite_words (length before) && leb rewrite_words (length work)) ≡ false
            → TreeRewritten t before before work work (Err (record { rule = rule.Room; value = 24573 }))
        by_room e = refused_by (past_ways ∙ first_broken no_room [] (ap (λ (b : Bool). refuse_unless b rule.Room rewrite_words) e))

  pub by_none : {after cleared : List ℤ} {n : ℕ} → Limits t before work → Finished t before after work cleared n → TreeRewritten t before after work cleared (Ok n)
  unfolding first_of
  by_none {after} {cleared} {n} l f =
      let z : no_room ≡ none =
      ap (λ (b : Bool). refuse_unless b rule.Room rewrite_words) (ap₂ ◌&&◌ (le-leb rewrite_words (length before) l.room) (le-leb rewrite_words (length work) l.work_room)) in
      let fine : rewrite_refusal t (length before) (length work) ≡ none = past_ways l.sound l.few l.ways ∙ first_passed no_room [] z in
      record {
        answer = ap (λ (k : ℕ). tell none (wrote k)) f.size ∙ sym (ap (λ (x : Option Refusal). tell x (wrote (length (finished_rows t)))) fine);
        tree = f.tree ∙ sym (ap (λ (x : Option Refusal). leave x (finished_rows t) before) fine);
        zeroed = f.zeroed ∙ sym (nothing_past work) ∙ sym (ap (λ (x : Option Refusal). leave x (replicate (length work) (pos 0)) work) fine);
      }

-- ---- within the limits
module _ {t before work : List ℤ} (l : Limits t before work) where
  pub sound : Sound t
  sound = table_sound t l.sound

  -- at most 4,096 leaves, so many rows, and no more on the way
  pub rows_fit : rows_in (finished_tree t) ≤ most_words
  rows_fit = omega (arith, room_enough t sound l.few l.ways (normalize_runs (form_of (tree_of t))), rows_leaves (finished_tree t))

  pub form_fits : rows_in (form_of (tree_of t)) ≤ most_words
  form_fits = omega (arith, rows_fit, runs_leaves (normalize_runs (form_of (tree_of t))), rows_leaves (form_of (tree_of t)), rows_leaves (finished_tree t))

  pub laid_ready : {v : List ℤ} {used : ℕ} → Laid t (row_count t - 1) 0 work v used → Ready v 0 used [] (form_of (tree_of t)) []
  laid_ready {v} {used} h =
      let F : Form = form_of (tree_of t) in
      let k : 0 + length (flat F) ≤ length work = omega (arith, length_flat F, form_fits, l.work_room) in
      record {
        held = record {
          rest = drop (0 + length (flat F)) work;
          words = h.words ∙ sets-eq (flat F) work 0 k;
          before = refl;
          upto = omega (arith, h.ends);
          small = root_small t sound l.few;
          few = form_fits;
        };
        room = omega (arith, rows_fit, l.work_room, ap length h.words, length-sets work 0 (flat F));
        most = rows_fit;
      }

  pub rows_over : {after : List ℤ} → after ≡ sets before (0 * 3) (rows_from 0 (finished_tree t)) → after ≡ over (finished_rows t) before
  unfolding finished_rows
  rows_over {after} e =
      let R : List ℤ = rows_from 0 (finished_tree t) in
      let k : 0 + length R ≤ length before = omega (arith, length_rows 0 (finished_tree t), rows_fit, l.room) in
      e ∙ sets-eq R before 0 k ∙ ap (λ (j : ℕ). R ++ drop j before) (zero-add (length R))

  pub rows_many : {n : ℕ} → n ≡ 0 + rows_in (finished_tree t) → n * 3 ≡ length (finished_rows t)
  unfolding finished_rows
  rows_many {n} e = omega (arith, length_rows 0 (finished_tree t))
