-- The room, then the list. Assumes nothing.
use Rattle.std.specs.Prelude.{Err}
use Prim.Native.Nat.{ℕ, ◌≤◌, ◌<◌}
use native.Mathlib.Omega.{arith}
use mathlib.Core.Bool.{true}
use mathlib.Core.List.{List, flat_map}
use mathlib.Core.Path.{◌≡◌, sym, ap, subst, ◌∙◌}
use lib.IntN.{ℤ}
use lib.ListN.{length}
use lib.Seq.{sets}
use Rattle.rules.specs.Choices.{expansion}
use Rattle.rules.specs.ListCalls.{most_choices, zone_list, ListMade}
use Rattle.rules.specs.ListWords.{header_words, words_of, place_of}
use Rattle.rules.specs.Products.{products}
use Rattle.rules.specs.Table.{primitives}
use Rattle.rules.specs.Tree.{tree_of}
use Rattle.rules.specs.declared.Product.{Product}
use Rattle.rules.specs.declared.Rule.TheVariants.{Room}
use Rattle.rules.specs.declared.Window.{Window}
use Rattle.laws.proofs.Soundness.{table_sound}
use Rattle.laws.specs.Plans.{count}
use Rattle.choice.specs.Steps.{root_plan}
use Rattle.walk.proofs.Tracks.{put_length}
use Rattle.choice.proofs.Steps.{expansion_ways}
use Rattle.list.proofs.Calls.{made_room, made_fine, zone_words, walked, walked_products, walked_few, list_written}
use Rattle.list.proofs.make_of.Goals as goal

not_many : (t : List ℤ) {ways : ℕ} → ways ≡ count (root_plan t) → ways ≤ most_choices → expansion (tree_of t) ≤ most_choices
not_many t e l = omega (arith, expansion_ways t, e, l)

-- the words of what is walked are the zone's
words_same : (t : List ℤ) (w : Window) {ps : List Product} → ps ≡ products w (primitives t) (tree_of t) → place_of (length ps) ≡ length (zone_list t w)
words_same t w e = ap (λ (ps : List Product). place_of (length ps)) e ∙ sym (zone_words t w)

pub seen_in-seen-requires : goal.seen_in-seen-requires
seen_in-seen-requires c = table_sound c.args.table.now c.requires.table_value.0

pub lay-end-requires : goal.lay-end-requires
lay-end-requires c = record { sound = table_sound c.args.table.now c.requires.table_value.0; numbered = c.requires.numbered.0 }

pub invariant_of-plan : goal.invariant_of-plan
invariant_of-plan c = record { sound = c.lay-end.ensures.sound }

pub measure-needed-requires : goal.measure-needed-requires
measure-needed-requires c = (walked_few c.lay-end.ensures c.requires.ways_value.0, c.requires.ways_value.1)

pub returns-then-list-needed : goal.returns-then-list-needed
returns-then-list-needed c =
    let t = c.args.table.now in
    let w = c.args.w in
    let same = c.measure-needed.ensures.1 in
    let same_products = walked_products c.lay-end.ensures w (table_sound t c.requires.table_value.0) c.requires.table_value.1 c.seen_in-seen.ensures in
    let short : length c.args.list.now < c.measure-needed.result = omega (arith, c.if-list-needed.true, ap length same) in
    rw c.new.ensures (subst (λ (l : List ℕ). ListMade t w c.args.list.now l (Err (record { rule = Room; value = c.measure-needed.result }))) (sym same)
    (made_room t w c.args.list.now c.requires.table_value.0 c.requires.table_value.1 (not_many t c.requires.ways_value.0 c.requires.ways_value.1) (c.measure-needed.ensures.0.exact short ∙ words_same t w same_products) short))

pub walk-n-requires : goal.walk-n-requires
walk-n-requires c =
    let same = ap length c.measure-needed.ensures.1 in record {
      few = omega (arith, walked_few c.lay-end.ensures c.requires.ways_value.0, c.requires.ways_value.1);
      room = λ k. omega (arith, c.measure-needed.ensures.0.enough (omega (arith, c.if-list-needed.false, same)), same);
    }

pub write_header-requires : goal.write_header-requires
write_header-requires c =
    let same = ap length c.measure-needed.ensures.1 in record {
      w_value = c.requires.table_value.1;
      header_words_in_bounds = omega (arith, c.measure-needed.ensures.0.enough (omega (arith, c.if-list-needed.false, same)), put_length true c.walk-n.ensures, same);
    }

pub place_of-requires : goal.place_of-requires
place_of-requires c = omega (arith, c.walk-n.ensures.count, walked_few c.lay-end.ensures c.requires.ways_value.0, c.requires.ways_value.1)

pub returns : goal.returns
returns c =
    let t = c.args.table.now in
    let w = c.args.w in
    let before = c.args.list.now in
    let all = walked c.lay-end.ensures in
    let same_products = walked_products c.lay-end.ensures w (table_sound t c.requires.table_value.0) c.requires.table_value.1 c.seen_in-seen.ensures in
    let room : place_of (length all) ≤ length before = c.measure-needed.ensures.0.enough (omega (arith, c.if-list-needed.false, ap length c.measure-needed.ensures.1)) in
    let n : c.walk-n.result ≡ length all = omega (arith, c.walk-n.ensures.count) in
    let now = c.walk-n.ensures.words ∙ ap (λ (l : List ℕ). sets l header_words (flat_map words_of all)) c.measure-needed.ensures.1 in
    made_fine t w before c.requires.table_value.0 c.requires.table_value.1 (not_many t c.requires.ways_value.0 c.requires.ways_value.1) (c.place_of.ensures ∙ ap place_of n ∙ words_same t w same_products) (omega (arith, c.place_of.ensures, n, room))
    (list_written t w before same_products n c.requires.numbered.1 room now c.write_header.ensures)
