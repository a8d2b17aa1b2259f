-- A list is made just where the rules refuse nothing; and the words of a list that was made are such a list wherever they stand. Assumes nothing.
use Rattle.std.specs.Prelude.{Ok}
use Prim.Native.Nat.{ℕ, ◌≤◌}
use native.Mathlib.Omega.{arith}
use mathlib.Core.List.{List, [], ◌++◌}
use mathlib.Core.Option.{Option, none}
use mathlib.Core.Path.{◌≡◌, refl, sym, ap, subst, ◌∙◌}
use borrow.Author.Tests.{leb-true, le-leb}
use lib.Dec.{leb}
use lib.IntN.{ℤ}
use lib.ListN.{length, take, drop, length-take, take-append-drop}
use lib.Seq.{take_at}
use Rattle.ground.specs.Lists.{first_of}
use Rattle.ground.proofs.Counting.{first_kept}
use Rattle.rules.specs.declared.Rule.TheVariants as rule
use Rattle.rules.specs.declared.Refusal.{Refusal}
use Rattle.rules.specs.declared.Window.{Window}
use Rattle.rules.specs.Choices.{expansion}
use Rattle.rules.specs.ListCalls.{most_choices, window_refusal, choices_refusal, zone_list, make_refusal, ListMade}
use Rattle.rules.specs.Outcome.{leave}
use Rattle.rules.specs.Products.{products}
use Rattle.rules.specs.Refusals.{room_refusal}
use Rattle.rules.specs.Table.{primitives}
use Rattle.rules.specs.Told.{fine, wrote, tell}
use Rattle.rules.specs.Tree.{tree_of}
use Rattle.rules.specs.Verdict.{table_refusal}
use Rattle.rules.proofs.Told.{written_once}
use Rattle.promises.specs.Promises.{Made, pruned_afterwards, needed, Listable}
use Rattle.promises.proofs.ListAsTree.{accepted, table_fine, window_fine, few_choices}
use Rattle.laws.proofs.ZoneProducts.{is_over}
use Rattle.laws.proofs.Soundness.{unless_kept}
use Rattle.laws.proofs.Words.{list_length}

module _ (t : List ℤ) (w : Window) where
  pub list_needs : length (zone_list t w) ≡ needed t w
  unfolding zone_list products
  list_needs = list_length w (length (primitives t)) (pruned_afterwards t w)

  pub listable_fine : Listable t w → (room : ℕ) → needed t w ≤ room → make_refusal t w room ≡ none
  unfolding first_of
  listable_fine l room fits =
      rw (l.sound, l.window, le-leb (expansion (tree_of t)) most_choices l.few, list_needs, le-leb (needed t w) room fits) refl

-- a call that wrote n words
module _ {t : List ℤ} {w : Window} {before after : List ℕ} {n : ℕ} (made : ListMade t w before after (Ok n)) where
  pub not_refused : make_refusal t w (length before) ≡ none
  not_refused = accepted t w before after n made

  pub made_listable : Listable t w
  made_listable = record {
    sound = table_fine t w before after n made;
    window = window_fine t w before after n made;
    few = few_choices t w before after n made;
  }

  pub made_fits : needed t w ≤ length before
  made_fits =
      let m = length (zone_list t w) in
      let after_window = (first_kept (window_refusal w) _ (first_kept (table_refusal t) _ not_refused).1).1 in
      let room = (first_kept (room_refusal m (length before)) [] (first_kept (choices_refusal (expansion (tree_of t))) _ after_window).1).0 in
      omega (arith, list_needs t w, leb-true m (length before) (unless_kept (leb m (length before)) rule.Room m room))

  -- it wrote all words of the list
  pub made_length : n ≡ length (zone_list t w)
  made_length =
      let told = ap (λ (x : Option Refusal). tell x (wrote (length (zone_list t w)))) not_refused in
      let same = written_once (Ok n) (Ok (length (zone_list t w))) (made.answer ∙ told) in
      cc

  pub made_words : take n after ≡ zone_list t w
  made_words =
      let beyond = drop (length (zone_list t w)) before in
      ap (take n) (is_over made not_refused) ∙ take_at (zone_list t w) beyond n (sym made_length)

-- the call that made a list wrote its words
made_by : {t : List ℤ} {w : Window} {list : List ℕ} (m : Made t w list) → ListMade t w m.before m.after (Ok m.words)
made_by {t} {w} m = subst (ListMade t w m.before m.after) (written_once m.answer (Ok m.words) m.wrote_words) m.by_call

-- where the words of a list stand now, the call would leave them as they are
pub made_here : {t : List ℤ} {w : Window} {list : List ℕ} (m : Made t w list) → ListMade t w list list (Ok m.words)
made_here {t} {w} {list} m = record {
  answer = ap (λ (n : ℕ). fine (wrote n)) whole ∙ ap (λ (x : Option Refusal). tell x (wrote (length zone))) (sym nothing);
  buffer = sym (ap (λ (ws : List ℕ). ws ++ drop (length zone) list) front ∙ take-append-drop (length zone) list)
      ∙ ap (λ (x : Option Refusal). leave x zone list) (sym nothing);
}
  where
    zone : List ℕ
    zone = zone_list t w

    whole : m.words ≡ length zone
    whole = made_length (made_by m)

    front : zone ≡ take (length zone) list
    front = sym (m.copied ∙ made_words (made_by m)) ∙ ap (λ (n : ℕ). take n list) whole

    nothing : make_refusal t w (length list) ≡ none
    nothing =
        let size = ap (λ (ws : List ℕ). length ws) front ∙ length-take (length zone) list in
        listable_fine t w (made_listable (made_by m)) (length list) (omega (arith, size, list_needs t w))
