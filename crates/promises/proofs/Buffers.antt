-- What `make a list` leaves in the buffer holds exactly the products of the choices; where they do not fit, it is as it was. Assumes nothing.
use Prim.Native.Nat.{ℕ, ◌+◌, ◌*◌, ◌≤◌, ◌<◌}
use mathlib.Core.List.{List}
use mathlib.Core.Option.{Option, none, some}
use mathlib.Core.Path.{◌≡◌, refl, sym, ap, subst, ◌∙◌}
use borrow.Author.Tests.{le-leb, lt-leb}
use lib.IntN.{ℤ}
use lib.ListN.{length, drop}
use Rattle.ground.specs.Lists.{first_of}
use Rattle.ground.proofs.Counting.{first_kept}
use Rattle.rules.specs.declared.Product.{Product}
use Rattle.rules.specs.declared.Refusal.{Refusal}
use Rattle.rules.specs.declared.Rule.TheVariants as rule
use Rattle.rules.specs.declared.Window.{Window}
use Rattle.rules.specs.Choices.{expansion}
use Rattle.rules.specs.ListCalls.{most_choices, window_refusal, zone_list, make_refusal, ListMade}
use Rattle.rules.specs.ListWords.{word}
use Rattle.rules.specs.Outcome.{leave}
use Rattle.rules.specs.Products.{products}
use Rattle.rules.specs.Table.{primitives}
use Rattle.rules.specs.Told.{Written, wrote, tell, told_written, refused_by}
use Rattle.rules.specs.Tree.{tree_of}
use Rattle.rules.specs.Verdict.{table_refusal}
use Rattle.rules.proofs.Settled.{over_rest}
use Rattle.promises.specs.EachOnce.{EachOnce}
use Rattle.promises.proofs.EachOnce.{each_once}
use Rattle.laws.proofs.Soundness.{table_sound}
use Rattle.laws.proofs.Windows.{window_filled}
use Rattle.laws.proofs.Words.{list_length}
use Rattle.laws.proofs.ZoneProducts.{plain_in_table, is_over}

-- ---- what a call leaves

module _ (t : List ℤ) (w : Window) (before after : List ℕ) (r : Written) (made : ListMade t w before after r) where
  -- nothing is refused: the buffer holds the products of the choices, and what lies beyond them stays
  module _ (fine : make_refusal t w (length before) ≡ none) where
    pub list_right : EachOnce t w after
    unfolding zone_list
    list_right =
        let table = first_kept (table_refusal t) _ fine in
        let window = first_kept (window_refusal w) _ table.1 in
        subst (EachOnce t w) (sym (is_over made fine))
        (each_once t w (window_filled w window.0) (plain_in_table t (table_sound t table.0)) (drop (length (zone_list t w)) before))

    pub list_rest : (i : ℕ) → length (zone_list t w) ≤ i → word after i ≡ word before i
    list_rest i l = ap (λ (list : List ℕ). word list i) (is_over made fine) ∙ over_rest (zone_list t w) before 0 i l

  -- they do not fit: the refusal names the words that they need, and the buffer is as it was
  pub list_room : table_refusal t ≡ none → window_refusal w ≡ none → expansion (tree_of t) ≤ most_choices
      → length before < 8 + 2 * length (products w (primitives t) (tree_of t))
      → (told_written r ≡ refused_by 8 (8 + 2 * length (products w (primitives t) (tree_of t)))) × (after ≡ before)
  unfolding zone_list first_of
  list_room table window few short = (
    made.answer ∙ ap (λ (x : Option Refusal). tell x (wrote (length (zone_list t w)))) is,
    made.buffer ∙ ap (λ (x : Option Refusal). leave x (zone_list t w) before) is,
  )
    where
      ps : List Product
      ps = products w (primitives t) (tree_of t)

      is : make_refusal t w (length before) ≡ some (record { rule = rule.Room; value = 8 + 2 * length ps })
      is =
          rw (
            table,
            window,
            le-leb (expansion (tree_of t)) most_choices few,
            list_length w (length (primitives t)) ps,
            lt-leb (8 + 2 * length ps) (length before) short,
          ) refl
