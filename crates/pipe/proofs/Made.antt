-- What is printed for a table, from what making its list for the full range answers. Assumes nothing.
use Rattle.std.specs.Prelude.{Ok, Err}
use Prim.Native.Nat.{ℕ, ◌≤◌}
use native.Mathlib.Omega.{arith}
use mathlib.Core.List.{List, []}
use mathlib.Core.Option.{Option, none, some}
use mathlib.Core.Path.{◌≡◌, refl, sym, ap, subst, ◌∙◌}
use borrow.Author.Tests.{leb-true}
use lib.Dec.{leb}
use lib.IntN.{ℤ}
use lib.ListN.{length, drop, length-append}
use Rattle.ground.proofs.Counting.{first_kept}
use Rattle.rules.specs.declared.Rule.TheVariants.{Room}
use Rattle.rules.specs.declared.Product.{Product}
use Rattle.rules.specs.declared.Refusal.{Refusal}
use Rattle.rules.specs.declared.Window.{Window}
use Rattle.rules.specs.Choices.{expansion}
use Rattle.rules.specs.ListCalls.{window_refusal, choices_refusal, zone_list, make_refusal, ListMade}
use Rattle.rules.specs.Boxes.{full_range}
use Rattle.rules.specs.Listing.{listing_room, list_lines, refusal_line, printed}
use Rattle.rules.specs.ListWords.{product_count, place_of, products_in}
use Rattle.rules.specs.Products.{products}
use Rattle.rules.specs.Refusals.{room_refusal}
use Rattle.rules.specs.Table.{primitives}
use Rattle.rules.specs.Tree.{tree_of}
use Rattle.rules.specs.Verdict.{table_refusal}
use Rattle.rules.proofs.Told.{wrote_none, refused_some}
use Rattle.laws.proofs.Soundness.{unless_kept}
use Rattle.laws.proofs.Words.{list_length, list_count, zone_products}
use Rattle.laws.proofs.ZoneProducts.{is_over}
use Rattle.print.proofs.Lengths.{list_most, refusal_most}
use Rattle.pipe.specs.Tables.{table_listing}
use Rattle.rules.specs.Told.{Written}

-- the window that was lent is the full range, and the answer is this one
pub made_as : {t : List ℤ} {w : Window} {before after : List ℕ} {r s : Written} → w ≡ full_range → r ≡ s → ListMade t w before after r
    → ListMade t full_range before after s
made_as {t} {w} {before} {after} {s = s} e f made = subst (λ (v : Window). ListMade t v before after s) e (subst (ListMade t w before after) f made)

module _ (t : List ℤ) where
  abbrev all : List Product
  all = products full_range (primitives t) (tree_of t)

  abbrev rules : ℕ → Option Refusal
  rules room = make_refusal t full_range room

  -- products that there is room for
  few_products : rules listing_room ≡ none → length all ≤ 4092
  unfolding zone_list
  few_products e =
      let words = length (zone_list t full_range) in
      let choices = choices_refusal (expansion (tree_of t)) in
      let room = (first_kept choices _ (first_kept (window_refusal full_range) _ (first_kept (table_refusal t) _ e).1).1).1 in
      let fits = leb-true words listing_room (unless_kept (leb words listing_room) Room words (first_kept (room_refusal words listing_room) [] room).0) in
      omega (arith, fits, list_length full_range (length (primitives t)) all)

  -- what is printed has room
  pub table_most : length (table_listing t) ≤ 171890
  table_most = go (rules listing_room) few_products
    where
      go : (x : Option Refusal) → (x ≡ none → length all ≤ 4092) → length (printed x all) ≤ 171890
      go none few = list_most all (few refl)
      go (some r) few = omega (arith, refusal_most r)

  module _ (before after : List ℕ) (size : length before ≡ listing_room) where
    -- the list was refused
    pub refused_listing : {r : Refusal} → ListMade t full_range before after (Err r) → table_listing t ≡ refusal_line r
    refused_listing {r} made =
        let refusal = refused_some (rules (length before)) (length (zone_list t full_range)) r made.answer in
        ap (λ (x : Option Refusal). printed x all) (ap rules (sym size) ∙ refusal)

    -- or it was made: its products are those of the zone, and all of them are there
    module _ {n : ℕ} (made : ListMade t full_range before after (Ok n)) where
      fine : rules (length before) ≡ none
      fine = (wrote_none (rules (length before)) (length (zone_list t full_range)) n made.answer).0

      enough : rules listing_room ≡ none
      enough = ap rules (sym size) ∙ fine

      made_products : products_in after ≡ all
      made_products =
          ap products_in (is_over made fine)
          ∙ zone_products t full_range (drop (length (zone_list t full_range)) before)

      pub made_listing : table_listing t ≡ list_lines (products_in after)
      made_listing = ap (λ (x : Option Refusal). printed x all) enough ∙ ap list_lines (sym made_products)

      pub made_whole : (place_of (product_count after) ≤ length after) × (product_count after ≤ 4092)
      unfolding zone_list
      made_whole =
          let beyond = drop (length (zone_list t full_range)) before in
          let counted : product_count after ≡ length all = ap product_count (is_over made fine) ∙ list_count full_range (length (primitives t)) all beyond in
          let words = ap (λ (list : List ℕ). length list) (is_over made fine) ∙ length-append (zone_list t full_range) beyond in
          let size = list_length full_range (length (primitives t)) all in
          (omega (arith, counted, words, size), omega (arith, counted, few_products enough))
