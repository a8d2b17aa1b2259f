-- A list that was made in the words that it has here holds each product once, and few enough. Assumes nothing.
use Rattle.std.specs.Prelude.{Ok}
use Prim.Native.Nat.{ℕ, ◌≤◌}
use native.Mathlib.Omega.{arith}
use mathlib.Core.List.{List, []}
use mathlib.Core.Option.{none}
use mathlib.Core.Path.{◌≡◌}
use borrow.Author.Tests.{leb-true}
use lib.Dec.{leb}
use lib.IntN.{ℤ}
use lib.ListN.{length}
use Rattle.ground.proofs.Counting.{first_kept}
use Rattle.rules.specs.declared.Rule.TheVariants.{Room}
use Rattle.rules.specs.declared.Window.{Window}
use Rattle.rules.specs.Choices.{expansion}
use Rattle.rules.specs.ListCalls.{window_refusal, choices_refusal, zone_list, make_refusal, ListMade}
use Rattle.rules.specs.ListWords.{product_count}
use Rattle.rules.specs.Products.{products}
use Rattle.rules.specs.Refusals.{room_refusal}
use Rattle.rules.specs.Table.{primitives}
use Rattle.rules.specs.Tree.{tree_of}
use Rattle.rules.specs.Verdict.{table_refusal}
use Rattle.rules.proofs.Told.{wrote_none}
use Rattle.laws.proofs.Soundness.{unless_kept}
use Rattle.laws.proofs.Words.{list_length}
use Rattle.promises.specs.EachOnce.{EachOnce}
use Rattle.promises.proofs.Buffers.{list_right}

module _ {t : List ℤ} {w : Window} {before after : List ℕ} {n : ℕ} (made : ListMade t w before after (Ok n)) where
  fine : make_refusal t w (length before) ≡ none
  fine = (wrote_none (make_refusal t w (length before)) (length (zone_list t w)) n made.answer).0

  pub made_once : EachOnce t w after
  made_once = list_right t w before after (Ok n) made fine

  pub made_few : length before ≡ 131080 → product_count after ≤ 65536
  unfolding zone_list
  made_few size =
      let words = length (zone_list t w) in
      let room = (first_kept (choices_refusal (expansion (tree_of t))) _ (first_kept (window_refusal w) _ (first_kept (table_refusal t) _ fine).1).1).1 in
      let fits = leb-true words (length before) (unless_kept (leb words (length before)) Room words (first_kept (room_refusal words (length before)) [] room).0) in
      omega (arith, fits, size, made_once.number, list_length w (length (primitives t)) (products w (primitives t) (tree_of t)))
