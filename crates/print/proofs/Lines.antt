-- The lines of a list's products, one after the other. Assumes nothing.
use Prim.Native.Nat.{ℕ, ◌+◌, ◌*◌, ◌≤◌}
use native.Mathlib.Omega.{arith}
use mathlib.Core.List.{List, [], ◌∷◌, ◌++◌, map, flat_map, map-append, append-nil}
use mathlib.Core.Path.{◌≡◌, ap, ◌∙◌}
use lib.ListN.{length, length-map}
use Rattle.ground.specs.Lists.{below}
use Rattle.ground.proofs.Counting.{below_last}
use Rattle.ground.proofs.Lists.{flat_map_append}
use Rattle.ground.proofs.Pieces.{from_length}
use Rattle.rules.specs.ListWords.{product_count, product_at, products_in}
use Rattle.rules.specs.Listing.{count_line, product_line, list_lines}
use Rattle.print.specs.Lines.{lines_to}
use Rattle.print.proofs.Lengths.{lines_most}

module _ (list : List ℕ) where
  products_to : (k : ℕ) → length (map (product_at list) (below k)) ≡ k
  products_to k = length-map (below k) (product_at list) ∙ from_length 0 k

  pub lines_next : (k : ℕ) → lines_to list (k + 1) ≡ lines_to list k ++ product_line (product_at list k)
  unfolding flat_map
  lines_next k =
      ap (λ (ks : List ℕ). flat_map product_line (map (product_at list) ks)) (below_last k)
      ∙ ap (flat_map product_line) (map-append (product_at list) (below k) (k ∷ []))
      ∙ flat_map_append product_line (map (product_at list) (below k)) (product_at list k ∷ [])
      ∙ ap (λ (line : List ℕ). lines_to list k ++ line) (append-nil (product_line (product_at list k)))

  pub lines_room : (k : ℕ) → length (lines_to list k) ≤ 42 * k
  lines_room k = omega (arith, lines_most (map (product_at list) (below k)), products_to k)

  -- the first line names the number that word 0 has
  pub lines_of_list : list_lines (products_in list) ≡ count_line (product_count list) ++ lines_to list (product_count list)
  lines_of_list = ap (λ (n : ℕ). count_line n ++ flat_map product_line (products_in list)) (products_to (product_count list))
