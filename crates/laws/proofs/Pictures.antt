-- The words of a picture: row by row, and how many they are. Assumes nothing.
use native.Mathlib.Nat.{mul_comm}
use mathlib.Core.Bool.{Bool}
use mathlib.Core.List.{flat_map, map-map}
use mathlib.Core.Path.{◌≡◌, ap, ◌∙◌}
use lib.IntN.{pos, ◌+ℤ◌, ◌-ℤ◌}
use lib.ListN.{length}
use Rattle.ground.specs.Lists.{below}
use Rattle.ground.proofs.Lists.{flat_map_map}
use Rattle.ground.proofs.Pieces.{made_length}
use Rattle.ground.proofs.Writes.{made_pieces_length}
use Rattle.rules.specs.declared.Point.{Point}
use Rattle.rules.specs.declared.Rectangle.{Rectangle}
use Rattle.rules.specs.Ranges.{Span, size_of}
use Rattle.rules.specs.Waterfall.{columns_of, codes_of, picture_words, place_word, row_words, picture}
use Rattle.laws.specs.Drawing.{words_from, rows_from}

module _ (is_inside : Point → Bool) (frames : Span) where
  pub picture_rows : (q : Rectangle) → picture is_inside frames q ≡ rows_from is_inside frames q.xlo q.yhi (size_of (columns_of q)) (size_of (codes_of q))
  picture_rows q =
      flat_map_map (row_words is_inside frames q) (λ j. q.yhi -ℤ pos j) (below (size_of (codes_of q)))
      ∙ (λ k. flat_map (λ j. map-map (λ x. place_word is_inside frames x (q.yhi -ℤ pos j)) (λ i. q.xlo +ℤ pos i) (below (size_of (columns_of q))) k) (below (size_of (codes_of q))))

  pub picture_length : (q : Rectangle) → length (picture is_inside frames q) ≡ picture_words q
  picture_length q =
      let width = size_of (columns_of q) in
      let height = size_of (codes_of q) in
      ap length (picture_rows q) ∙ made_pieces_length (λ j. words_from is_inside frames q.xlo (q.yhi -ℤ pos j) width) width (λ j. made_length _ width) height ∙ mul_comm height width
