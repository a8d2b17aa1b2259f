-- The lines of a text that was read up to a position: which is the first that is faulty. Assumes nothing.
use Prim.Native.Nat.{ℕ, suc, ◌+◌, ◌<◌}
use native.Mathlib.Omega.{arith}
use mathlib.Core.Bool.{Bool, true, false}
use mathlib.Core.List.{List, [], ◌∷◌, ◌++◌, map}
use mathlib.Core.Path.{◌≡◌, refl, sym, ap, subst, ◌∙◌}
use lib.Dec.{eqb}
use lib.IntN.{ℤ}
use lib.ListN.{length, get_or, drop, length-append, length-map, length-drop}
use lib.Seq.{get_or-append-add}
use Rattle.std.specs.Prelude.{if◌then◌else◌}
use Rattle.rules.specs.Text.{line_feed, header_line, line_of}
use Rattle.rules.specs.TextForm.{prepended, lines_of, RightRow, RightHeader, line_after, RightRows, FirstFault, no_header, no_such_row, no_end}
use Rattle.rules.proofs.Lines.{begun_lines, begun_rows}
use Rattle.piece.specs.Pieces.{Missing, Any, RightCount}
use Rattle.reading.specs.Reading.{Begun}

-- ---- the first of some lines

-- it stands at the start of the bytes
first_line : (bytes : List ℕ) → (rest : List ℕ) × (bytes ≡ line_after (lines_of bytes) 0 ++ rest)
unfolding lines_of
first_line [] = ([], refl)
first_line (b ∷ bs) = go (eqb b line_feed) (lines_of bs) (first_line bs)
  where
    go : (t : Bool) (ls : List (List ℕ)) → (rest : List ℕ) × (bs ≡ line_after ls 0 ++ rest)
        → (rest : List ℕ) × (b ∷ bs ≡ line_after (if t then (b ∷ []) ∷ ls else prepended b ls) 0 ++ rest)
    go true ls f = (bs, refl)
    go false [] f = (bs, refl)
    go false (l ∷ ls) f = (f.0, ap (λ (bytes : List ℕ). b ∷ bytes) f.1)

-- and there is one, where there are bytes
some_line : (bytes : List ℕ) → 0 < length bytes → 0 < length (lines_of bytes)
unfolding lines_of
some_line [] h = absurd (omega arith)
some_line (b ∷ bs) h = go (eqb b line_feed) (lines_of bs)
  where
    go : (t : Bool) (ls : List (List ℕ)) → 0 < length (if t then (b ∷ []) ∷ ls else prepended b ls)
    go true ls = omega arith
    go false [] = omega arith
    go false (l ∷ ls) = omega arith

-- ---- the first line is faulty

pub header_fault : {text : List ℕ} → Missing RightCount header_line Any text 0 → FirstFault (lines_of text) 1
header_fault {text} m =
    let first = first_line text in
    no_header refl (λ rows named.
    let count : RightCount rows = record { some_row = named.some_row; not_over = named.not_over } in
    m.none rows first.0 count tt (first.1 ∙ ap (λ (bytes : List ℕ). bytes ++ first.0) named.is))

-- ---- a header, and some rows after it

module _ {text : List ℕ} {n at done : ℕ} {words : List ℤ} (count : RightCount n) (b : Begun text n at done words) where
  abbrev more : List (List ℕ)
  more = lines_of (drop at text)

  lines_are : lines_of text ≡ header_line n ∷ (map line_of b.rows ++ more)
  lines_are = ap lines_of b.stood.split ∙ begun_lines n b.rows (drop at text)

  header_is : RightHeader (line_after (lines_of text) 0) n
  header_is = record { some_row = count.some_row; not_over = count.not_over; is = ap (λ (ls : List (List ℕ)). line_after ls 0) lines_are }

  rows_so_far : RightRows (lines_of text) done
  rows_so_far = subst (RightRows (lines_of text)) b.counted (subst (λ (ls : List (List ℕ)). RightRows ls (length b.rows)) (sym lines_are) (begun_rows n b.rows more b.right))

  -- what stands at the position is the next line
  line_here : line_after (lines_of text) (suc done) ≡ line_after more 0
  line_here =
      let place : done ≡ length (map line_of b.rows) + 0 = omega (arith, b.counted, length-map b.rows line_of) in
      ap (λ (ls : List (List ℕ)). line_after ls (suc done)) lines_are
      ∙ ap (λ (k : ℕ). get_or (map line_of b.rows ++ more) k []) place
      ∙ get_or-append-add (map line_of b.rows) more 0 []

  -- a row is missing there
  pub row_fault : done < n → Missing RightRow line_of Any text at → FirstFault (lines_of text) (done + 2)
  row_fault l m = no_such_row n done refl header_is rows_so_far l (λ here.
      let first = first_line (drop at text) in
      let stands = first.1 ∙ ap (λ (bytes : List ℕ). bytes ++ first.0) (sym line_here ∙ here.is) in
      m.none here.row first.0 here.right tt stands)

  -- something stands after the last row
  pub rest_fault : done ≡ n → at < length text → FirstFault (lines_of text) (n + 2)
  rest_fault e l =
      let some = some_line (drop at text) (omega (arith, length-drop at text)) in
      let lines = ap length lines_are in
      no_end n refl header_is (subst (RightRows (lines_of text)) e rows_so_far)
      (omega (arith, some, lines, b.counted, length-map b.rows line_of, length-append (map line_of b.rows) more))
