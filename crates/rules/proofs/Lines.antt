-- A text's lines tell its rows: what is spelt is spelt in one way, and none of its lines is faulty. Assumes nothing.
use Prim.Native.Nat.{ℕ, ◌≤◌}
use native.Mathlib.Omega.{arith}
use mathlib.Core.Bool.{false, ◌&&◌}
use mathlib.Core.List.{List, [], ◌∷◌, ◌++◌, map, flat_map, append-nil, append_assoc, append_cancel_left, append_cancel_right}
use mathlib.Core.List.{head-eq_of_cons-eq, tail-eq_of_cons-eq, nil≢cons, cons≢nil}
use mathlib.Core.Option.{Option, some}
use mathlib.Core.Path.{◌≡◌, refl, sym, ap, subst, ◌∙◌}
use borrow.Author.Tests.{ne_eqb}
use lib.Dec.{eqb}
use lib.IntN.{ℤ}
use lib.ListN.{length, get_or, length-map, get_or-append}
use Rattle.ground.specs.Lists.{All, find_if}
use Rattle.ground.proofs.Lists.{all_append, all_at, all_map, all_flat_map, map_at}
use Rattle.ground.proofs.Splits.{Run, Stop, split_once}
use Rattle.rules.specs.declared.Kind.{Kind}
use Rattle.rules.specs.declared.Kind.TheVariants.{Box, Wedge, Drum, Union, Inter, Diff, Triangle}
use Rattle.rules.specs.Kinds.{kinds, named_words}
use Rattle.rules.specs.Table.{most_rows}
use Rattle.rules.specs.Text.{tab, line_feed, decimal, number_text, zone_name, kind_name, TextRow, header_line, field_text, line_of, text_of}
use Rattle.rules.specs.TextForm.{prepended, lines_of, Word32, RightRow, RightHeader, line_after, RightRows, FirstFault, no_header, no_such_row, no_end}
use Rattle.rules.proofs.Numbers.{decimal_once, number_once, decimal_run, number_run}

-- ---- a line is the text of one row

name_run : (k : Kind) → Run 45 (kind_name k)
name_run Box = omega arith
name_run Wedge = omega arith
name_run Drum = omega arith
name_run Union = omega arith
name_run Inter = omega arith
name_run Diff = omega arith
name_run Triangle = omega arith

-- the kinds' names differ in their first or third letters
by_letters : List ℕ → Option Kind
by_letters name = find_if (λ k. eqb (get_or name 0 0) (get_or (kind_name k) 0 0) && eqb (get_or name 2 0) (get_or (kind_name k) 2 0)) kinds

letters_tell : (k : Kind) (more : List ℕ) → by_letters (kind_name k ++ more) ≡ some k
unfolding by_letters find_if
letters_tell Box more = refl
letters_tell Wedge more = refl
letters_tell Drum more = refl
letters_tell Union more = refl
letters_tell Inter more = refl
letters_tell Diff more = refl
letters_tell Triangle more = refl

-- so the bytes that begin with one of them, whatever follows, begin with no other
pub name_once : (k l : Kind) (us vs : List ℕ) → kind_name k ++ us ≡ kind_name l ++ vs → k ≡ l
name_once k l us vs e = let s : some k ≡ some l = sym (letters_tell k us) ∙ ap by_letters e ∙ letters_tell l vs in cc

-- what follows a name or a number: it begins with a tab or the line feed
abbrev rest : List ℤ → List ℕ
rest ws = flat_map field_text ws ++ (line_feed ∷ [])

rest_stops : (ws : List ℤ) → Stop 45 (rest ws)
unfolding flat_map
rest_stops [] = omega arith
rest_stops (w ∷ ws) = omega arith

words_once : (vs ws : List ℤ) → length vs ≡ length ws → All Word32 vs → All Word32 ws → rest vs ≡ rest ws → vs ≡ ws
unfolding flat_map
words_once [] [] l hv hw e = refl
words_once [] (w ∷ ws) l hv hw e = absurd (omega arith)
words_once (v ∷ vs) [] l hv hw e = absurd (omega arith)
words_once (v ∷ vs) (w ∷ ws) l hv hw e =
    let t : number_text v ++ rest vs ≡ number_text w ++ rest ws
    = sym (append_assoc (number_text v) (flat_map field_text vs) (line_feed ∷ [])) ∙ tail-eq_of_cons-eq e ∙ append_assoc (number_text w) (flat_map field_text ws) (line_feed ∷ []) in
    let s = split_once 45 (number_text v) (number_text w) (rest vs) (rest ws) (number_run v) (number_run w) (rest_stops vs) (rest_stops ws) t in
    let k : length vs ≡ length ws = omega arith in
    let r : vs ≡ ws = words_once vs ws k hv.1 hw.1 s.1 in
    let n : v ≡ w = number_once v w hv.0 hw.0 s.0 in
    λ i. n i ∷ r i

line_once : (a b : TextRow) → RightRow a → RightRow b → line_of a ≡ line_of b → a ≡ b
line_once a b ra rb e =
    let s = split_once 45 (kind_name a.kind) (kind_name b.kind) (rest a.words) (rest b.words)
    (name_run a.kind) (name_run b.kind) (rest_stops a.words) (rest_stops b.words) e in
    let k : a.kind ≡ b.kind = name_once a.kind b.kind (rest a.words) (rest b.words) e in
    let l : length a.words ≡ length b.words = ra.named ∙ ap named_words k ∙ sym rb.named in
    let w : a.words ≡ b.words = words_once a.words b.words l ra.fit rb.fit s.1 in
    λ i. record { kind = k i; words = w i }

lines_once : (xs ys : List TextRow) → All RightRow xs → All RightRow ys → map line_of xs ≡ map line_of ys → xs ≡ ys
lines_once [] [] rx ry e = refl
lines_once [] (y ∷ ys) rx ry e = absurd (nil≢cons e)
lines_once (x ∷ xs) [] rx ry e = absurd (cons≢nil e)
lines_once (x ∷ xs) (y ∷ ys) rx ry e =
    let h : x ≡ y = line_once x y rx.0 ry.0 (head-eq_of_cons-eq e) in
    let t : xs ≡ ys = lines_once xs ys rx.1 ry.1 (tail-eq_of_cons-eq e) in
    λ i. h i ∷ t i

header_once : (m n : ℕ) → m ≤ most_rows → n ≤ most_rows → header_line m ≡ header_line n → m ≡ n
header_once m n hm hn e =
    let t : decimal m ++ (line_feed ∷ []) ≡ decimal n ++ (line_feed ∷ []) = tail-eq_of_cons-eq (append_cancel_left zone_name _ _ e) in
    decimal_once m n (omega arith) (omega arith) (append_cancel_right (decimal m) (decimal n) (line_feed ∷ []) t)

-- ---- the lines of a text

abbrev NoFeed : List ℕ → Type 0
NoFeed bytes = All (λ b. eqb b line_feed ≡ false) bytes

-- a line feed ends a line, and what follows are the other lines
line_first : (line bytes : List ℕ) → NoFeed line → lines_of ((line ++ (line_feed ∷ [])) ++ bytes) ≡ (line ++ (line_feed ∷ [])) ∷ lines_of bytes
unfolding lines_of
line_first [] bytes h = refl
line_first (b ∷ line) bytes h = simp h.0 (ap (prepended b) (line_first line bytes h.1))

run_no_feed : (bytes : List ℕ) → Run 45 bytes → NoFeed bytes
run_no_feed = all_map (λ b. 45 ≤ b) (λ b. eqb b line_feed ≡ false) (λ b h. ne_eqb b line_feed (λ e. omega arith))

anyway : (vs : List ℤ) → All (λ v. Unit {0}) vs
anyway [] = tt
anyway (v ∷ vs) = (tt, anyway vs)

fields_no_feed : (vs : List ℤ) → NoFeed (flat_map field_text vs)
fields_no_feed vs = all_flat_map (λ v. Unit {0}) (λ b. eqb b line_feed ≡ false) field_text (λ v u. (refl, run_no_feed (number_text v) (number_run v))) vs (anyway vs)

row_line : (row : TextRow) (bytes : List ℕ) → lines_of (line_of row ++ bytes) ≡ line_of row ∷ lines_of bytes
row_line row bytes =
    simp (← append_assoc) (line_first (kind_name row.kind ++ flat_map field_text row.words) bytes
    (all_append (λ b. eqb b line_feed ≡ false) (kind_name row.kind) (flat_map field_text row.words) (run_no_feed (kind_name row.kind) (name_run row.kind)) (fields_no_feed row.words)))

rows_lines : (rows : List TextRow) (bytes : List ℕ) → lines_of (flat_map line_of rows ++ bytes) ≡ map line_of rows ++ lines_of bytes
unfolding flat_map
rows_lines [] bytes = refl
rows_lines (row ∷ rows) bytes =
    ap lines_of (append_assoc (line_of row) (flat_map line_of rows) bytes)
    ∙ row_line row (flat_map line_of rows ++ bytes)
    ∙ ap (λ (ls : List (List ℕ)). line_of row ∷ ls) (rows_lines rows bytes)

-- a text that has begun: a header and some rows, before other bytes
pub begun_lines : (n : ℕ) (rows : List TextRow) (bytes : List ℕ)
    → lines_of ((header_line n ++ flat_map line_of rows) ++ bytes) ≡ header_line n ∷ (map line_of rows ++ lines_of bytes)
begun_lines n rows bytes =
    let no_feed : NoFeed (zone_name ++ (tab ∷ decimal n)) = (refl, (refl, (refl, (refl, (refl, run_no_feed (decimal n) (decimal_run n)))))) in
    ap lines_of (append_assoc (header_line n) (flat_map line_of rows) bytes)
    ∙ line_first (zone_name ++ (tab ∷ decimal n)) (flat_map line_of rows ++ bytes) no_feed
    ∙ ap (λ (ls : List (List ℕ)). header_line n ∷ ls) (rows_lines rows bytes)

text_lines : (rows : List TextRow) → lines_of (text_of rows) ≡ header_line (length rows) ∷ map line_of rows
unfolding lines_of
text_lines rows =
    ap lines_of (sym (append-nil (text_of rows)))
    ∙ begun_lines (length rows) rows []
    ∙ ap (λ (ls : List (List ℕ)). header_line (length rows) ∷ ls) (append-nil (map line_of rows))

pub text_once : (xs ys : List TextRow) → All RightRow xs → All RightRow ys → text_of xs ≡ text_of ys → xs ≡ ys
text_once xs ys rx ry e = lines_once xs ys rx ry (tail-eq_of_cons-eq (sym (text_lines xs) ∙ ap lines_of e ∙ text_lines ys))

-- what stands past the end of some rows
abbrev pub no_row : TextRow
no_row = record { kind = Box; words = [] }

-- a line is the header of one row count only
pub header_rows : {line : List ℕ} {m n : ℕ} → RightHeader line m → RightHeader line n → m ≡ n
header_rows {m = m} {n = n} a b = header_once m n a.not_over b.not_over (sym a.is ∙ b.is)

-- the rows of a text that has begun stand on right lines
pub begun_rows : (n : ℕ) (rows : List TextRow) (more : List (List ℕ)) → All RightRow rows → RightRows (header_line n ∷ (map line_of rows ++ more)) (length rows)
begun_rows n rows more right k l = record {
  row = get_or rows k no_row;
  right = all_at RightRow no_row rows right k l;
  is = get_or-append (map line_of rows) more [] k (omega (arith, length-map rows line_of)) ∙ map_at line_of no_row [] rows k l;
}

-- and a text that is spelt has no faulty line
module _ (rows : List TextRow) (some_row : 1 ≤ length rows) (not_over : length rows ≤ most_rows) (right : All RightRow rows) where
  abbrev spelt : List (List ℕ)
  spelt = header_line (length rows) ∷ map line_of rows

  header : RightHeader (line_after spelt 0) (length rows)
  header = record { some_row = some_row; not_over = not_over; is = refl }

  row_lines : RightRows spelt (length rows)
  row_lines = subst (λ (ls : List (List ℕ)). RightRows (header_line (length rows) ∷ ls) (length rows)) (append-nil (map line_of rows)) (begun_rows (length rows) rows [] right)

  no_fault : {number : ℕ} → FirstFault spelt number → ⊥
  no_fault (no_header is none) = none (length rows) header
  no_fault (no_such_row n k is named others l wrong) = let same = header_rows named header in wrong (row_lines k (omega arith))
  no_fault (no_end n is named others more) = let same = header_rows named header in omega (arith, length-map rows line_of)

  pub spelt_no_fault : {number : ℕ} → FirstFault (lines_of (text_of rows)) number → ⊥
  spelt_no_fault {number} fault = no_fault (subst (λ (ls : List (List ℕ)). FirstFault ls number) (text_lines rows) fault)
