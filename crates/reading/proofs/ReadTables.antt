-- A text as it is read: its header, then row after row into a table of zeros, to its end. Assumes nothing.
use Prim.Native.Nat.{ℕ, ◌+◌, ◌-◌, ◌*◌, ◌≤◌, ◌<◌}
use native.Mathlib.Nat.{zero-add}
use native.Mathlib.Omega.{arith}
use mathlib.Core.List.{List, [], ◌∷◌, ◌++◌, flat_map, append-nil, append_assoc}
use mathlib.Core.Path.{◌≡◌, refl, sym, ap, subst, ◌∙◌}
use lib.IntN.{ℤ, pos}
use lib.ListN.{length, take, drop, replicate, length-append, length-drop, length-replicate, replicate-append-replicate, drop_of_length-le}
use lib.Seq.{sets, sets-eq, take_all, take_at, drop_at, drop-drop, drop-append-add}
use borrow.Rule.Slice.PartMut.{put_mid}
use Rattle.ground.specs.Lists.{All}
use Rattle.ground.proofs.Lists.{all_append, all_map}
use Rattle.rules.specs.Kinds.{kind_number, named_words}
use Rattle.rules.specs.Table.{row_words, most_rows}
use Rattle.rules.specs.Text.{TextRow, header_line, line_of, table_row, table_of}
use Rattle.rules.specs.TextForm.{RightRow}
use Rattle.laws.proofs.Texts.{table_length}
use Rattle.laws.proofs.TextLengths.{few_named, Named}
use Rattle.piece.specs.Pieces.{Stood, There, Any, LineRead, RightCount}
use Rattle.piece.proofs.ReadPieces.{stood_on, flat_map_last}
use Rattle.reading.specs.Reading.{Begun, SpeltOut}

all_named : (rows : List TextRow) → All RightRow rows → All Named rows
all_named = all_map RightRow Named (λ row h. h.named)

-- ---- a row more in a table of zeros

abbrev zeros : ℕ → List ℤ
zeros n = replicate n (pos 0)

-- a run of words is written over as many others
written_over : (xs us ys zs : List ℤ) → length us ≡ length ys → sets (xs ++ (us ++ zs)) (length xs) ys ≡ xs ++ (ys ++ zs)
written_over xs us ys zs e =
    let room = length-append xs (us ++ zs) ∙ ap (λ (n : ℕ). length xs + n) (length-append us zs) in
    let before = take_at xs (us ++ zs) (length xs) refl in
    let after = drop-append-add xs (us ++ zs) (length ys) ∙ drop_at us zs (length ys) e in
    sets-eq ys (xs ++ (us ++ zs)) (length xs) (omega (arith, room)) ∙ (λ i. (before i ++ ys) ++ after i) ∙ append_assoc xs ys zs

module _ (rows : List TextRow) (row : TextRow) (right : All RightRow rows) (named : Named row) (few : length rows < most_rows) where
  -- the words that a row names, with word 0, and the spare ones; and those of the rows to come
  abbrev own : List ℤ
  own = pos (kind_number row.kind) ∷ row.words

  abbrev spare : ℕ
  spare = row_words - (1 + named_words row.kind)

  abbrev left : ℕ
  left = (most_rows - (length rows + 1)) * row_words

  blank : zeros ((most_rows - length rows) * row_words) ≡ zeros (length own) ++ (zeros spare ++ zeros left)
  blank =
      let size : (most_rows - length rows) * row_words ≡ length own + (spare + left) = omega (arith, named, few_named row.kind) in
      ap zeros size
      ∙ sym (replicate-append-replicate (length own) (spare + left) (pos 0))
      ∙ ap (λ (zs : List ℤ). zeros (length own) ++ zs) (sym (replicate-append-replicate spare left (pos 0)))

  row_put : sets (table_of rows ++ zeros ((most_rows - length rows) * row_words)) (length rows * row_words) own
      ≡ table_of (rows ++ (row ∷ [])) ++ zeros left
  row_put =
      let place = sym (table_length rows (all_named rows right)) in
      (λ i. sets (table_of rows ++ blank i) (place i) own)
      ∙ written_over (table_of rows) (zeros (length own)) own (zeros spare ++ zeros left) (length-replicate (length own) (pos 0))
      ∙ ap (λ (ws : List ℤ). table_of rows ++ ws) (sym (append_assoc own (zeros spare) (zeros left)))
      ∙ sym (append_assoc (table_of rows) (own ++ zeros spare) (zeros left))
      ∙ ap (λ (t : List ℤ). t ++ zeros left) (sym (flat_map_last table_row rows row))

-- words put at the start of a rest stand in the whole
rest_put : (xs : List ℤ) (a : ℕ) (ws : List ℤ) {part : List ℤ} → a + length ws ≤ length xs → part ≡ sets (take (length xs - a) (drop a xs)) 0 ws
    → put_mid a (length xs - a) xs part ≡ sets xs a ws
rest_put xs a ws {part} room is =
    let rest : take (length xs - a) (drop a xs) ≡ drop a xs = take_all (length xs - a) (drop a xs) (omega (arith, length-drop a xs)) in
    let own : part ≡ ws ++ drop (length ws) (drop a xs)
    = is ∙ ap (λ (l : List ℤ). sets l 0 ws) rest ∙ sets-eq ws (drop a xs) 0 (omega (arith, length-drop a xs))
    ∙ ap (λ (k : ℕ). ws ++ drop k (drop a xs)) (zero-add (length ws)) in
    let none : drop (length xs - a) (drop a xs) ≡ [] = drop_of_length-le (drop a xs) (omega (arith, length-drop a xs)) in
    (λ i. take a xs ++ (own i ++ none i))
    ∙ ap (λ (l : List ℤ). take a xs ++ l) (append-nil (ws ++ drop (length ws) (drop a xs)))
    ∙ ap (λ (l : List ℤ). take a xs ++ (ws ++ l)) (drop-drop (length ws) a xs)
    ∙ sym (append_assoc (take a xs) ws (drop (a + length ws) xs))
    ∙ sym (sets-eq ws xs a room)

-- ---- the text

-- the header was read, and no row yet
pub header_begun : {text : List ℕ} {n next : ℕ} {words : List ℤ} → There RightCount header_line Any text 0 n next → words ≡ zeros 1524
    → Begun text n next 0 words
unfolding flat_map
header_begun {text} {n = n} {next} t blank = record {
  rows = [];
  counted = refl;
  right = tt;
  stood = subst (λ (bytes : List ℕ). Stood text 0 bytes next) (sym (append-nil (header_line n))) t.stood;
  table = blank;
}

-- the table keeps its size
pub begun_size : {text : List ℕ} {n at done : ℕ} {words : List ℤ} → Begun text n at done words → done ≤ most_rows → length words ≡ 1524
begun_size b l =
    let size = table_length b.rows (all_named b.rows b.right) in
    ap length b.table ∙ simp (length-append, length-replicate) (omega (arith, size, b.counted))

module _ {text : List ℕ} {n at done : ℕ} {words : List ℤ} (count : RightCount n) (b : Begun text n at done words) where
  -- one row more, of which the rest of the table was read
  pub row_begun : done < n → {part : List ℤ} {next : ℕ}
      → LineRead text at (take (length words - done * row_words) (drop (done * row_words) words)) part next
      → Begun text n next (done + 1) (put_mid (done * row_words) (length words - done * row_words) words part)
  row_begun l {part} {next = next} r =
      let bytes = append_assoc (header_line n) (flat_map line_of b.rows) (line_of r.row)
      ∙ ap (λ (more : List ℕ). header_line n ++ more) (sym (flat_map_last line_of b.rows r.row)) in
      let place = ap (λ (k : ℕ). k * row_words) (sym b.counted) in
      let one_more = length-append b.rows (r.row ∷ []) in
      let size = begun_size b (omega (arith, count.not_over)) in
      let named = few_named r.row.kind in
      record {
        rows = b.rows ++ (r.row ∷ []);
        counted = omega (arith, one_more, b.counted);
        right = all_append RightRow b.rows (r.row ∷ []) b.right (r.there.proper, tt);
        stood = subst (λ (bs : List ℕ). Stood text 0 bs next) bytes (stood_on b.stood r.there.stood);
        table =
            rest_put words (done * row_words) (pos (kind_number r.row.kind) ∷ r.row.words) (omega (arith, size, count.not_over, r.there.proper.named, named)) r.written
            ∙ (λ i. sets (b.table i) (place i) (pos (kind_number r.row.kind) ∷ r.row.words))
            ∙ row_put b.rows r.row b.right r.there.proper.named (omega (arith, b.counted, count.not_over))
            ∙ ap (λ (k : ℕ). table_of (b.rows ++ (r.row ∷ [])) ++ zeros ((most_rows - k) * row_words)) (sym one_more);
      }

  -- all rows, and nothing after them
  pub spelt_out : done ≡ n → length text ≤ at → SpeltOut text words n
  spelt_out e l =
      let all = b.counted ∙ e in
      let size = table_length b.rows (all_named b.rows b.right) ∙ ap (λ (k : ℕ). k * row_words) all in
      record {
        rows = b.rows;
        counted = all;
        count = count;
        right = b.right;
        is =
            b.stood.split ∙ ap (λ (bytes : List ℕ). (header_line n ++ flat_map line_of b.rows) ++ bytes) (drop_of_length-le text l)
            ∙ append-nil (header_line n ++ flat_map line_of b.rows) ∙ ap (λ (k : ℕ). header_line k ++ flat_map line_of b.rows) (sym all);
        table =
            ap (take (n * row_words)) b.table
            ∙ take_at (table_of b.rows) (zeros ((most_rows - length b.rows) * row_words)) (n * row_words) size;
      }
