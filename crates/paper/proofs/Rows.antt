-- The rows of a tree: how many words they are, a tree of n leaves has 2n - 1 of them, and they say which tree they are. Assumes nothing.
use Prim.Native.Nat.{ℕ, zero, suc, ◌+◌, ◌-◌, ◌*◌, ◌≤◌, ◌<◌}
use mathlib.Core.List.{List, [], ◌∷◌, ◌++◌, append_assoc, head-eq_of_cons-eq, tail-eq_of_cons-eq}
use mathlib.Core.Path.{◌≡◌, refl, sym, ap, ap₂, ◌∙◌}
use native.Mathlib.Nat.{add-zero}
use native.Mathlib.Numerals.{add-one}
use native.Mathlib.Omega.{arith}
use lib.IntN.{ℤ, pos, nat_abs}
use lib.ListN.{length, length-append, length-drop, drop, get_or}
use lib.Seq.{drop-cons}
use Rattle.rules.specs.declared.Kind.{Kind}
use Rattle.rules.specs.declared.Kind.TheVariants.{Union, Inter, Diff}
use Rattle.rules.specs.Kinds.{kind_number}
use Rattle.rules.specs.Form.{Form, leaf, ◌∪◌, ◌∩◌, ◌∖◌, leaves}
use Rattle.rules.specs.TreeRows.{rows_in, operation_row, rows_from, row_form, form_to}

pub rows_leaves : (T : Form) → rows_in T + 1 ≡ 2 * leaves T
unfolding rows_in leaves
rows_leaves (leaf i) = omega arith
rows_leaves (X ∪ Y) = omega (arith, rows_leaves X, rows_leaves Y)
rows_leaves (X ∩ Y) = omega (arith, rows_leaves X, rows_leaves Y)
rows_leaves (X ∖ Y) = omega (arith, rows_leaves X, rows_leaves Y)

pub some_rows : (T : Form) → 1 ≤ rows_in T
unfolding rows_in
some_rows (leaf i) = omega arith
some_rows (X ∪ Y) = omega arith
some_rows (X ∩ Y) = omega arith
some_rows (X ∖ Y) = omega arith

long : (x y row : List ℤ) (m n : ℕ) → length x ≡ m * 3 → length y ≡ n * 3 → length row ≡ 3 → length (x ++ (y ++ row)) ≡ (1 + m + n) * 3
long x y row m n e f g = omega (arith, length-append x (y ++ row), length-append y row)

pub length_rows : (first : ℕ) (T : Form) → length (rows_from first T) ≡ rows_in T * 3
unfolding rows_from rows_in
length_rows first (leaf i) = refl
length_rows first (X ∪ Y) = long (rows_from first X) (rows_from (first + rows_in X) Y) (operation_row Union first X Y) (rows_in X) (rows_in Y) (length_rows first X) (length_rows (first + rows_in X) Y) refl
length_rows first (X ∩ Y) = long (rows_from first X) (rows_from (first + rows_in X) Y) (operation_row Inter first X Y) (rows_in X) (rows_in Y) (length_rows first X) (length_rows (first + rows_in X) Y) refl
length_rows first (X ∖ Y) = long (rows_from first X) (rows_from (first + rows_in X) Y) (operation_row Diff first X Y) (rows_in X) (rows_in Y) (length_rows first X) (length_rows (first + rows_in X) Y) refl

-- ---- reading back
-- a run that goes on with x
pub cons_at : (w : List ℤ) (a : ℕ) (x : ℤ) (xs : List ℤ) → drop a w ≡ x ∷ xs → (a < length w) × (get_or w a (pos 0) ≡ x) × (drop (a + 1) w ≡ xs)
cons_at w a x xs e =
    let l : a < length w = omega (arith, length-drop a w, ap length e) in
    let c : get_or w a (pos 0) ∷ drop (suc a) w ≡ x ∷ xs = sym (drop-cons w a (pos 0) l) ∙ e in
    (l, head-eq_of_cons-eq c, ap (λ (j : ℕ). drop j w) (add-one a) ∙ tail-eq_of_cons-eq c)

pub past : (w : List ℤ) (i j : ℕ) (xs ys : List ℤ) → drop i w ≡ xs ++ ys → i + length xs ≡ j → drop j w ≡ ys
past w i j [] ys e f = let g : j ≡ i = omega arith in ap (λ (n : ℕ). drop n w) g ∙ e
past w i j (x ∷ xs) ys e f = past w (i + 1) j xs ys (cons_at w i x (xs ++ ys) e).2 (omega arith)

-- the word k of a row
abbrev word : List ℤ → ℕ → ℕ → ℕ
word w row k = nat_abs (get_or w (row * 3 + k) (pos 0))

-- a row of three words, at row n
row_at : (w : List ℤ) (row n a b c : ℕ) (rest : List ℤ) (form : ℕ → Form) → n ≡ row → drop (row * 3) w ≡ pos a ∷ pos b ∷ pos c ∷ rest
    → row_form form (word w n 0) (word w n 1) (word w n 2) ≡ row_form form a b c
row_at w row n a b c rest form m e =
    let x = cons_at w (row * 3) (pos a) (pos b ∷ pos c ∷ rest) e in
    let y = cons_at w (row * 3 + 1) (pos b) (pos c ∷ rest) x.2 in
    let z = cons_at w (row * 3 + 1 + 1) (pos c) rest y.2 in
    let u : word w n 0 ≡ a = ap (λ (j : ℕ). word w j 0) m ∙ ap (λ (j : ℕ). nat_abs (get_or w j (pos 0))) (add-zero (row * 3)) ∙ ap nat_abs x.1 in
    let v : word w n 1 ≡ b = ap (λ (j : ℕ). word w j 1) m ∙ ap nat_abs y.1 in
    let third : row * 3 + 2 ≡ row * 3 + 1 + 1 = omega arith in
    let s : word w n 2 ≡ c = ap (λ (j : ℕ). word w j 2) m ∙ ap (λ (j : ℕ). nat_abs (get_or w j (pos 0))) third ∙ ap nat_abs z.1 in
    λ i. row_form form (u i) (v i) (s i)

-- where the parts of a node's rows stand: the left part's, the right part's, its own
module _ (w : List ℤ) (row : ℕ) (kind : Kind) (X Y : Form) (rest : List ℤ)
    (e : drop (row * 3) w ≡ (rows_from row X ++ (rows_from (row + rows_in X) Y ++ operation_row kind row X Y)) ++ rest) where
  abbrev own : List ℤ
  own = operation_row kind row X Y

  after_left : List ℤ
  after_left = rows_from (row + rows_in X) Y ++ (own ++ rest)

  left_rows : drop (row * 3) w ≡ rows_from row X ++ after_left
  unfolding after_left
  left_rows =
      e ∙ append_assoc (rows_from row X) (rows_from (row + rows_in X) Y ++ own) rest ∙ ap (λ (l : List ℤ). rows_from row X ++ l) (append_assoc (rows_from (row + rows_in X) Y) own rest)

  right_rows : drop ((row + rows_in X) * 3) w ≡ rows_from (row + rows_in X) Y ++ (own ++ rest)
  unfolding after_left
  right_rows = past w (row * 3) ((row + rows_in X) * 3) (rows_from row X) after_left left_rows (omega (arith, length_rows row X))

  own_row : drop ((row + rows_in X + rows_in Y) * 3) w ≡ own ++ rest
  own_row =
      past w ((row + rows_in X) * 3) ((row + rows_in X + rows_in Y) * 3) (rows_from (row + rows_in X) Y) (own ++ rest) right_rows (omega (arith, length_rows (row + rows_in X) Y))

  node_back : (d n : ℕ) → n ≡ row + rows_in X + rows_in Y → form_to (suc d) w n ≡ row_form (form_to d w) (kind_number kind) (row + rows_in X - 1) (row + rows_in X + rows_in Y - 1)
  unfolding form_to
  node_back d n g = row_at w (row + rows_in X + rows_in Y) n (kind_number kind) (row + rows_in X - 1) (row + rows_in X + rows_in Y - 1) rest (form_to d w) g own_row

leaf_back : (w : List ℤ) (row i d n : ℕ) (rest : List ℤ) → drop (row * 3) w ≡ pos 0 ∷ pos i ∷ pos 0 ∷ rest → n ≡ row → form_to (suc d) w n ≡ leaf i
unfolding form_to
leaf_back w row i d n rest e g = row_at w row n 0 i 0 rest (form_to d w) g e

-- THE ROWS OF A TREE STAND FOR IT
pub read_back : (T : Form) (d row : ℕ) (w rest : List ℤ) → rows_in T ≤ d → drop (row * 3) w ≡ rows_from row T ++ rest → form_to d w (row + rows_in T - 1) ≡ T
unfolding rows_from rows_in
read_back (leaf i) zero row w rest h e = absurd (omega arith)
read_back (leaf i) (suc d) row w rest h e = leaf_back w row i d (row + 1 - 1) rest e (omega arith)
read_back (X ∪ Y) zero row w rest h e = absurd (omega arith)
read_back (X ∪ Y) (suc d) row w rest h e =
    node_back w row Union X Y rest e d (row + (1 + rows_in X + rows_in Y) - 1) (omega arith)
    ∙ ap₂ ◌∪◌ (read_back X d row w (after_left w row Union X Y rest e) (omega arith) (left_rows w row Union X Y rest e))
    (read_back Y d (row + rows_in X) w (own w row Union X Y rest e ++ rest) (omega arith) (right_rows w row Union X Y rest e))
read_back (X ∩ Y) zero row w rest h e = absurd (omega arith)
read_back (X ∩ Y) (suc d) row w rest h e =
    node_back w row Inter X Y rest e d (row + (1 + rows_in X + rows_in Y) - 1) (omega arith)
    ∙ ap₂ ◌∩◌ (read_back X d row w (after_left w row Inter X Y rest e) (omega arith) (left_rows w row Inter X Y rest e))
    (read_back Y d (row + rows_in X) w (own w row Inter X Y rest e ++ rest) (omega arith) (right_rows w row Inter X Y rest e))
read_back (X ∖ Y) zero row w rest h e = absurd (omega arith)
read_back (X ∖ Y) (suc d) row w rest h e =
    node_back w row Diff X Y rest e d (row + (1 + rows_in X + rows_in Y) - 1) (omega arith)
    ∙ ap₂ ◌∖◌ (read_back X d row w (after_left w row Diff X Y rest e) (omega arith) (left_rows w row Diff X Y rest e))
    (read_back Y d (row + rows_in X) w (own w row Diff X Y rest e ++ rest) (omega arith) (right_rows w row Diff X Y rest e))
