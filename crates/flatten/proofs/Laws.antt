-- A row that was read, as a node of the tree of numbers; and its words, part by part. Assumes nothing.
use Prim.Native.Nat.{ℕ, suc, ◌+◌, ◌-◌, ◌*◌, ◌≤◌, ◌<◌}
use mathlib.Core.List.{List, [], ◌∷◌, ◌++◌, append_assoc}
use mathlib.Core.Option.{some}
use mathlib.Core.Path.{◌≡◌, sym, ap, ap₂, ◌∙◌}
use native.Mathlib.Numerals.{add-one}
use native.Mathlib.Omega.{arith}
use lib.IntN.{ℤ, pos}
use lib.ListN.{length, length-append, take, drop, get_or, set}
use lib.Seq.{sets, sets-eq, length-sets, set_at, append_snoc, take-suc, length-take-le}
use Rattle.ground.proofs.Writes.{sets_append}
use Rattle.rules.specs.declared.Primitive.{Primitive}
use Rattle.rules.specs.declared.Row.{Row}
use Rattle.rules.specs.declared.Row.TheVariants.{Solid, Union, Inter, Diff}
use Rattle.rules.specs.Form.{Form, leaf, form_of}
use Rattle.rules.specs.Table.{row_count, row_at, primitives_before}
use Rattle.rules.specs.Tree.{tree_at, row_tree}
use Rattle.rules.specs.TreeRows.{rows_in}
use Rattle.laws.specs.Sound.{Sound}
use Rattle.laws.proofs.Apart.{before_rises, few_primitives}
use Rattle.laws.proofs.Trees.{read_right, read_tree}
use Rattle.moves.specs.Moves.{node}
use Rattle.normal.specs.Prefix.{flat}
use Rattle.normal.proofs.Words.{Parts, of_union, of_inter, of_diff, length_flat}
use Rattle.flatten.specs.Forms.{form_at, Branches, Laid}

module _ {t : List ℤ} (S : Sound t) {row : ℕ} (l : row < row_count t) {x : Row} (e : some x ≡ row_at t row) where
  form_read : {r : Row} → x ≡ r → form_at t row ≡ form_of (row_tree (length (primitives_before t row)) (tree_at t) (some r))
  form_read g = ap form_of (read_tree S l e g)

  pub at_solid : {s : Primitive} → x ≡ Solid s → form_at t row ≡ leaf (length (primitives_before t row))
  unfolding form_of
  at_solid g = form_read g

  branches : {F : Form} {k a b : ℕ} → form_at t row ≡ F → k < 32 → Parts F k (form_at t a) (form_at t b) → (a < row) × (b < row) → Branches t row k a b
  branches {F} {k} {a} {b} f o p r =
      record { operation = o; words = ap flat f ∙ p.words; long = ap rows_in f ∙ p.long; first = r.0; second = r.1 }

  pub at_union : {a b : ℕ} → x ≡ Union a b → Branches t row 19 a b
  unfolding form_of
  at_union {a} {b} g = branches (form_read g) (omega arith) (of_union (form_at t a) (form_at t b)) (read_right S l e g)

  pub at_inter : {a b : ℕ} → x ≡ Inter a b → Branches t row 20 a b
  unfolding form_of
  at_inter {a} {b} g = branches (form_read g) (omega arith) (of_inter (form_at t a) (form_at t b)) (read_right S l e g)

  pub at_diff : {a b : ℕ} → x ≡ Diff a b → Branches t row 21 a b
  unfolding form_of
  at_diff {a} {b} g = branches (form_read g) (omega arith) (of_diff (form_at t a) (form_at t b)) (read_right S l e g)

-- no number is large
pub number_few : {t : List ℤ} (S : Sound t) (row : ℕ) → row < row_count t → length (primitives_before t row) ≤ 64
number_few {t} S row l = omega (arith, before_rises t S row (row_count t) (omega arith), few_primitives t S)

-- ---- its words
leaf_words : (F : Form) {n : ℕ} → F ≡ leaf n → (rows_in F ≡ 1) × (flat F ≡ pos n ∷ [])
unfolding rows_in flat
leaf_words F e = (ap rows_in e, ap flat e)

pub leaf_laid : {t : List ℤ} {row at n : ℕ} {before after : List ℤ} → form_at t row ≡ leaf (length (primitives_before t row)) → n ≡ length (primitives_before t row)
    → after ≡ set before at (pos n) → Laid t row at before after (at + 1)
leaf_laid {t} {row} {at} {n} {before} e g w = record {
  ends = omega (arith, (leaf_words (form_at t row) e).0);
  words = w ∙ ap (λ (j : ℕ). set before at (pos j)) g ∙ ap (λ (l : List ℤ). sets before at l) (sym (leaf_words (form_at t row) e).1);
}

pub laid_length : {t : List ℤ} {row at r : ℕ} {before after : List ℤ} → Laid t row at before after r → length after ≡ length before
laid_length {t} {row} {at} {before = before} h = ap length h.words ∙ length-sets before at (flat (form_at t row))

-- a word before a run of them, written last
set_first : (l : List ℤ) (at : ℕ) (x : ℤ) (xs : List ℤ) → at + 1 + length xs ≤ length l → set (sets l (at + 1) xs) at x ≡ sets l at (x ∷ xs)
set_first l at x xs h =
    let rest : List ℤ = xs ++ drop (at + 1 + length xs) l in
    let t : take (at + 1) l ≡ take at l ++ (get_or l at (pos 0) ∷ []) = ap (λ (n : ℕ). take n l) (add-one at) ∙ take-suc l at (pos 0) (omega arith) in
    let m : at + 1 + length xs ≡ at + suc (length xs) = omega arith in
    ap (λ (v : List ℤ). set v at x) (sets-eq xs l (at + 1) h ∙ append_assoc (take (at + 1) l) xs (drop (at + 1 + length xs) l) ∙ ap (λ (v : List ℤ). v ++ rest) t ∙ append_snoc (take at l) (get_or l at (pos 0)) rest)
    ∙ set_at (take at l) (get_or l at (pos 0)) rest x at (length-take-le at l (omega arith))
    ∙ ap (λ (n : ℕ). take at l ++ (x ∷ (xs ++ drop n l))) m
    ∙ sym (sets-eq (x ∷ xs) l at (omega arith) ∙ append_assoc (take at l) (x ∷ xs) (drop (at + suc (length xs)) l))

-- a node's parts, then its word
pub node_laid : {t : List ℤ} {row k a b at m r n : ℕ} {before middle last after : List ℤ} → Branches t row k a b → Laid t a (at + 1) before middle m → Laid t b m middle last r
    → n ≡ k + 32 * (m - at - 1) → after ≡ set last at (pos n) → at + rows_in (form_at t row) ≤ length before → Laid t row at before after r
node_laid {t} {row} {k} {a} {b} {at} {m} {r} {n} {before} {middle} {last} {after} s p q w e h =
    let A : List ℤ = flat (form_at t a) in
    let B : List ℤ = flat (form_at t b) in
    let i : m - at - 1 ≡ rows_in (form_at t a) = omega (arith, p.ends) in
    let j : m ≡ at + 1 + length A = omega (arith, p.ends, length_flat (form_at t a)) in
    let f : last ≡ sets before (at + 1) (A ++ B) =
    q.words ∙ ap₂ (λ (l : List ℤ) (o : ℕ). sets l o B) p.words j ∙ sym (sets_append before (at + 1) A B) in
    record {
      ends = omega (arith, p.ends, q.ends, s.long);
      words =
          e ∙ ap₂ (λ (l : List ℤ) (x : ℕ). set l at (pos x)) f (w ∙ ap (λ (y : ℕ). k + 32 * y) i)
          ∙ set_first before at (node k (rows_in (form_at t a))) (A ++ B) (omega (arith, length-append A B, length_flat (form_at t a), length_flat (form_at t b), s.long))
          ∙ ap (λ (l : List ℤ). sets before at l) (sym s.words);
    }
