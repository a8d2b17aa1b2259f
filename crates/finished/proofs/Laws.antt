-- Rows, one part of a tree after the other; and words that are 0. Assumes nothing.
use Prim.Native.Nat.{ℕ, zero, suc, ◌+◌, ◌-◌, ◌*◌, ◌≤◌, ◌<◌}
use mathlib.Core.List.{List, [], ◌∷◌, ◌++◌}
use mathlib.Core.Path.{◌≡◌, refl, sym, ap, ap₂, subst, ◌∙◌}
use native.Mathlib.Omega.{arith}
use lib.IntN.{ℤ, pos}
use lib.ListN.{length, length-replicate, set, replicate}
use lib.Seq.{sets, length-sets}
use Rattle.std.proofs.lemmas.List.{replicate_more}
use Rattle.ground.proofs.Writes.{sets_append}
use Rattle.rules.specs.Form.{Form, leaf, ◌∪◌, ◌∩◌, ◌∖◌}
use Rattle.rules.specs.TreeRows.{rows_in, rows_from}
use Rattle.paper.proofs.Rows.{length_rows, some_rows}
use Rattle.moves.specs.declared.Operation.{Operation}
use Rattle.moves.specs.Moves.{operation_number, AreWords, IsWord}
use Rattle.normal.specs.declared.Top.TheVariants.{Node}
use Rattle.normal.specs.Prefix.{top, head, left_of, right_of, Small, Lies}
use Rattle.normal.proofs.Reading.{tree_at, lies_tree}
use Rattle.normal.proofs.Words.{parts_of, flat_leaf, number_le, node_head, top_node, lies_left, lies_right}
use Rattle.finished.specs.Rows.{Rowed, Emitted, zeros}

-- the last row of a node
abbrev own : ℕ → Form → List ℤ
own row T = pos (head T - 16) ∷ pos (row + rows_in (left_of T) - 1) ∷ pos (row + rows_in (left_of T) + rows_in (right_of T) - 1) ∷ []

rows_node : (row : ℕ) (T : Form) → Small T → 16 ≤ head T → rows_from row T ≡ rows_from row (left_of T) ++ (rows_from (row + rows_in (left_of T)) (right_of T) ++ own row T)
unfolding rows_from head left_of right_of Small
rows_node row (leaf i) s h = absurd (omega arith)
rows_node row (X ∪ Y) s h = refl
rows_node row (X ∩ Y) s h = refl
rows_node row (X ∖ Y) s h = refl

rows_leaf : (row : ℕ) (T : Form) → head T < 16 → rows_from row T ≡ pos 0 ∷ pos (head T) ∷ pos 0 ∷ []
unfolding rows_from head
rows_leaf row (leaf i) h = refl
rows_leaf row (X ∪ Y) h = absurd (omega arith)
rows_leaf row (X ∩ Y) h = absurd (omega arith)
rows_leaf row (X ∖ Y) h = absurd (omega arith)

-- three runs of writes, one after the other
three_runs : (out : List ℤ) (i j k : ℕ) (x y z : List ℤ) → j ≡ i + length x → k ≡ j + length y → sets (sets (sets out i x) j y) k z ≡ sets out i (x ++ (y ++ z))
three_runs out i j k x y z e f =
    ap₂ (λ (m n : ℕ). sets (sets (sets out i x) m y) n z) e (f ∙ ap (λ (m : ℕ). m + length y) e)
    ∙ sym (sets_append (sets out i x) (i + length x) y z) ∙ sym (sets_append out i x (y ++ z))

rows_parts : {w : List ℤ} {at : ℕ} {T : Form} → Lies w at T → 16 ≤ head T → rows_in T ≡ 1 + rows_in (left_of T) + rows_in (right_of T)
rows_parts {T = T} h k = (parts_of T h.small k).long

pub rows_at : {w : List ℤ} {at : ℕ} {T : Form} → Lies w at T → rows_in (tree_at w at) ≡ rows_in T
rows_at h = ap rows_in (lies_tree h)

pub rowed_length : {out done : List ℤ} {row r : ℕ} {T : Form} → Rowed out done row T r → length done ≡ length out
rowed_length {out} {row = row} {T = T} h = ap length h.written ∙ length-sets out (row * 3) (rows_from row T)

-- ---- a node's rows: its parts', then its own
node_rowed : {w : List ℤ} {at row : ℕ} {out mid fin done : List ℤ} {T : Form} {m e : ℕ} → Lies w at T → 16 ≤ head T
    → Rowed out mid row (left_of T) m → Rowed mid fin m (right_of T) e → done ≡ sets fin (e * 3) (pos (head T - 16) ∷ pos (m - 1) ∷ pos (e - 1) ∷ [])
    → Rowed out done row T (e + 1)
node_rowed {w} {at} {row} {out} {mid} {fin} {done} {T} {m} {e} h k p q d =
    let X : Form = left_of T in
    let Y : Form = right_of T in
    let end : e ≡ row + rows_in X + rows_in Y = q.ends ∙ ap (λ (n : ℕ). n + rows_in Y) p.ends in
    let z : (pos (head T - 16) ∷ pos (m - 1) ∷ pos (e - 1) ∷ []) ≡ own row T = ap₂ (λ (i j : ℕ). pos (head T - 16) ∷ pos (i - 1) ∷ pos (j - 1) ∷ []) p.ends end in
    let f : fin ≡ sets (sets out (row * 3) (rows_from row X)) ((row + rows_in X) * 3) (rows_from (row + rows_in X) Y) =
    q.written ∙ ap₂ (λ (l : List ℤ) (n : ℕ). sets l (n * 3) (rows_from n Y)) p.written p.ends in
    record {
      ends = omega (arith, end, rows_parts h k);
      written =
          d ∙ ap₂ (λ (l v : List ℤ). sets l (e * 3) v) f z
          ∙ three_runs out (row * 3) ((row + rows_in X) * 3) (e * 3) (rows_from row X) (rows_from (row + rows_in X) Y) (own row T)
          (omega (arith, length_rows row X)) (omega (arith, length_rows (row + rows_in X) Y, end))
          ∙ ap (λ (v : List ℤ). sets out (row * 3) v) (sym (rows_node row T h.small k));
    }

pub leaf_rowed : {row : ℕ} {out done : List ℤ} {T : Form} → head T < 16 → done ≡ sets out (row * 3) (pos 0 ∷ pos (head T) ∷ pos 0 ∷ []) → Rowed out done row T (row + 1)
leaf_rowed {row} {out} {done} {T} k e = record {
  ends = omega (arith, (flat_leaf T k).1);
  written = e ∙ ap (λ (v : List ℤ). sets out (row * 3) v) (sym (rows_leaf row T k));
}

-- ---- three words of a row
pub are_three : (a b c : ℕ) → IsWord a → IsWord b → IsWord c → AreWords (a ∷ b ∷ c ∷ [])
are_three a b c p q r zero h = p
are_three a b c p q r (suc zero) h = q
are_three a b c p q r (suc (suc zero)) h = r
are_three a b c p q r (suc (suc (suc i))) h = absurd (omega arith)

-- ---- a node there: what its calls promise, one after the other
module _ {w : List ℤ} {at : ℕ} {T : Form} {o : Operation} (l : Lies w at T) (tops : (U : Form) → Lies w at U → Node o ≡ top U) where
  pub is_node : 16 ≤ head T
  is_node = node_head T o (top_node T (tops T l))

  pub parts : rows_in T ≡ 1 + rows_in (left_of T) + rows_in (right_of T)
  parts = rows_parts l is_node

  pub left_lies : Lies w (at + 1) (left_of T)
  left_lies = lies_left l is_node

  module _ {out mid : List ℤ} {row m : ℕ} (left : Emitted w (at + 1) out mid row m) where
    pub left_rows : Rowed out mid row (left_of T) m
    left_rows = left (left_of T) left_lies

    pub right_lies : Lies w (at + 1 + (m - row)) (right_of T)
    right_lies =
        let e : at + 1 + (m - row) ≡ at + 1 + rows_in (left_of T) = omega (arith, left_rows.ends) in
        subst (λ (j : ℕ). Lies w j (right_of T)) (sym e) (lies_right l is_node)

    -- the sizes, of the tree and its parts
    pub record Sizes (fin : List ℤ) (e : ℕ) : Type 0 where
      pub whole : rows_in T ≡ 1 + rows_in (left_of T) + rows_in (right_of T)
      pub first : m ≡ row + rows_in (left_of T)
      pub second : e ≡ m + rows_in (right_of T)
      pub left_one : 1 ≤ rows_in (left_of T)
      pub right_one : 1 ≤ rows_in (right_of T)
      pub long : length fin ≡ length out
      pub kind : operation_number o ≤ 21

    module _ {fin : List ℤ} {e : ℕ} (right : Emitted w (at + 1 + (m - row)) mid fin m e) where
      right_rows : Rowed mid fin m (right_of T) e
      right_rows = right (right_of T) right_lies

      pub sizes : Sizes fin e
      sizes = record {
        whole = parts;
        first = left_rows.ends;
        second = right_rows.ends;
        left_one = some_rows (left_of T);
        right_one = some_rows (right_of T);
        long = rowed_length right_rows ∙ rowed_length left_rows;
        kind = (number_le o).1;
      }

      pub node_done : {done : List ℤ} {k : ℕ} → k ≡ operation_number o - 16 → done ≡ sets fin (e * 3) (pos k ∷ pos (m - 1) ∷ pos (e - 1) ∷ []) → Rowed out done row T (e + 1)
      node_done f d =
          node_rowed l is_node left_rows right_rows
          (d ∙ ap (λ (x : ℕ). sets fin (e * 3) (pos x ∷ pos (m - 1) ∷ pos (e - 1) ∷ [])) (f ∙ ap (λ (x : ℕ). x - 16) (sym (top_node T (tops T l)))))

-- ---- clearing
pub no_zeros : (w : List ℤ) → w ≡ sets w 0 (zeros 0)
unfolding zeros
no_zeros w = refl

pub clear_more : (w : List ℤ) (i : ℕ) → set (sets w 0 (zeros i)) i (pos 0) ≡ sets w 0 (zeros (i + 1))
unfolding zeros
clear_more w i =
    let cleared : List ℤ = sets w 0 (replicate i (pos 0)) in
    let place : i ≡ 0 + length (replicate i (pos 0)) = omega (arith, length-replicate i (pos 0)) in
    ap (λ (n : ℕ). set cleared n (pos 0)) place ∙ sym (sets_append w 0 (replicate i (pos 0)) (pos 0 ∷ [])) ∙ ap (sets w 0) (replicate_more i (pos 0))
