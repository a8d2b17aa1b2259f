-- The tree that a run of words begins with: what the loops' measures speak of. Assumes nothing.
use Prim.Native.Nat.{ℕ, zero, suc, ◌+◌, ◌*◌, ◌%◌, ◌≤◌, ◌<◌}
use mathlib.Core.List.{List, [], ◌∷◌, ◌++◌, append_assoc}
use mathlib.Core.Path.{◌≡◌, ap, ◌∙◌}
use native.Mathlib.Nat.{mod-eq_of_lt, add-mul-mod_self_left}
use native.Mathlib.Omega.{arith}
use borrow.Author.Tests.{ne_eqb}
use lib.Dec.{eqb}
use lib.IntN.{ℤ, nat_abs}
use lib.ListN.{length, length-append, length-drop, drop}
use Rattle.std.specs.Prelude.{if◌then◌else◌}
use Rattle.rules.specs.Form.{Form, leaf, ◌∪◌, ◌∩◌, ◌∖◌}
use Rattle.rules.specs.TreeRows.{rows_in}
use Rattle.normal.specs.Prefix.{flat, Small, Lies}
use Rattle.normal.proofs.Words.{length_flat}

record Read : Type 0 where
  tree : Form
  rest : List ℤ

abbrev node : (Form → Form → Form) → (List ℤ → Read) → List ℤ → Read
node op reads w = record { tree = op (reads w).tree (reads (reads w).rest).tree; rest = (reads (reads w).rest).rest }

-- by what the node is
abbrev pick : ℕ → (List ℤ → Read) → List ℤ → Read
pick k reads w =
    if eqb k 19 then node ◌∪◌ reads w
    else (if eqb k 20 then node ◌∩◌ reads w
    else (if eqb k 21 then node ◌∖◌ reads w else record { tree = leaf k; rest = w }))

unfoldable read : ℕ → List ℤ → Read
read zero w = record { tree = leaf 0; rest = w }
read (suc f) [] = record { tree = leaf 0; rest = [] }
read (suc f) (x ∷ w) = pick (nat_abs x % 32) (λ v. read f v) w

node_of : (op : Form → Form → Form) (reads : List ℤ → Read) (X Y : Form) (rest : List ℤ)
    → reads (flat X ++ (flat Y ++ rest)) ≡ record { tree = X; rest = flat Y ++ rest } → reads (flat Y ++ rest) ≡ record { tree = Y; rest = rest }
    → node op reads ((flat X ++ flat Y) ++ rest) ≡ record { tree = op X Y; rest = rest }
node_of op reads X Y rest e f =
    ap (node op reads) (append_assoc (flat X) (flat Y) rest)
    ∙ ap (λ (x : Read). record { tree = op x.tree (reads x.rest).tree; rest = (reads x.rest).rest }) e
    ∙ ap (λ (x : Read). record { tree = op X x.tree; rest = x.rest }) f

leaf_of : (i : ℕ) (reads : List ℤ → Read) (w : List ℤ) → i < 16 → pick (i % 32) reads w ≡ record { tree = leaf i; rest = w }
leaf_of i reads w h =
    let m : i % 32 ≡ i = mod-eq_of_lt (omega arith) in
    rw m (rw (ne_eqb i 19 (λ e. omega arith)) (rw (ne_eqb i 20 (λ e. omega arith)) (rw (ne_eqb i 21 (λ e. omega arith)))))

-- a node's word says what it is
told : (k n : ℕ) (reads : List ℤ → Read) (w : List ℤ) → k < 32 → pick ((k + 32 * n) % 32) reads w ≡ pick k reads w
told k n reads w h = ap (λ (j : ℕ). pick j reads w) (add-mul-mod_self_left k 32 n ∙ mod-eq_of_lt h)

read_flat : (T : Form) (f : ℕ) (rest : List ℤ) → Small T → rows_in T ≤ f → read f (flat T ++ rest) ≡ record { tree = T; rest = rest }
unfolding read flat rows_in Small
read_flat (leaf i) zero rest s h = absurd (omega arith)
read_flat (leaf i) (suc f) rest s h = leaf_of i (λ v. read f v) rest s
read_flat (X ∪ Y) zero rest s h = absurd (omega arith)
read_flat (X ∪ Y) (suc f) rest s h =
    told 19 (rows_in X) (λ v. read f v) ((flat X ++ flat Y) ++ rest) (omega arith)
    ∙ node_of ◌∪◌ (λ v. read f v) X Y rest (read_flat X f (flat Y ++ rest) s.0 (omega arith)) (read_flat Y f rest s.1 (omega arith))
read_flat (X ∩ Y) zero rest s h = absurd (omega arith)
read_flat (X ∩ Y) (suc f) rest s h =
    told 20 (rows_in X) (λ v. read f v) ((flat X ++ flat Y) ++ rest) (omega arith)
    ∙ node_of ◌∩◌ (λ v. read f v) X Y rest (read_flat X f (flat Y ++ rest) s.0 (omega arith)) (read_flat Y f rest s.1 (omega arith))
read_flat (X ∖ Y) zero rest s h = absurd (omega arith)
read_flat (X ∖ Y) (suc f) rest s h =
    told 21 (rows_in X) (λ v. read f v) ((flat X ++ flat Y) ++ rest) (omega arith)
    ∙ node_of ◌∖◌ (λ v. read f v) X Y rest (read_flat X f (flat Y ++ rest) s.0 (omega arith)) (read_flat Y f rest s.1 (omega arith))

-- the tree at a place
pub tree_at : List ℤ → ℕ → Form
tree_at w at = (read (length w) (drop at w)).tree

pub lies_tree : {w : List ℤ} {at : ℕ} {T : Form} → Lies w at T → tree_at w at ≡ T
unfolding tree_at
lies_tree {w} {at} {T} h =
    let l : rows_in T ≤ length w = omega (arith, length-drop at w, ap length h.here, length-append (flat T) h.rest, length_flat T) in
    ap (λ (v : List ℤ). (read (length w) v).tree) h.here ∙ ap (λ (x : Read). x.tree) (read_flat T (length w) h.rest h.small l)
