-- 1 to 6: the words that `lean` and `split` leave are those of the tree rewritten. Assumes nothing.
use Prim.Native.Nat.{ℕ, ◌+◌, ◌-◌, ◌≤◌}
use mathlib.Core.List.{List, ◌∷◌, ◌++◌, append_assoc}
use mathlib.Core.Path.{◌≡◌, sym, ap, ap₂, subst, ◌∙◌}
use native.Mathlib.Omega.{arith}
use lib.IntN.{ℤ}
use lib.ListN.{length, length-append, drop}
use Rattle.rules.specs.Form.{Form, ◌∪◌, ◌∩◌, ◌∖◌}
use Rattle.rules.specs.TreeRows.{rows_in}
use Rattle.paper.specs.Runs.{Taken, t1, t2, t3, t4, t5, t6}
use Rattle.moves.specs.Moves.{most_words, node, LeanTo, SplitTo}
use Rattle.normal.specs.Prefix.{flat, head, left_words, left_of, right_of, Small}
use Rattle.normal.specs.Held.{Rewritten, Placed}
use Rattle.normal.proofs.Words.{length_flat, Parts, of_union, of_inter, of_diff, as_union, as_inter, as_diff, parts_of, held_length, left_words_rows}
use Rattle.normal.proofs.Words.{placed_parts, placed_small, placed_room, placed_few}

module _ {w : List ℤ} {at right used : ℕ} {a : List ℤ} {T : Form} {c : List ℤ} (h : Placed w at right used a T c) (g : 16 ≤ head (right_of T)) where
  abbrev X : Form
  X = left_of T

  abbrev R : Form
  R = right_of T

  abbrev Y : Form
  Y = left_of (right_of T)

  abbrev Z : Form
  Z = right_of (right_of T)

  inner : Parts R (head R) Y Z
  inner = parts_of R (placed_small h).1 g

  -- the words of both nodes
  spread : w ≡ a ++ (node (head T) (rows_in X) ∷ (flat X ++ (node (head R) (rows_in Y) ∷ (flat Y ++ (flat Z ++ (c ++ h.ready.held.rest))))))
  spread =
      h.ready.held.words
      ∙ ap (λ (l : List ℤ). a ++ (l ++ (c ++ h.ready.held.rest)))
      ((placed_parts h).words ∙ ap (λ (l : List ℤ). node (head T) (rows_in X) ∷ (flat X ++ l)) inner.words)
      ∙ simp append_assoc

  sizes : rows_in T ≡ 2 + rows_in X + rows_in Y + rows_in Z
  sizes = omega (arith, (placed_parts h).long, inner.long)

  inner_small : Small X × (Small Y × Small Z)
  inner_small = ((placed_small h).0, inner.small (placed_small h).1)

  pub middle_is : {middle : ℕ} → middle ≡ left_words R → middle ≡ rows_in Y
  middle_is e = e ∙ left_words_rows R (placed_small h).1 g

  -- where `lean` and `split` look
  pub lean_in : {middle : ℕ} → middle ≡ rows_in Y → (at + 1 ≤ right) × (right + 1 ≤ length w) × (right - at + middle ≤ most_words)
  lean_in e = omega (arith, h.place, held_length h.ready.held, h.ready.held.upto, h.ready.held.few, sizes)

  -- ---- 1, 4, 6
  lean_to : {U M : Form} {p r : ℕ} {v : List ℤ} {middle : ℕ} → middle ≡ rows_in Y → Parts U p M Z → Parts M r X Y → Taken T U
      → LeanTo w v at right middle p r → Rewritten v at used a T c
  lean_to {U} {M} {p} {r} {v} {middle} m pu pm k l =
      let D : List ℤ = c ++ h.ready.held.rest in
      let tail : List ℤ = flat X ++ (flat Y ++ (flat Z ++ D)) in
      let e : v ≡ a ++ (node p (1 + length (flat X) + middle) ∷ (node r (length (flat X)) ∷ tail)) =
      l a (flat X) (flat Y ++ (flat Z ++ D)) (node (head T) (rows_in X)) (node (head R) (rows_in Y)) spread h.ready.held.before (omega (arith, length_flat X, h.place)) in
      let i : 1 + length (flat X) + middle ≡ rows_in M = omega (arith, length_flat X, pm.long) in
      let f : a ++ (flat U ++ D) ≡ a ++ (node p (rows_in M) ∷ (node r (rows_in X) ∷ tail)) =
      ap (λ (l : List ℤ). a ++ (l ++ D)) (pu.words ∙ ap (λ (l : List ℤ). node p (rows_in M) ∷ (l ++ flat Z)) pm.words) ∙ simp append_assoc in (
        U,
        k,
        record {
          rest = h.ready.held.rest;
          words = e ∙ ap₂ (λ (m n : ℕ). a ++ (node p m ∷ (node r n ∷ tail))) i (length_flat X) ∙ sym f;
          before = h.ready.held.before;
          upto = omega (arith, h.ready.held.upto, sizes, pu.long, pm.long);
          small = pu.made (pm.made inner_small.0 inner_small.1.0) inner_small.1.1;
          few = placed_few h k;
        },
      )

  -- ---- 2, 3, 5
  grown : {U M N : Form} {r s : ℕ} → Parts U 19 M N → Parts M r X Y → Parts N s X Z → rows_in U ≡ rows_in T + rows_in X + 1
  grown pu pm pn = omega (arith, pu.long, pm.long, pn.long, sizes)

  split_in : {U M N : Form} {r s middle : ℕ} → middle ≡ rows_in Y → Parts U 19 M N → Parts M r X Y → Parts N s X Z → Taken T U
      → (at + 1 ≤ right) × (right + 1 + middle ≤ used) × (used + (right - at) ≤ length w)
  split_in m pu pm pn k = omega (arith, placed_room h k, grown pu pm pn, h.place, h.ready.held.upto, sizes)

  split_to : {U M N : Form} {r s : ℕ} {v : List ℤ} {n middle : ℕ} → middle ≡ rows_in Y → Parts U 19 M N → Parts M r X Y → Parts N s X Z → Taken T U
      → SplitTo w v at right middle used r s n → Rewritten v at n a T c
  split_to {U} {M} {N} {r} {s} {v} {n} {middle} m pu pm pn k l =
      let rest : List ℤ = h.ready.held.rest in
      let x : ℕ = length (flat X) in
      let o = l a (flat X) (flat Y) (flat Z ++ c) rest (node (head T) (rows_in X)) (node (head R) (rows_in Y)) (spread ∙ simp append_assoc) h.ready.held.before
      (omega (arith, length_flat X, h.place)) (length_flat Y ∙ sym m) (omega (arith, length-append (flat Z) c, length_flat Z, h.place, h.ready.held.upto, sizes)) in
      let D : List ℤ = drop (rows_in X + 1) rest in
      let i : 1 + x + middle ≡ rows_in M = omega (arith, length_flat X, pm.long) in
      let f : a ++ (flat U ++ (c ++ D))
      ≡ a ++ (node 19 (rows_in M) ∷ (node r (rows_in X) ∷ (flat X ++ (flat Y ++ (node s (rows_in X) ∷ (flat X ++ ((flat Z ++ c) ++ D))))))) =
      ap (λ (l : List ℤ). a ++ (l ++ (c ++ D))) (pu.words ∙ ap₂ (λ (k l : List ℤ). node 19 (rows_in M) ∷ (k ++ l)) pm.words pn.words) ∙ simp append_assoc in (
        U,
        k,
        record {
          rest = D;
          words =
              o.1
              ∙ ap₂ (λ (j n : ℕ). a ++ (node 19 j ∷ (node r n ∷ (flat X ++ (flat Y ++ (node s n ∷ (flat X ++ ((flat Z ++ c) ++ drop (n + 1) rest)))))))) i (length_flat X)
              ∙ sym f;
          before = h.ready.held.before;
          upto = omega (arith, o.0, length_flat X, grown pu pm pn, h.ready.held.upto);
          small = pu.made (pm.made inner_small.0 inner_small.1.0) (pn.made inner_small.0 inner_small.1.1);
          few = placed_few h k;
        },
      )

  -- ---- which rule
  as_less : {S : Form} → head T ≡ 21 → R ≡ S → T ≡ X ∖ S
  as_less e f = as_diff T h.ready.held.small e ∙ ap (λ (S : Form). X ∖ S) f

  as_meet : {S : Form} → head T ≡ 20 → R ≡ S → T ≡ X ∩ S
  as_meet e f = as_inter T h.ready.held.small e ∙ ap (λ (S : Form). X ∩ S) f

  takes : {S U : Form} → T ≡ S → Taken S U → Taken T U
  takes {S} {U} e t = subst (λ (V' : Form). Taken V' U) (sym e) t

  taken_1 : head T ≡ 21 → head R ≡ 19 → Taken T ((X ∖ Y) ∖ Z)
  taken_1 e f = takes (as_less e (as_union R (placed_small h).1 f)) t1

  taken_2 : head T ≡ 20 → head R ≡ 19 → Taken T ((X ∩ Y) ∪ (X ∩ Z))
  taken_2 e f = takes (as_meet e (as_union R (placed_small h).1 f)) t2

  taken_3 : head T ≡ 21 → head R ≡ 20 → Taken T ((X ∖ Y) ∪ (X ∖ Z))
  taken_3 e f = takes (as_less e (as_inter R (placed_small h).1 f)) t3

  taken_4 : head T ≡ 20 → head R ≡ 20 → Taken T ((X ∩ Y) ∩ Z)
  taken_4 e f = takes (as_meet e (as_inter R (placed_small h).1 f)) t4

  taken_5 : head T ≡ 21 → head R ≡ 21 → Taken T ((X ∖ Y) ∪ (X ∩ Z))
  taken_5 e f = takes (as_less e (as_diff R (placed_small h).1 f)) t5

  taken_6 : head T ≡ 20 → head R ≡ 21 → Taken T ((X ∩ Y) ∖ Z)
  taken_6 e f = takes (as_meet e (as_diff R (placed_small h).1 f)) t6

  module _ {v : List ℤ} {middle : ℕ} (m : middle ≡ rows_in Y) where
    pub rule_1 : head T ≡ 21 → head R ≡ 19 → LeanTo w v at right middle 21 21 → Rewritten v at used a T c
    rule_1 e f l = lean_to m (of_diff (X ∖ Y) Z) (of_diff X Y) (taken_1 e f) l

    pub rule_4 : head T ≡ 20 → head R ≡ 20 → LeanTo w v at right middle 20 20 → Rewritten v at used a T c
    rule_4 e f l = lean_to m (of_inter (X ∩ Y) Z) (of_inter X Y) (taken_4 e f) l

    pub rule_6 : head T ≡ 20 → head R ≡ 21 → LeanTo w v at right middle 21 20 → Rewritten v at used a T c
    rule_6 e f l = lean_to m (of_diff (X ∩ Y) Z) (of_inter X Y) (taken_6 e f) l

    pub rule_2 : {n : ℕ} → head T ≡ 20 → head R ≡ 19 → SplitTo w v at right middle used 20 20 n → Rewritten v at n a T c
    rule_2 e f l = split_to m (of_union (X ∩ Y) (X ∩ Z)) (of_inter X Y) (of_inter X Z) (taken_2 e f) l

    pub rule_3 : {n : ℕ} → head T ≡ 21 → head R ≡ 20 → SplitTo w v at right middle used 21 21 n → Rewritten v at n a T c
    rule_3 e f l = split_to m (of_union (X ∖ Y) (X ∖ Z)) (of_diff X Y) (of_diff X Z) (taken_3 e f) l

    pub rule_5 : {n : ℕ} → head T ≡ 21 → head R ≡ 21 → SplitTo w v at right middle used 21 20 n → Rewritten v at n a T c
    rule_5 e f l = split_to m (of_union (X ∖ Y) (X ∩ Z)) (of_diff X Y) (of_inter X Z) (taken_5 e f) l

  -- and that there is room for it
  module _ {middle : ℕ} (m : middle ≡ rows_in Y) where
    abbrev pub Room : Type 0
    Room = (at + 1 ≤ right) × (right + 1 + middle ≤ used) × (used + (right - at) ≤ length w)

    pub room_2 : head T ≡ 20 → head R ≡ 19 → Room
    room_2 e f = split_in m (of_union (X ∩ Y) (X ∩ Z)) (of_inter X Y) (of_inter X Z) (taken_2 e f)

    pub room_3 : head T ≡ 21 → head R ≡ 20 → Room
    room_3 e f = split_in m (of_union (X ∖ Y) (X ∖ Z)) (of_diff X Y) (of_diff X Z) (taken_3 e f)

    pub room_5 : head T ≡ 21 → head R ≡ 21 → Room
    room_5 e f = split_in m (of_union (X ∖ Y) (X ∩ Z)) (of_diff X Y) (of_inter X Z) (taken_5 e f)
