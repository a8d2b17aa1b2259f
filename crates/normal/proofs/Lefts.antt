-- 6.5, 7 and 8: the words that `swap` and `share` leave are those of the tree rewritten; and where no rule fits. Assumes nothing.
use Prim.Native.Nat.{ℕ, ◌+◌, ◌-◌, ◌≤◌, ◌<◌}
use mathlib.Core.List.{List, ◌∷◌, ◌++◌, append_assoc}
use mathlib.Core.Option.{none}
use mathlib.Core.Path.{◌≡◌, refl, sym, ap, ap₂, subst, ◌∙◌}
use native.Mathlib.Omega.{arith}
use lib.IntN.{ℤ, pos}
use lib.ListN.{length, drop}
use Rattle.rules.specs.Form.{Form, leaf, ◌∪◌, ◌∩◌, ◌∖◌}
use Rattle.rules.specs.Procedure.{lowest}
use Rattle.rules.specs.TreeRows.{rows_in}
use Rattle.paper.specs.Runs.{Taken, t65, t7, t8}
use Rattle.moves.specs.Moves.{most_words, node, SwapTo, ShareTo}
use Rattle.normal.specs.Prefix.{flat, head, left_words, left_of, right_of, Small}
use Rattle.normal.specs.Held.{Rewritten, Placed}
use Rattle.normal.proofs.Words.{length_flat, Parts, of_union, of_inter, of_diff, as_leaf, flat_leaf, as_union, as_inter, as_diff, parts_of, like, of_like, left_words_rows}
use Rattle.normal.proofs.Words.{held_length, placed_parts, placed_small, placed_room, placed_few}

-- ---- which rule
taken_8 : (L R : Form) → Small L → head L ≡ 19 → head R < 16 → Taken (L ∩ R) ((left_of L ∩ R) ∪ (right_of L ∩ R))
taken_8 L R s e f =
    let A : Form = left_of L in
    let B : Form = right_of L in
    let i : ℕ = head R in
    subst (λ (z : Form). Taken (L ∩ z) ((A ∩ z) ∪ (B ∩ z))) (sym (as_leaf R f))
    (subst (λ (m : Form). Taken (m ∩ leaf i) ((A ∩ leaf i) ∪ (B ∩ leaf i))) (sym (as_union L s e)) t8)

taken_7 : (L R : Form) → Small L → head L ≡ 19 → head R < 16 → Taken (L ∖ R) ((left_of L ∖ R) ∪ (right_of L ∖ R))
taken_7 L R s e f =
    let A : Form = left_of L in
    let B : Form = right_of L in
    let i : ℕ = head R in
    subst (λ (z : Form). Taken (L ∖ z) ((A ∖ z) ∪ (B ∖ z))) (sym (as_leaf R f))
    (subst (λ (m : Form). Taken (m ∖ leaf i) ((A ∖ leaf i) ∪ (B ∖ leaf i))) (sym (as_union L s e)) t7)

taken_65 : (L R : Form) → Small L → head L ≡ 21 → head R < 16 → Taken (L ∩ R) ((left_of L ∩ R) ∖ right_of L)
taken_65 L R s e f =
    let A : Form = left_of L in
    let B : Form = right_of L in
    let i : ℕ = head R in
    subst (λ (z : Form). Taken (L ∩ z) ((A ∩ z) ∖ B)) (sym (as_leaf R f))
    (subst (λ (m : Form). Taken (m ∩ leaf i) ((A ∩ leaf i) ∖ B)) (sym (as_diff L s e)) t65)

taken_share : (T : Form) → Small T → 20 ≤ head T → head (left_of T) ≡ 19 → head (right_of T) < 16
    → Taken T (like T (left_of (left_of T)) (right_of T) ∪ like T (right_of (left_of T)) (right_of T))
unfolding head left_of right_of like Small
taken_share (leaf i) s h e f = absurd (omega arith)
taken_share (L ∪ R) s h e f = absurd (omega arith)
taken_share (L ∩ R) s h e f = taken_8 L R s.0 e f
taken_share (L ∖ R) s h e f = taken_7 L R s.0 e f

-- ---- where none fits
still_inter : (L R : Form) → (head L ≡ 19 → ⊥) → (head L ≡ 21 → ⊥) → head R < 16 → lowest (L ∩ R) ≡ none
unfolding head lowest
still_inter (leaf j) (leaf i) n m f = refl
still_inter (A ∪ B) (leaf i) n m f = absurd (n refl)
still_inter (A ∩ B) (leaf i) n m f = refl
still_inter (A ∖ B) (leaf i) n m f = absurd (m refl)
still_inter L (A ∪ B) n m f = absurd (omega arith)
still_inter L (A ∩ B) n m f = absurd (omega arith)
still_inter L (A ∖ B) n m f = absurd (omega arith)

still_diff : (L R : Form) → (head L ≡ 19 → ⊥) → head R < 16 → lowest (L ∖ R) ≡ none
unfolding head lowest
still_diff (leaf j) (leaf i) n f = refl
still_diff (A ∪ B) (leaf i) n f = absurd (n refl)
still_diff (A ∩ B) (leaf i) n f = refl
still_diff (A ∖ B) (leaf i) n f = refl
still_diff L (A ∪ B) n f = absurd (omega arith)
still_diff L (A ∩ B) n f = absurd (omega arith)
still_diff L (A ∖ B) n f = absurd (omega arith)

pub still_left : (T : Form) → Small T → 20 ≤ head T → head (right_of T) < 16 → (head (left_of T) ≡ 19 → ⊥) → (head (left_of T) ≡ 21 → head T ≡ 20 → ⊥)
    → lowest T ≡ none
unfolding head left_of right_of Small
still_left (leaf i) s h f n m = absurd (omega arith)
still_left (L ∪ R) s h f n m = absurd (omega arith)
still_left (L ∩ R) s h f n m = still_inter L R n (λ e. m e refl) f
still_left (L ∖ R) s h f n m = still_diff L R n f

pub still_low : (T : Form) → head T < 20 → lowest T ≡ none
unfolding head lowest
still_low (leaf i) h = refl
still_low (X ∪ Y) h = refl
still_low (X ∩ Y) h = absurd (omega arith)
still_low (X ∖ Y) h = absurd (omega arith)

module _ {w : List ℤ} {at right used : ℕ} {a : List ℤ} {T : Form} {c : List ℤ} (h : Placed w at right used a T c) (g : head (right_of T) < 16)
    (k : 16 ≤ head (left_of T)) where
  abbrev L : Form
  L = left_of T

  abbrev R : Form
  R = right_of T

  abbrev X : Form
  X = left_of (left_of T)

  abbrev Y : Form
  Y = right_of (left_of T)

  inner : Parts L (head L) X Y
  inner = parts_of L (placed_small h).0 k

  spread : w ≡ a ++ (node (head T) (rows_in L) ∷ (node (head L) (rows_in X) ∷ (flat X ++ (flat Y ++ (pos (head R) ∷ (c ++ h.ready.held.rest))))))
  spread =
      h.ready.held.words
      ∙ ap (λ (l : List ℤ). a ++ (l ++ (c ++ h.ready.held.rest)))
      ((placed_parts h).words ∙ ap₂ (λ (k l : List ℤ). node (head T) (rows_in L) ∷ (k ++ l)) inner.words (flat_leaf R g).0)
      ∙ simp append_assoc

  sizes : rows_in T ≡ 3 + rows_in X + rows_in Y
  sizes = omega (arith, (placed_parts h).long, inner.long, (flat_leaf R g).1)

  inner_small : Small X × Small Y
  inner_small = inner.small (placed_small h).0

  right_at : {first : ℕ} → first ≡ left_words L → (first ≡ rows_in X) × (at + 2 + first + rows_in Y ≡ right)
  right_at e = let f = left_words_rows L (placed_small h).0 k in (e ∙ f, omega (arith, h.place, inner.long, f))

  -- ---- 6.5
  pub swap_in : {first : ℕ} → first ≡ left_words L → (at + 2 + first ≤ right) × (right + 1 ≤ length w) × (first + 2 ≤ most_words)
  swap_in e = omega (arith, right_at e, sizes, h.place, inner.long, h.ready.held.few, h.ready.held.upto, held_length h.ready.held)

  pub rule_65 : {v : List ℤ} {first z : ℕ} → first ≡ left_words L → z ≡ head R → head T ≡ 20 → head L ≡ 21 → SwapTo w v at first right (pos z)
      → Rewritten v at used a T c
  rule_65 {v} {first} {z} n y e f l =
      let D : List ℤ = c ++ h.ready.held.rest in
      let U : Form = (X ∩ R) ∖ Y in
      let pu : Parts U 21 (X ∩ R) Y = of_diff (X ∩ R) Y in
      let pm : Parts (X ∩ R) 20 X R = of_inter X R in
      let t : Taken T U = subst (λ (S : Form). Taken S U) (sym (as_inter T h.ready.held.small e)) (taken_65 L R (placed_small h).0 f g) in
      let o : v ≡ a ++ (node 21 (first + 2) ∷ (node 20 first ∷ (flat X ++ (pos z ∷ (flat Y ++ D))))) =
      l a (flat X) (flat Y) D (node (head T) (rows_in L)) (node (head L) (rows_in X))
      (spread ∙ ap (λ (i : ℕ). a ++ (node (head T) (rows_in L) ∷ (node (head L) (rows_in X) ∷ (flat X ++ (flat Y ++ (pos i ∷ D)))))) (sym y)) h.ready.held.before
      (length_flat X ∙ sym (right_at n).0) (ap (λ (i : ℕ). at + 2 + first + i) (length_flat Y) ∙ (right_at n).1) in
      let i : first + 2 ≡ rows_in (X ∩ R) = omega (arith, right_at n, pm.long, (flat_leaf R g).1) in
      let q : a ++ (flat U ++ D) ≡ a ++ (node 21 (rows_in (X ∩ R)) ∷ (node 20 (rows_in X) ∷ (flat X ++ (pos (head R) ∷ (flat Y ++ D))))) =
      ap (λ (l : List ℤ). a ++ (l ++ D))
      (pu.words ∙ ap (λ (l : List ℤ). node 21 (rows_in (X ∩ R)) ∷ (l ++ flat Y)) (pm.words ∙ ap (λ (l : List ℤ). node 20 (rows_in X) ∷ (flat X ++ l)) (flat_leaf R g).0))
      ∙ simp append_assoc in (
        U,
        t,
        record {
          rest = h.ready.held.rest;
          words = o ∙ (λ j. a ++ (node 21 (i j) ∷ (node 20 ((right_at n).0 j) ∷ (flat X ++ (pos (y j) ∷ (flat Y ++ D)))))) ∙ sym q;
          before = h.ready.held.before;
          upto = omega (arith, h.ready.held.upto, sizes, pu.long, pm.long, (flat_leaf R g).1);
          small = pu.made (pm.made inner_small.0 (placed_small h).1) inner_small.1;
          few = placed_few h t;
        },
      )

  -- ---- 7, 8
  module _ (f : head L ≡ 19) where
    abbrev U : Form
    U = like T X R ∪ like T Y R

    takes : Taken T U
    takes = taken_share T h.ready.held.small h.node f g

    pu : Parts U 19 (like T X R) (like T Y R)
    pu = of_union (like T X R) (like T Y R)

    pm : Parts (like T X R) (head T) X R
    pm = of_like T h.ready.held.small (omega (arith, h.node)) X R

    pn : Parts (like T Y R) (head T) Y R
    pn = of_like T h.ready.held.small (omega (arith, h.node)) Y R

    grown : rows_in U ≡ rows_in T + 2
    grown = omega (arith, pu.long, pm.long, pn.long, sizes, (flat_leaf R g).1)

    pub share_in : {first : ℕ} → first ≡ left_words L → (at + 2 + first ≤ right) × (right + 1 ≤ used) × (used + 2 ≤ length w) × (right - at ≤ most_words)
    share_in e = omega (arith, right_at e, sizes, h.place, inner.long, h.ready.held.few, h.ready.held.upto, placed_room h takes, grown)

    pub rule_78 : {v : List ℤ} {first k z n : ℕ} → first ≡ left_words L → k ≡ head T → z ≡ head R → ShareTo w v at first right k (pos z) used n
        → Rewritten v at n a T c
    rule_78 {v} {first} {k} {z} {n} m κ y l =
        let rest : List ℤ = h.ready.held.rest in
        let D : List ℤ = drop 2 rest in
        let o = l a (flat X) (flat Y) c rest (node (head T) (rows_in L)) (node (head L) (rows_in X))
        (spread ∙ ap (λ (i : ℕ). a ++ (node (head T) (rows_in L) ∷ (node (head L) (rows_in X) ∷ (flat X ++ (flat Y ++ (pos i ∷ (c ++ rest))))))) (sym y)) h.ready.held.before
        (length_flat X ∙ sym (right_at m).0) (ap (λ (i : ℕ). at + 2 + first + i) (length_flat Y) ∙ (right_at m).1)
        (omega (arith, h.place, inner.long, sizes, h.ready.held.upto)) in
        let i : first + 2 ≡ rows_in (like T X R) = omega (arith, right_at m, pm.long, (flat_leaf R g).1) in
        let q : a ++ (flat U ++ (c ++ D))
        ≡ a ++ (node 19 (rows_in (like T X R)) ∷ (node (head T) (rows_in X) ∷ (flat X ++ (pos (head R) ∷ (node (head T) (rows_in Y) ∷ (flat Y ++ (pos (head R) ∷ (c ++ D)))))))) =
        ap (λ (l : List ℤ). a ++ (l ++ (c ++ D)))
        (pu.words ∙ ap₂ (λ (k l : List ℤ). node 19 (rows_in (like T X R)) ∷ (k ++ l))
        (pm.words ∙ ap (λ (l : List ℤ). node (head T) (rows_in X) ∷ (flat X ++ l)) (flat_leaf R g).0)
        (pn.words ∙ ap (λ (l : List ℤ). node (head T) (rows_in Y) ∷ (flat Y ++ l)) (flat_leaf R g).0))
        ∙ simp append_assoc in (
          U,
          takes,
          record {
            rest = D;
            words =
                o.1
                ∙ (λ j. a ++ (node 19 (i j) ∷ (node (κ j) ((right_at m).0 j)
                ∷ (flat X ++ (pos (y j) ∷ (node (κ j) (length_flat Y j) ∷ (flat Y ++ (pos (y j) ∷ (c ++ D)))))))))
                ∙ sym q;
            before = h.ready.held.before;
            upto = omega (arith, o.0, grown, h.ready.held.upto);
            small = pu.made (pm.made inner_small.0 (placed_small h).1) (pn.made inner_small.1 (placed_small h).1);
            few = placed_few h takes;
          },
        )
