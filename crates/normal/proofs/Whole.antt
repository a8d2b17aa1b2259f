-- The procedure's repeat: what a turn of it leaves, what falls, and how it ends. Assumes nothing.
use Prim.Native.Nat.{ℕ, ◌+◌, ◌-◌, ◌*◌, ◌≤◌, ◌<◌, max}
use mathlib.Core.Bool.{Bool, true, false}
use mathlib.Core.List.{List, [], ◌∷◌, ◌++◌}
use mathlib.Core.Option.{none}
use mathlib.Core.Path.{◌≡◌, refl, sym, ap, subst, ◌∙◌}
use native.Mathlib.Nat.{le_refl, mul-le-mul_right}
use native.Mathlib.Omega.{arith}
use lib.IntN.{ℤ, pos}
use lib.ListN.{length, length-append, get_or, set}
use lib.Seq.{set_at, get_or_at, append_snoc}
use Rattle.rules.specs.Form.{Form, leaf, ◌∪◌, ◌∩◌, ◌∖◌}
use Rattle.rules.specs.Procedure.{is_union, lowest, normalize}
use Rattle.rules.specs.TreeRows.{rows_in}
use Rattle.paper.specs.Measures.{weight, fitting, high}
use Rattle.paper.specs.Runs.{Cutting, meet, less, by}
use Rattle.paper.proofs.Ending.{normalize_runs, normalize_leaf, normalize_union, normalize_again, normalize_done, fit_le}
use Rattle.paper.proofs.Rows.{rows_leaves}
use Rattle.paper.proofs.Running.{runs_leaves, runs_weight, runs_high}
use Rattle.paper.proofs.Taking.{weight_two}
use Rattle.moves.specs.Moves.{most_words, node}
use Rattle.normal.specs.Prefix.{flat, head, left_words, left_of, right_of, Small, Lies}
use Rattle.normal.specs.Held.{Held, Ready, Leads, Stopped, Reduced, Widens, Widened, AgainAt, Normalized, goes_on}
use Rattle.normal.proofs.Words.{length_flat, Parts, of_union, parts_of, like, of_like, as_leaf, small_parts, head_le, left_words_rows}
use Rattle.normal.proofs.Words.{lies_in, held_lies, held_left, held_right, from_left, from_right}
use Rattle.normal.proofs.Reading.{tree_at, lies_tree}

-- ---- the test
pub goes_no : (T : Form) → is_union T ≡ true → false ≡ goes_on T
unfolding is_union
goes_no (leaf i) e = cc
goes_no (X ∪ Y) e = refl
goes_no (X ∩ Y) e = cc
goes_no (X ∖ Y) e = cc

pub goes_left : (T : Form) → Small T → 16 ≤ head T → is_union T ≡ false → is_union (left_of T) ≡ goes_on T
unfolding head left_of is_union Small
goes_left (leaf i) s k e = absurd (omega arith)
goes_left (X ∪ Y) s k e = cc
goes_left (X ∩ Y) s k e = refl
goes_left (X ∖ Y) s k e = refl

-- ---- a tree of which the left part is normalized
abbrev pub settled : Form → Form
settled T = like T (normalize (left_of T)) (right_of T)

-- what the end makes of it
unfoldable pub last : Form → Form
last (leaf i) = leaf i
last (X ∪ Y) = X ∪ normalize Y
last (X ∩ Y) = X ∩ Y
last (X ∖ Y) = X ∖ Y

-- the procedure goes on with U, or it has ended with it
abbrev pub Stage : Form → Form → Bool → Type 0
Stage T U true = normalize U ≡ normalize T
Stage T U false = last U ≡ normalize T

-- where no rule fits an intersection or a difference, the right part is a primitive
right_leaf : (o : Cutting) (X Y : Form) → lowest (by o X Y) ≡ none → (i : ℕ) × (Y ≡ leaf i)
unfolding lowest
right_leaf o X (leaf i) e = (i, refl)
right_leaf meet X (A ∪ B) e = absurd (let z : ◌≡◌ {A = ℕ} 0 1 = cc in omega arith)
right_leaf meet X (A ∩ B) e = absurd (let z : ◌≡◌ {A = ℕ} 0 1 = cc in omega arith)
right_leaf meet X (A ∖ B) e = absurd (let z : ◌≡◌ {A = ℕ} 0 1 = cc in omega arith)
right_leaf less X (A ∪ B) e = absurd (let z : ◌≡◌ {A = ℕ} 0 1 = cc in omega arith)
right_leaf less X (A ∩ B) e = absurd (let z : ◌≡◌ {A = ℕ} 0 1 = cc in omega arith)
right_leaf less X (A ∖ B) e = absurd (let z : ◌≡◌ {A = ℕ} 0 1 = cc in omega arith)

-- it ends where the left part comes to no union
last_cut : (o : Cutting) (M : Form) (i : ℕ) → last (by o M (leaf i)) ≡ by o M (leaf i)
unfolding last
last_cut meet M i = refl
last_cut less M i = refl

stage_done : (o : Cutting) (X M : Form) (i : ℕ) → lowest (by o X (leaf i)) ≡ none → normalize X ≡ M → is_union M ≡ false
    → last (by o M (leaf i)) ≡ normalize (by o X (leaf i))
stage_done o X M i e n u =
    last_cut o M i ∙ sym (normalize_done o X i e (ap is_union n ∙ u) ∙ ap (λ (N : Form). by o N (leaf i)) n)

stage_leaf : (o : Cutting) (X M : Form) (i : ℕ) → lowest (by o X (leaf i)) ≡ none → normalize X ≡ M → Stage (by o X (leaf i)) (by o M (leaf i)) (is_union M)
unfolding is_union
stage_leaf o X (leaf j) i e n = stage_done o X (leaf j) i e n refl
stage_leaf o X (A ∪ B) i e n = sym (normalize_again o X A B i e n)
stage_leaf o X (A ∩ B) i e n = stage_done o X (A ∩ B) i e n refl
stage_leaf o X (A ∖ B) i e n = stage_done o X (A ∖ B) i e n refl

stage_cut : (o : Cutting) (X Y : Form) → lowest (by o X Y) ≡ none → Stage (by o X Y) (by o (normalize X) Y) (is_union (normalize X))
stage_cut o X Y e =
    let i = right_leaf o X Y e in
    subst (λ (S : Form). Stage (by o X S) (by o (normalize X) S) (is_union (normalize X))) (sym i.1)
    (stage_leaf o X (normalize X) i.0 (subst (λ (S : Form). lowest (by o X S) ≡ none) i.1 e) refl)

pub stage_of : (T : Form) → Small T → 16 ≤ head T → lowest T ≡ none → Stage T (settled T) (goes_on (settled T))
unfolding head left_of right_of like last Small
stage_of (leaf i) s k e = absurd (omega arith)
stage_of (X ∪ Y) s k e = sym (normalize_union X Y)
stage_of (X ∩ Y) s k e = stage_cut meet X Y e
stage_of (X ∖ Y) s k e = stage_cut less X Y e

-- ---- room: the tree with its left part normalized has no more words than the last one
rows_last : (U : Form) → rows_in U ≤ rows_in (last U)
unfolding rows_in last
rows_last (leaf i) = le_refl 1
rows_last (X ∪ Y) = omega (arith, runs_leaves (normalize_runs Y), rows_leaves Y, rows_leaves (normalize Y))
rows_last (X ∩ Y) = le_refl (1 + rows_in X + rows_in Y)
rows_last (X ∖ Y) = le_refl (1 + rows_in X + rows_in Y)

pub rows_stage : (T U : Form) (b : Bool) → Stage T U b → rows_in U ≤ rows_in (normalize T)
rows_stage T U true e = omega (arith, ap rows_in e, runs_leaves (normalize_runs U), rows_leaves U, rows_leaves (normalize U))
rows_stage T U false e = omega (arith, ap rows_in e, rows_last U)

-- ---- depth
high_left : (T : Form) → Small T → 16 ≤ head T → high (left_of T) true < high T true
unfolding head left_of high Small
high_left (leaf i) s k = absurd (omega arith)
high_left (X ∪ Y) s k = omega arith
high_left (X ∩ Y) s k = omega arith
high_left (X ∖ Y) s k = omega arith

high_settled : (T : Form) → high (settled T) true ≡ high T true
unfolding left_of right_of like high
high_settled (leaf i) = refl
high_settled (X ∪ Y) = ap (λ (n : ℕ). 1 + max n (high Y true)) (sym (runs_high (normalize_runs X)))
high_settled (X ∩ Y) = ap (λ (n : ℕ). 1 + n + high Y true) (sym (runs_high (normalize_runs X)))
high_settled (X ∖ Y) = ap (λ (n : ℕ). 1 + n + high Y false) (sym (runs_high (normalize_runs X)))

-- ---- weight
weight_settled : (T : Form) → weight (settled T) true ≤ weight T true
unfolding left_of right_of like weight
weight_settled (leaf i) = le_refl 2
weight_settled (X ∪ Y) = omega (arith, runs_weight (normalize_runs X))
weight_settled (X ∩ Y) = mul-le-mul_right (weight Y true) (omega (arith, runs_weight (normalize_runs X)))
weight_settled (X ∖ Y) = mul-le-mul_right (weight Y false) (omega (arith, runs_weight (normalize_runs X)))

-- where the repeat goes on, a rule fits
fits_leaf : (o : Cutting) (M : Form) (i : ℕ) → is_union M ≡ true → fitting (lowest (by o M (leaf i))) ≡ 1
unfolding is_union lowest fitting
fits_leaf o (leaf j) i e = absurd (let z : ◌≡◌ {A = ℕ} 0 1 = cc in omega arith)
fits_leaf meet (A ∪ B) i e = refl
fits_leaf less (A ∪ B) i e = refl
fits_leaf o (A ∩ B) i e = absurd (let z : ◌≡◌ {A = ℕ} 0 1 = cc in omega arith)
fits_leaf o (A ∖ B) i e = absurd (let z : ◌≡◌ {A = ℕ} 0 1 = cc in omega arith)

fits_cut : (o : Cutting) (X Y : Form) → lowest (by o X Y) ≡ none → is_union (normalize X) ≡ true → fitting (lowest (by o (normalize X) Y)) ≡ 1
fits_cut o X Y e u =
    let i = right_leaf o X Y e in
    subst (λ (S : Form). fitting (lowest (by o (normalize X) S)) ≡ 1) (sym i.1) (fits_leaf o (normalize X) i.0 u)

fits_again : (T : Form) → lowest T ≡ none → goes_on (settled T) ≡ true → fitting (lowest (settled T)) ≡ 1
unfolding left_of right_of like
fits_again (leaf i) e g = absurd (let z : ◌≡◌ {A = ℕ} 0 1 = cc in omega arith)
fits_again (X ∪ Y) e g = absurd (let z : ◌≡◌ {A = ℕ} 0 1 = cc in omega arith)
fits_again (X ∩ Y) e g = fits_cut meet X Y e g
fits_again (X ∖ Y) e g = fits_cut less X Y e g

abbrev pub urge : Form → ℕ
urge T = 2 * weight T true - fitting (lowest T)

urge_falls : (U T : Form) → Leads U T → lowest T ≡ none → goes_on (settled T) ≡ true → urge (settled T) < urge U
unfolding fitting
urge_falls U T l o e =
    let f : fitting (lowest T) ≡ 0 = ap fitting o in
    omega (arith, fits_again T o e, weight_settled T, l.down, fit_le (lowest U), weight_two T true)

head_like : (T X Y : Form) → head (like T X Y) ≡ head T
unfolding head like
head_like (leaf i) X Y = refl
head_like (A ∪ B) X Y = refl
head_like (A ∩ B) X Y = refl
head_like (A ∖ B) X Y = refl

-- ---- a turn, on the words
pub record Onward (w : List ℤ) (at n : ℕ) (a : List ℤ) (T : Form) (c : List ℤ) (going : Bool) : Type 0 where
  pub tree : Form
  pub held : Held w at n a tree c
  pub node : 16 ≤ head tree
  pub deep : high tree true ≡ high T true
  pub stage : Stage T tree going

pub onward_first : {w : List ℤ} {at n : ℕ} {a : List ℤ} {T : Form} {c : List ℤ} → Held w at n a T c → 16 ≤ head T → Onward w at n a T c true
onward_first {T = T} h k = record { tree = T; held = h; node = k; deep = refl; stage = refl }

pub onward_ready : {w₀ w : List ℤ} {at used n : ℕ} {a : List ℤ} {T : Form} {c : List ℤ} → Ready w₀ at used a T c → length w ≡ length w₀
    → (o : Onward w at n a T c true) → Ready w at n a o.tree c
onward_ready {w₀} {w} {at} {used} {n} {a} {T} {c} r e o =
    record { held = o.held; room = omega (arith, r.room, ap rows_in o.stage); most = omega (arith, r.most, ap rows_in o.stage) }

-- the left part is ready
module _ {w : List ℤ} {at n : ℕ} {a : List ℤ} {U : Form} {c : List ℤ} (s : Stopped w at n a U c) (k : 16 ≤ head U) where
  abbrev X : Form
  X = left_of s.tree

  abbrev Y : Form
  Y = right_of s.tree

  stopped_node : 16 ≤ head s.tree
  stopped_node = s.leads.node k

  stopped_parts : Parts s.tree (head s.tree) X Y
  stopped_parts = parts_of s.tree s.held.small stopped_node

  settled_parts : Parts (settled s.tree) (head s.tree) (normalize X) Y
  settled_parts = of_like s.tree s.held.small stopped_node (normalize X) Y

  -- the settled tree is no larger than the last one
  settled_rows : rows_in (settled s.tree) ≤ rows_in (normalize U)
  settled_rows =
      omega (arith, ap rows_in s.leads.same, rows_stage s.tree (settled s.tree) (goes_on (settled s.tree)) (stage_of s.tree s.held.small stopped_node s.ends))

  abbrev pub left_before : List ℤ
  left_before = a ++ (node (head s.tree) (rows_in X) ∷ [])

  abbrev pub left_after : List ℤ
  left_after = flat Y ++ c

  pub left_ready : {w₀ : List ℤ} {used : ℕ} → Ready w₀ at used a U c → length w ≡ length w₀ → Ready w (at + 1) n left_before X left_after
  left_ready r e = record {
    held = held_left stopped_parts s.held;
    room = omega (arith, r.room, settled_rows, settled_parts.long, length-append (flat Y) c, length_flat Y);
    most = omega (arith, r.most, settled_rows, settled_parts.long);
  }

  pub left_lower : {d : ℕ} → high U true ≡ d → high (tree_at w (at + 1)) true < d
  left_lower e =
      omega (arith, e, ap (λ (T : Form). high T true) (lies_tree (held_lies (held_left stopped_parts s.held))), high_left s.tree s.held.small stopped_node, s.leads.deep)

  -- ---- and after it: the node's word still has the words that the left part had
  module _ {v : List ℤ} {m : ℕ} (h : Held v (at + 1) m left_before (normalize X) left_after) where
    pub left_grows : (n ≤ m) × (rows_in X + (m - n) ≡ rows_in (normalize X))
    left_grows =
        omega (arith, h.upto, s.held.upto, stopped_parts.long, length-append (flat Y) c, length_flat Y, runs_leaves (normalize_runs X), rows_leaves X, rows_leaves (normalize X))

    abbrev old : ℕ
    old = head s.tree + 32 * rows_in X

    abbrev tail : List ℤ
    tail = flat (normalize X) ++ (left_after ++ h.rest)

    stands : v ≡ a ++ (pos old ∷ tail)
    stands = h.words ∙ append_snoc a (pos old) tail

    pub old_word : get_or v at (pos 0) ≡ pos old
    old_word = ap (λ (l : List ℤ). get_or l at (pos 0)) stands ∙ get_or_at a (pos old) tail (pos 0) at s.held.before

    new_word : old + 32 * (m - n) ≡ head s.tree + 32 * rows_in (normalize X)
    new_word = omega (arith, left_grows)

    pub left_widens : at < length v → rows_in (settled s.tree) ≤ most_words → Widens v at (m - n)
    left_widens l f = (l, (old, old_word, omega (arith, new_word, head_le s.tree s.held.small, settled_parts.long)))

    pub left_done : {u : List ℤ} → rows_in (settled s.tree) ≤ most_words → Widened v u at (m - n) → Held u at m a (settled s.tree) c
    left_done {u} f wide =
        let e : u ≡ (a ++ (node (head s.tree) (rows_in (normalize X)) ∷ [])) ++ tail =
        wide old old_word (omega (arith, head_le s.tree s.held.small, stopped_parts.long, s.held.few))
        ∙ ap (λ (l : List ℤ). set l at (pos (old + 32 * (m - n)))) stands ∙ set_at a (pos old) tail (pos (old + 32 * (m - n))) at s.held.before
        ∙ ap (λ (i : ℕ). a ++ (pos i ∷ tail)) new_word ∙ sym (append_snoc a (node (head s.tree) (rows_in (normalize X))) tail) in
        from_left settled_parts (small_parts s.tree s.held.small).1 f s.held.before (record {
          rest = h.rest;
          words = e;
          before = omega (arith, length-append a (node (head s.tree) (rows_in (normalize X)) ∷ []), s.held.before);
          upto = h.upto;
          small = h.small;
          few = h.few;
        })

  pub settled_few : {w₀ : List ℤ} {used : ℕ} → Ready w₀ at used a U c → rows_in (settled s.tree) ≤ most_words
  settled_few r = omega (arith, r.most, settled_rows)

  pub settled_node : 16 ≤ head (settled s.tree)
  settled_node = omega (arith, head_like s.tree (normalize X) Y, stopped_node)

  pub onward_next : {v : List ℤ} {m : ℕ} {T : Form} {b : Bool} → normalize U ≡ normalize T → high U true ≡ high T true → Held v at m a (settled s.tree) c
      → b ≡ goes_on (settled s.tree) → Onward v at m a T c b
  onward_next {v} {m} {T} {b} e d h g = record {
    tree = settled s.tree;
    held = h;
    node = settled_node;
    deep = high_settled s.tree ∙ s.leads.deep ∙ d;
    stage = subst (λ (x : Bool). Stage T (settled s.tree) x) (sym g)
        (on (goes_on (settled s.tree)) (stage_of s.tree s.held.small stopped_node s.ends));
  }
    where
      on : (x : Bool) → Stage s.tree (settled s.tree) x → Stage T (settled s.tree) x
      on true z = z ∙ s.leads.same ∙ e
      on false z = z ∙ s.leads.same ∙ e

  pub onward_falls : {w₀ v : List ℤ} {m : ℕ} → Lies w₀ at U → Held v at m a (settled s.tree) c → goes_on (settled s.tree) ≡ true
      → urge (tree_at v at) < urge (tree_at w₀ at)
  onward_falls {w₀} {v} {m} l h g =
      subst (λ (T : Form). urge (tree_at v at) < urge T) (sym (lies_tree l))
      (subst (λ (T : Form). urge T < urge U) (sym (lies_tree (held_lies h))) (urge_falls U s.tree s.leads s.ends g))

-- a turn: what its calls promise, one after the other
module _ {w₀ w u : List ℤ} {at used n m : ℕ} {a : List ℤ} {T : Form} {c : List ℤ} (r : Ready w₀ at used a T c) (o : Onward w at n a T c true)
    (e : length w ≡ length w₀) (reduces : Reduced w u at n m) where
  pub stopped : Stopped u at m a o.tree c
  stopped = reduces a o.tree c (onward_ready r e o)

  module _ (f : length u ≡ length w) where
    pub left_in : Ready u (at + 1) m (left_before stopped o.node) (left_of stopped.tree) (left_after stopped o.node)
    left_in = left_ready stopped o.node (onward_ready r e o) f

    few : rows_in (settled stopped.tree) ≤ most_words
    few = settled_few stopped o.node (onward_ready r e o)

    module _ {v : List ℤ} {l : ℕ} (left : Normalized u v (at + 1) m l) where
      left_held : Held v (at + 1) l (left_before stopped o.node) (normalize (left_of stopped.tree)) (left_after stopped o.node)
      left_held = left (left_before stopped o.node) (left_of stopped.tree) (left_after stopped o.node) left_in

      pub grown : m ≤ l
      grown = (left_grows stopped o.node left_held).0

      pub widens : length v ≡ length u → Widens v at (l - m)
      widens g = left_widens stopped o.node left_held (omega (arith, lies_in (held_lies r.held))) few

      module _ {x : List ℤ} (wide : Widened v x at (l - m)) where
        pub held_in : Held x at l a (settled stopped.tree) c
        held_in = left_done stopped o.node left_held few wide

        module _ {b : Bool} (test : AgainAt x at b) where
          goes : b ≡ goes_on (settled stopped.tree)
          goes = test (settled stopped.tree) (held_lies held_in) (settled_node stopped o.node)

          pub falls : b ≡ true → urge (tree_at x at) < urge (tree_at w at)
          falls k = onward_falls stopped o.node (held_lies o.held) held_in (sym goes ∙ k)

          pub onward : (k : Bool) → b ≡ k → Onward x at l a T c k
          onward k h = onward_next stopped o.node o.stage o.deep held_in (sym h ∙ goes)

-- ---- the end
pub normal_leaf : {w : List ℤ} {at n : ℕ} {a : List ℤ} {T : Form} {c : List ℤ} → head T < 16 → Held w at n a T c → Held w at n a (normalize T) c
normal_leaf {w} {at} {n} {a} {T} {c} k h =
    let e : normalize T ≡ T = ap normalize (as_leaf T k) ∙ normalize_leaf (head T) ∙ sym (as_leaf T k) in
    subst (λ (N : Form). Held w at n a N c) (sym e) h

last_other : (U : Form) → is_union U ≡ false → last U ≡ U
unfolding is_union last
last_other (leaf i) e = refl
last_other (X ∪ Y) e = cc
last_other (X ∩ Y) e = refl
last_other (X ∖ Y) e = refl

pub end_other : {w : List ℤ} {at n : ℕ} {a : List ℤ} {T : Form} {c : List ℤ} → (o : Onward w at n a T c false) → is_union o.tree ≡ false
    → Held w at n a (normalize T) c
end_other {w} {at} {n} {a} {T} {c} o k = subst (λ (N : Form). Held w at n a N c) (sym (last_other o.tree k) ∙ o.stage) o.held

last_union : (U : Form) → Small U → head U ≡ 19 → last U ≡ left_of U ∪ normalize (right_of U)
unfolding head last left_of right_of Small
last_union (leaf i) s h = absurd (omega arith)
last_union (X ∪ Y) s h = refl
last_union (X ∩ Y) s h = absurd (omega arith)
last_union (X ∖ Y) s h = absurd (omega arith)

high_right : (T : Form) → Small T → head T ≡ 19 → high (right_of T) true < high T true
unfolding head right_of high Small
high_right (leaf i) s k = absurd (omega arith)
high_right (X ∪ Y) s k = omega arith
high_right (X ∩ Y) s k = absurd (omega arith)
high_right (X ∖ Y) s k = absurd (omega arith)

module _ {w : List ℤ} {at n : ℕ} {a : List ℤ} {T : Form} {c : List ℤ} (o : Onward w at n a T c false) (k : head o.tree ≡ 19) where
  abbrev A : Form
  A = left_of o.tree

  abbrev B : Form
  B = right_of o.tree

  the_end : A ∪ normalize B ≡ normalize T
  the_end = sym (last_union o.tree o.held.small k) ∙ o.stage

  end_parts : Parts o.tree (head o.tree) A B
  end_parts = parts_of o.tree o.held.small o.node

  whole : Parts (A ∪ normalize B) 19 A (normalize B)
  whole = of_union A (normalize B)

  abbrev pub right_before : List ℤ
  right_before = a ++ (node (head o.tree) (rows_in A) ∷ flat A)

  -- where it stands, by the words of the left part
  module _ {first : ℕ} (f : first ≡ left_words o.tree) where
    place : at + 1 + first ≡ at + 1 + rows_in A
    place = ap (λ (j : ℕ). at + 1 + j) (f ∙ left_words_rows o.tree o.held.small o.node)

    right_held : Held w (at + 1 + first) n right_before B c
    right_held = subst (λ (j : ℕ). Held w j n right_before B c) (sym place) (held_right end_parts o.held)

    pub right_ready : {w₀ : List ℤ} {used : ℕ} → Ready w₀ at used a T c → length w ≡ length w₀ → Ready w (at + 1 + first) n right_before B c
    right_ready r e = record {
      held = right_held;
      room = omega (arith, r.room, ap rows_in the_end, whole.long, place);
      most = omega (arith, r.most, ap rows_in the_end, whole.long);
    }

    pub right_lower : {d : ℕ} → high T true ≡ d → high (tree_at w (at + 1 + first)) true < d
    right_lower e = omega (arith, e, ap (λ (S : Form). high S true) (lies_tree (held_lies right_held)), high_right o.tree o.held.small k, o.deep)

    pub right_done : {w₀ v : List ℤ} {used m : ℕ} → Ready w₀ at used a T c → Held v (at + 1 + first) m right_before (normalize B) c → Held v at m a (normalize T) c
    right_done {w₀} {v} {used} {m} r h =
        subst (λ (N : Form). Held v at m a N c) the_end
        (from_right whole (small_parts o.tree o.held.small).0 (omega (arith, r.most, ap rows_in the_end)) o.held.before
        (subst (λ (j : ℕ). Held v j m (a ++ (node 19 (rows_in A) ∷ flat A)) (normalize B) c) place
        (subst (λ (j : ℕ). Held v (at + 1 + first) m (a ++ (node j (rows_in A) ∷ flat A)) (normalize B) c) k h)))
