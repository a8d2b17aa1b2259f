-- Words and trees: what a node's word tells, and where the parts of a node stand in the work area. Assumes nothing.
use Prim.Native.Nat.{ℕ, ◌+◌, ◌*◌, ◌/◌, ◌%◌, ◌≤◌, ◌<◌}
use mathlib.Core.Bool.{true}
use mathlib.Core.List.{List, [], ◌∷◌, ◌++◌, append_assoc}
use mathlib.Core.Path.{◌≡◌, refl, sym, ap, subst, ◌∙◌}
use native.Mathlib.Nat.{add-zero, mod-eq_of_lt, div-eq_of_lt, add-mul-mod_self_left, add-mul-div_left, zero-add}
use native.Mathlib.Omega.{arith}
use lib.IntN.{ℤ, pos}
use lib.ListN.{length, length-append, drop, get_or}
use lib.Seq.{drop_at}
use Rattle.rules.specs.Form.{Form, leaf, ◌∪◌, ◌∩◌, ◌∖◌}
use Rattle.rules.specs.Procedure.{is_union, normalize}
use Rattle.rules.specs.TreeRows.{rows_in}
use Rattle.paper.specs.Runs.{Taken}
use Rattle.paper.proofs.Ending.{normalize_runs, normalize_step}
use Rattle.paper.proofs.Rows.{rows_leaves, cons_at, past}
use Rattle.paper.proofs.Running.{runs_leaves}
use Rattle.moves.specs.declared.Operation.{Operation}
use Rattle.moves.specs.declared.Operation.TheVariants.{Union, Inter, Diff}
use Rattle.moves.specs.Moves.{most_words, node, operation_number}
use Rattle.normal.specs.declared.Top.TheVariants.{Primitive, Node}
use Rattle.normal.specs.Prefix.{top, has_top, flat, head, left_words, left_of, right_of, Small, Lies}
use Rattle.normal.specs.Held.{Held, Placed}

pub length_flat : (T : Form) → length (flat T) ≡ rows_in T
unfolding flat rows_in
length_flat (leaf i) = refl
length_flat (X ∪ Y) = omega (arith, length-append (flat X) (flat Y), length_flat X, length_flat Y)
length_flat (X ∩ Y) = omega (arith, length-append (flat X) (flat Y), length_flat X, length_flat Y)
length_flat (X ∖ Y) = omega (arith, length-append (flat X) (flat Y), length_flat X, length_flat Y)

-- ---- a node's operation and its two parts
pub record Parts (T : Form) (k : ℕ) (X Y : Form) : Type 0 where
  pub words : flat T ≡ node k (rows_in X) ∷ (flat X ++ flat Y)
  pub long : rows_in T ≡ 1 + rows_in X + rows_in Y
  pub small : Small T → Small X × Small Y
  pub made : Small X → Small Y → Small T

pub of_union : (X Y : Form) → Parts (X ∪ Y) 19 X Y
unfolding flat rows_in Small
of_union X Y = record { words = refl; long = refl; small = λ s. s; made = λ x y. (x, y) }

pub of_inter : (X Y : Form) → Parts (X ∩ Y) 20 X Y
unfolding flat rows_in Small
of_inter X Y = record { words = refl; long = refl; small = λ s. s; made = λ x y. (x, y) }

pub of_diff : (X Y : Form) → Parts (X ∖ Y) 21 X Y
unfolding flat rows_in Small
of_diff X Y = record { words = refl; long = refl; small = λ s. s; made = λ x y. (x, y) }

pub parts_of : (T : Form) → Small T → 16 ≤ head T → Parts T (head T) (left_of T) (right_of T)
unfolding head left_of right_of Small
parts_of (leaf i) s h = absurd (omega arith)
parts_of (X ∪ Y) s h = of_union X Y
parts_of (X ∩ Y) s h = of_inter X Y
parts_of (X ∖ Y) s h = of_diff X Y

-- the same operation on other parts
unfoldable pub like : Form → Form → Form → Form
like (leaf i) X Y = leaf i
like (A ∪ B) X Y = X ∪ Y
like (A ∩ B) X Y = X ∩ Y
like (A ∖ B) X Y = X ∖ Y

pub of_like : (T : Form) → Small T → 16 ≤ head T → (X Y : Form) → Parts (like T X Y) (head T) X Y
unfolding head like Small
of_like (leaf i) s h X Y = absurd (omega arith)
of_like (A ∪ B) s h X Y = of_union X Y
of_like (A ∩ B) s h X Y = of_inter X Y
of_like (A ∖ B) s h X Y = of_diff X Y

-- ---- a tree from what its node is
pub as_leaf : (T : Form) → head T < 16 → T ≡ leaf (head T)
unfolding head
as_leaf (leaf i) h = refl
as_leaf (X ∪ Y) h = absurd (omega arith)
as_leaf (X ∩ Y) h = absurd (omega arith)
as_leaf (X ∖ Y) h = absurd (omega arith)

pub flat_leaf : (T : Form) → head T < 16 → (flat T ≡ pos (head T) ∷ []) × (rows_in T ≡ 1)
unfolding flat rows_in head
flat_leaf (leaf i) h = (refl, refl)
flat_leaf (X ∪ Y) h = absurd (omega arith)
flat_leaf (X ∩ Y) h = absurd (omega arith)
flat_leaf (X ∖ Y) h = absurd (omega arith)

pub as_union : (T : Form) → Small T → head T ≡ 19 → T ≡ left_of T ∪ right_of T
unfolding head left_of right_of Small
as_union (leaf i) s h = absurd (omega arith)
as_union (X ∪ Y) s h = refl
as_union (X ∩ Y) s h = absurd (omega arith)
as_union (X ∖ Y) s h = absurd (omega arith)

pub as_inter : (T : Form) → Small T → head T ≡ 20 → T ≡ left_of T ∩ right_of T
unfolding head left_of right_of Small
as_inter (leaf i) s h = absurd (omega arith)
as_inter (X ∪ Y) s h = absurd (omega arith)
as_inter (X ∩ Y) s h = refl
as_inter (X ∖ Y) s h = absurd (omega arith)

pub as_diff : (T : Form) → Small T → head T ≡ 21 → T ≡ left_of T ∖ right_of T
unfolding head left_of right_of Small
as_diff (leaf i) s h = absurd (omega arith)
as_diff (X ∪ Y) s h = absurd (omega arith)
as_diff (X ∩ Y) s h = absurd (omega arith)
as_diff (X ∖ Y) s h = refl

pub head_le : (T : Form) → Small T → head T ≤ 21
unfolding head Small
head_le (leaf i) s = omega arith
head_le (X ∪ Y) s = omega arith
head_le (X ∩ Y) s = omega arith
head_le (X ∖ Y) s = omega arith

-- which number no node has
pub head_gap : (T : Form) → Small T → 16 ≤ head T → 19 ≤ head T
unfolding head Small
head_gap (leaf i) s h = absurd (omega arith)
head_gap (X ∪ Y) s h = omega arith
head_gap (X ∩ Y) s h = omega arith
head_gap (X ∖ Y) s h = omega arith

-- ---- the same, from what stands at its root
pub number_le : (o : Operation) → (19 ≤ operation_number o) × (operation_number o ≤ 21)
number_le Union = omega arith
number_le Inter = omega arith
number_le Diff = omega arith

pub node_head : (T : Form) (o : Operation) → head T ≡ operation_number o → 16 ≤ head T
node_head T o e = omega (arith, number_le o)

pub top_primitive : (T : Form) → Small T → {i : ℕ} → Primitive i ≡ top T → (head T ≡ i) × (i < 16)
unfolding head Small
top_primitive (leaf j) s {i} e = let f : i ≡ j = cc in (sym f, omega arith)
top_primitive (X ∪ Y) s e = cc
top_primitive (X ∩ Y) s e = cc
top_primitive (X ∖ Y) s e = cc

pub top_node : (T : Form) {o : Operation} → Node o ≡ top T → head T ≡ operation_number o
unfolding head
top_node (leaf j) e = cc
top_node (X ∪ Y) {o} e = let f : Union ≡ o = cc in ap operation_number f
top_node (X ∩ Y) {o} e = let f : Inter ≡ o = cc in ap operation_number f
top_node (X ∖ Y) {o} e = let f : Diff ≡ o = cc in ap operation_number f

-- and what stands there, from its number
pub node_top : (T : Form) → Small T → {n : ℕ} (o : Operation) → n ≡ operation_number o → n ≡ head T → Node o ≡ top T
unfolding head Small
node_top (leaf i) s o e f = absurd (omega (arith, number_le o))
node_top (X ∪ Y) s Union e f = refl
node_top (X ∪ Y) s Inter e f = absurd (omega arith)
node_top (X ∪ Y) s Diff e f = absurd (omega arith)
node_top (X ∩ Y) s Union e f = absurd (omega arith)
node_top (X ∩ Y) s Inter e f = refl
node_top (X ∩ Y) s Diff e f = absurd (omega arith)
node_top (X ∖ Y) s Union e f = absurd (omega arith)
node_top (X ∖ Y) s Inter e f = absurd (omega arith)
node_top (X ∖ Y) s Diff e f = refl

pub primitive_top : (T : Form) {n : ℕ} → ((o : Operation) → n ≡ operation_number o → ⊥) → n ≡ head T → Primitive n ≡ top T
unfolding head
primitive_top (leaf i) n f = ap Primitive f
primitive_top (X ∪ Y) n f = absurd (n Union f)
primitive_top (X ∩ Y) n f = absurd (n Inter f)
primitive_top (X ∖ Y) n f = absurd (n Diff f)

pub union_is : (T : Form) → has_top Union T ≡ is_union T
unfolding is_union
union_is (leaf i) = refl
union_is (X ∪ Y) = refl
union_is (X ∩ Y) = refl
union_is (X ∖ Y) = refl

pub union_head : (T : Form) → is_union T ≡ true → head T ≡ 19
unfolding head is_union
union_head (leaf i) e = cc
union_head (X ∪ Y) e = refl
union_head (X ∩ Y) e = cc
union_head (X ∖ Y) e = cc

pub small_parts : (T : Form) → Small T → Small (left_of T) × Small (right_of T)
unfolding Small left_of right_of
small_parts (leaf i) s = (s, s)
small_parts (X ∪ Y) s = s
small_parts (X ∩ Y) s = s
small_parts (X ∖ Y) s = s

-- ---- what a node's word tells
abbrev pub word_of : Form → ℕ
word_of T = head T + 32 * left_words T

pub left_words_rows : (T : Form) → Small T → 16 ≤ head T → left_words T ≡ rows_in (left_of T)
unfolding head left_words left_of Small
left_words_rows (leaf i) s h = absurd (omega arith)
left_words_rows (X ∪ Y) s h = refl
left_words_rows (X ∩ Y) s h = refl
left_words_rows (X ∖ Y) s h = refl

left_fewer : (T : Form) → left_words T ≤ rows_in T
unfolding left_words rows_in
left_fewer (leaf i) = omega arith
left_fewer (X ∪ Y) = omega arith
left_fewer (X ∩ Y) = omega arith
left_fewer (X ∖ Y) = omega arith

head_words : (T : Form) → (l : List ℤ) × (flat T ≡ pos (word_of T) ∷ l)
unfolding flat head left_words
head_words (leaf i) = ([], ap (λ (n : ℕ). pos n ∷ []) (sym (add-zero i)))
head_words (X ∪ Y) = (flat X ++ flat Y, refl)
head_words (X ∩ Y) = (flat X ++ flat Y, refl)
head_words (X ∖ Y) = (flat X ++ flat Y, refl)

pub head_of_word : (T : Form) → Small T → word_of T % 32 ≡ head T
head_of_word T s = add-mul-mod_self_left (head T) 32 (left_words T) ∙ mod-eq_of_lt (omega (arith, head_le T s))

pub left_of_word : (T : Form) → Small T → word_of T / 32 ≡ left_words T
left_of_word T s =
    add-mul-div_left (head T) (left_words T) (omega arith) ∙ ap (λ (n : ℕ). n + left_words T) (div-eq_of_lt (omega (arith, head_le T s))) ∙ zero-add (left_words T)

-- the word at a tree's place
module _ {w : List ℤ} {at : ℕ} {T : Form} (h : Lies w at T) where
  lies_first : (at < length w) × (get_or w at (pos 0) ≡ pos (word_of T)) × (drop (at + 1) w ≡ (head_words T).0 ++ h.rest)
  lies_first = let e = head_words T in cons_at w at (pos (word_of T)) (e.0 ++ h.rest) (h.here ∙ ap (λ (l : List ℤ). l ++ h.rest) e.1)

  pub lies_in : at < length w
  lies_in = lies_first.0

  pub lies_word : get_or w at (pos 0) ≡ pos (word_of T)
  lies_word = lies_first.1

  pub lies_short : word_of T < 32 + 32 * most_words
  lies_short = omega (arith, h.few, left_fewer T, head_le T h.small)

  -- the left part stands behind it, and the right part behind that
  module _ (k : 16 ≤ head T) where
    abbrev p : Parts T (head T) (left_of T) (right_of T)
    p = parts_of T h.small k

    after_word : drop (at + 1) w ≡ flat (left_of T) ++ (flat (right_of T) ++ h.rest)
    after_word =
        (cons_at w at (node (head T) (rows_in (left_of T))) ((flat (left_of T) ++ flat (right_of T)) ++ h.rest) (h.here ∙ ap (λ (l : List ℤ). l ++ h.rest) p.words)).2
        ∙ append_assoc (flat (left_of T)) (flat (right_of T)) h.rest

    pub lies_left : Lies w (at + 1) (left_of T)
    lies_left = record { small = (p.small h.small).0; few = omega (arith, h.few, p.long); rest = flat (right_of T) ++ h.rest; here = after_word }

    pub lies_right : Lies w (at + 1 + rows_in (left_of T)) (right_of T)
    lies_right = record {
      small = (p.small h.small).1;
      few = omega (arith, h.few, p.long);
      rest = h.rest;
      here = past w (at + 1) (at + 1 + rows_in (left_of T)) (flat (left_of T)) (flat (right_of T) ++ h.rest) after_word (omega (arith, length_flat (left_of T)));
    }

-- ---- a tree that is held
module _ {w : List ℤ} {at used : ℕ} {a : List ℤ} {T : Form} {c : List ℤ} (h : Held w at used a T c) where
  pub held_lies : Lies w at T
  held_lies = record {
    small = h.small;
    few = h.few;
    rest = c ++ h.rest;
    here = ap (λ (l : List ℤ). drop at l) h.words ∙ drop_at a (flat T ++ (c ++ h.rest)) at h.before;
  }

  pub held_length : length w ≡ used + length h.rest
  held_length =
      omega (arith, ap length h.words, length-append a (flat T ++ (c ++ h.rest)), length-append (flat T) (c ++ h.rest), length-append c h.rest, length_flat T, h.before, h.upto)

-- ---- the parts of a node stand in the work area too, and a node where its parts stand
module _ {T : Form} {k : ℕ} {X Y : Form} (p : Parts T k X Y) where
  abbrev first : ℤ
  first = node k (rows_in X)

  spelt : (a c rest : List ℤ) → a ++ (flat T ++ (c ++ rest)) ≡ a ++ ((first ∷ (flat X ++ flat Y)) ++ (c ++ rest))
  spelt a c rest = ap (λ (l : List ℤ). a ++ (l ++ (c ++ rest))) p.words

  pub held_left : {w : List ℤ} {at used : ℕ} {a c : List ℤ} → Held w at used a T c → Held w (at + 1) used (a ++ (first ∷ [])) X (flat Y ++ c)
  held_left {w} {at} {used} {a} {c} h = record {
    rest = h.rest;
    words = h.words ∙ spelt a c h.rest ∙ simp append_assoc;
    before = omega (arith, length-append a (first ∷ []), h.before);
    upto = omega (arith, length-append (flat Y) c, length_flat Y, p.long, h.upto);
    small = (p.small h.small).0;
    few = omega (arith, p.long, h.few);
  }

  pub held_right : {w : List ℤ} {at used : ℕ} {a c : List ℤ} → Held w at used a T c → Held w (at + 1 + rows_in X) used (a ++ (first ∷ flat X)) Y c
  held_right {w} {at} {used} {a} {c} h = record {
    rest = h.rest;
    words = h.words ∙ spelt a c h.rest ∙ simp append_assoc;
    before = omega (arith, length-append a (first ∷ flat X), length_flat X, h.before);
    upto = omega (arith, p.long, h.upto);
    small = (p.small h.small).1;
    few = omega (arith, p.long, h.few);
  }

  pub from_left : {v : List ℤ} {at n : ℕ} {a c : List ℤ} → Small Y → rows_in T ≤ most_words → length a ≡ at
      → Held v (at + 1) n (a ++ (first ∷ [])) X (flat Y ++ c) → Held v at n a T c
  from_left {v} {at} {n} {a} {c} s f e h = record {
    rest = h.rest;
    words = h.words ∙ sym (spelt a c h.rest ∙ simp append_assoc);
    before = e;
    upto = omega (arith, length-append (flat Y) c, length_flat Y, p.long, h.upto);
    small = p.made h.small s;
    few = f;
  }

  pub from_right : {v : List ℤ} {at n : ℕ} {a c : List ℤ} → Small X → rows_in T ≤ most_words → length a ≡ at
      → Held v (at + 1 + rows_in X) n (a ++ (first ∷ flat X)) Y c → Held v at n a T c
  from_right {v} {at} {n} {a} {c} s f e h = record {
    rest = h.rest;
    words = h.words ∙ sym (spelt a c h.rest ∙ simp append_assoc);
    before = e;
    upto = omega (arith, p.long, h.upto);
    small = p.made s h.small;
    few = f;
  }

-- ---- room: no tree on the way has more words than the last
pub step_room : {T U : Form} → Taken T U → rows_in U ≤ rows_in (normalize T)
step_room {T} {U} k =
    let e : rows_in (normalize T) ≡ rows_in (normalize U) = ap rows_in (normalize_step k) in
    omega (arith, runs_leaves (normalize_runs U), rows_leaves U, rows_leaves (normalize U))

module _ {w : List ℤ} {at right used : ℕ} {a : List ℤ} {T : Form} {c : List ℤ} (h : Placed w at right used a T c) where
  pub placed_parts : Parts T (head T) (left_of T) (right_of T)
  placed_parts = parts_of T h.ready.held.small (omega (arith, h.node))

  pub placed_left : Lies w (at + 1) (left_of T)
  placed_left = held_lies (held_left placed_parts h.ready.held)

  pub placed_right : Lies w right (right_of T)
  placed_right = subst (λ (j : ℕ). Lies w j (right_of T)) h.place (held_lies (held_right placed_parts h.ready.held))

  pub placed_small : Small (left_of T) × Small (right_of T)
  placed_small = small_parts T h.ready.held.small

  -- what a rewrite takes is there
  pub placed_room : {U : Form} → Taken T U → at + rows_in U + length c ≤ length w
  placed_room k = omega (arith, step_room k, h.ready.room)

  pub placed_few : {U : Form} → Taken T U → rows_in U ≤ most_words
  placed_few k = omega (arith, step_room k, h.ready.most)
