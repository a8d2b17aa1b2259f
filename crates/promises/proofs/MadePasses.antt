-- A list that was made passes the checks of a list: its window, its number of primitives and each of its products are right. Assumes nothing.
use Prim.Native.Nat.{ℕ, zero, suc, ◌+◌, ◌-◌, ◌/◌, ◌%◌, ◌^◌, ◌≤◌, ◌<◌}
use native.Mathlib.Nat.{lt_of_le_of_lt}
use native.Mathlib.Omega.{arith}
use mathlib.Core.Bool.{Bool, true, false, ◌&&◌, ◌||◌}
use mathlib.Core.List.{List, [], ◌∷◌, ◌++◌, flat_map}
use mathlib.Core.Option.{Option, none}
use mathlib.Core.Path.{◌≡◌, refl, sym, ap, ap₂, subst, ◌∙◌}
use borrow.Author.Tests.{ne_eqb, eq-eqb, le-leb, lt-ltb, le-ltb}
use lib.Bits.{bit_and, bit_or, and_le_l, and_le_r, and_comm}
use lib.Dec.{ltb}
use lib.IntN.{ℤ}
use lib.ListN.{length, get_or}
use lib.Pow.{pow_pos}
use Rattle.ground.specs.Lists.{All, below, or_else, first_of}
use Rattle.ground.proofs.Counting.{numbers_below}
use Rattle.ground.proofs.Lists.{all_flat_map}
use Rattle.ground.proofs.Masks.{has, Within, within_self, within_left, within_has, has_within, has_both, both_has, and_assoc, and_or, or_and}
use Rattle.rules.specs.declared.Rule.{Rule}
use Rattle.rules.specs.declared.Rule.TheVariants as rule
use Rattle.rules.specs.declared.Axis.{Axis}
use Rattle.rules.specs.declared.Axis.TheVariants.{Column, Code, Frame}
use Rattle.rules.specs.declared.Product.{Product}
use Rattle.rules.specs.declared.Refusal.{Refusal}
use Rattle.rules.specs.declared.Window.{Window}
use Rattle.rules.specs.Boxes.{window_box, share}
use Rattle.rules.specs.Choices.{in_of, out_of, expansion}
use Rattle.rules.specs.ListCalls.{most_choices, window_refusal, zone_list}
use Rattle.rules.specs.ListFaults.{bounds_refusals, plain_right, cuts_right, product_refusals, list_refusal, primitives_refusal}
use Rattle.rules.specs.ListWords.{most_word, raised, word, bounds_word, list_of, list_window, product_count, place_of, product_at}
use Rattle.rules.specs.Products.{box_of, product_box, products}
use Rattle.rules.specs.Ranges.{range}
use Rattle.rules.specs.Refusals.{refuse_if, refuse_unless}
use Rattle.rules.specs.Table.{primitives, row_count}
use Rattle.rules.specs.Tree.{Tree, solid, union, inter, diff, tree_of}
use Rattle.promises.specs.EachOnce.{choice, EachOnce}
use Rattle.laws.specs.Plans.{Plan, with_it, without, either, both, plan, nothing, ways, count, kth, mask, Apart}
use Rattle.laws.specs.Reach.{reach_in, alive_in}
use Rattle.laws.specs.Sound.{Sound}
use Rattle.laws.proofs.Axes.{raised_back, raised_rises, raised_most}
use Rattle.laws.proofs.Apart.{mask_in_table, table_apart, few_primitives}
use Rattle.promises.proofs.EachOnce.{each_once}
use Rattle.laws.proofs.Survivors.{survivors_length}
use Rattle.laws.proofs.ZoneProducts.{plain_in_table, products_are_survivors}
use Rattle.laws.proofs.Reach.{places_where_bits}
use Rattle.laws.proofs.Ways.{choices_ways, ways_count, ways_kth, kth_within, by_part, place_left, place_right}
use Rattle.laws.proofs.Windows.{Bounds, window_right, window_filled}

-- ---- the header

module _ (t : List ℤ) (w : Window) (fine : window_refusal w ≡ none) (rest : List ℕ) where
  -- the window is read back as it was
  pub made_window : list_window (zone_list t w ++ rest) ≡ window_box w
  unfolding zone_list
  made_window =
      let r = window_right w fine in
      λ i. record {
        x = record { lo = raised_back Column w.xlo r.x.lo_in i; hi = raised_back Column w.xhi r.x.hi_in i };
        y = record { lo = raised_back Code w.ylo r.y.lo_in i; hi = raised_back Code w.yhi r.y.hi_in i };
        z = record { lo = raised_back Frame w.zlo r.z.lo_in i; hi = raised_back Frame w.zhi r.z.hi_in i };
      }

module _ (t : List ℤ) (w : Window) (rest : List ℕ) where
  -- it has as many primitives as the table
  pub made_accepted : primitives_refusal (primitives t) (zone_list t w ++ rest) ≡ none
  unfolding zone_list
  made_accepted = rw (eq-eqb (length (primitives t)) (length (primitives t)) refl) refl

-- ---- sets of primitives

within_nothing : (a : ℕ) → Within a 0 → a ≡ 0
within_nothing a h = omega (arith, and_le_r a 0)

or_nothing : (a b : ℕ) → bit_or a b ≡ 0 → a ≡ 0
or_nothing a b e = within_nothing a (subst (Within a) e (within_left a a b (within_self a)))

-- parts of two sets that share nothing share nothing
parts_apart : (a b x y : ℕ) → Within x a → Within y b → bit_and a b ≡ 0 → bit_and x y ≡ 0
parts_apart a b x y u v e = within_nothing (bit_and x y) (subst (Within (bit_and x y)) e (has_within (bit_and x y) (bit_and a b) at))
  where
    at : (i : ℕ) → has i (bit_and x y) ≡ true → has i (bit_and a b) ≡ true
    at i h = let p = both_has x y i h in has_both a b i (within_has x a u i p.0) (within_has y b v i p.1)

within_below : (n a b : ℕ) → Within a b → b < 2 ^ n → a < 2 ^ n
within_below n a b u h = lt_of_le_of_lt (rw (sym u) (and_le_r a b)) h

-- ---- choices

some_mask : (p : Plan) → mask p ≡ 0 → ⊥
unfolding mask
some_mask (with_it i) e = omega (arith, pow_pos i)
some_mask (without i) e = omega (arith, pow_pos i)
some_mask (either a b) e = some_mask a (or_nothing (mask a) (mask b) e)
some_mask (both a b) e = some_mask a (or_nothing (mask a) (mask b) e)

-- a choice of a tree names some primitive uncomplemented: of a difference, one of the left part
some_plain : (tree : Tree) (k : ℕ) → k < count (plan in_of tree) → (kth (plan in_of tree) k).plain ≡ 0 → ⊥
unfolding plan count kth
some_plain (solid i s) k h e = omega (arith, pow_pos i)
some_plain (union l r) k h e = by_part (λ c. c.plain ≡ 0 → ⊥) (plan in_of l) (plan in_of r) (some_plain l) (some_plain r) k h e
some_plain (inter l r) k h e =
    let n = count (plan in_of l) in
    some_plain l (k % n) (place_left n (count (plan in_of r)) k h) (or_nothing _ (kth (plan in_of r) (k / n)).plain e)
some_plain (diff l r) k h e =
    let n = count (plan in_of l) in
    some_plain l (k % n) (place_left n (count (plan out_of r)) k h) (or_nothing _ (kth (plan out_of r) (k / n)).plain e)

-- a choice cuts no primitive that it has uncomplemented
cuts_others : (p : Plan) → Apart p → (k : ℕ) → k < count p → bit_and (kth p k).plain (kth p k).cuts ≡ 0
unfolding Apart count kth
cuts_others (with_it i) a k h = and_comm (2 ^ i) 0
cuts_others (without i) a k h = refl
cuts_others (either p q) a k h =
    by_part (λ c. bit_and c.plain c.cuts ≡ 0) p q (cuts_others p a.1.0) (cuts_others q a.1.1) k h
cuts_others (both p q) a k h =
    let i = k % count p in
    let j = k / count p in
    let hi = place_left (count p) (count q) k h in
    let hj = place_right (count p) (count q) k h in
    let c = kth p i in
    let d = kth q j in
    let u = kth_within p i hi in
    let v = kth_within q j hj in
    let cd : bit_and c.plain d.cuts ≡ 0 = parts_apart (mask p) (mask q) c.plain d.cuts u.0 v.1 a.0 in
    let dc : bit_and d.plain c.cuts ≡ 0 = parts_apart (mask q) (mask p) d.plain c.cuts v.0 u.1 (and_comm (mask q) (mask p) ∙ a.0) in
    or_and c.plain d.plain (bit_or c.cuts d.cuts)
    ∙ ap₂ bit_or
    (and_or c.plain c.cuts d.cuts ∙ ap₂ bit_or (cuts_others p a.1.0 i hi) cd)
    (and_or d.plain c.cuts d.cuts ∙ ap₂ bit_or dc (cuts_others q a.1.1 j hj))

-- ---- products

-- what a list asks of a product, with n primitives
record Right (n : ℕ) (c : Product) : Type 0 where
  some : c.plain ≡ 0 → ⊥
  plain_in : c.plain < 2 ^ n
  cuts_in : c.cuts < 2 ^ n
  apart : bit_and c.plain c.cuts ≡ 0

-- with fewer cuts it stays right
fewer_cuts : (n : ℕ) (c : Product) (set : ℕ) → Right n c → Right n (record { plain = c.plain; cuts = bit_and c.cuts set })
fewer_cuts n c set r = record {
  some = r.some;
  plain_in = r.plain_in;
  cuts_in = lt_of_le_of_lt (and_le_l c.cuts set) r.cuts_in;
  apart = sym (and_assoc c.plain c.cuts set) ∙ ap (λ (x : ℕ). bit_and x set) r.apart;
}

right_plain : (n : ℕ) (c : Product) → Right n c → plain_right n c ≡ true
right_plain n c r = rw (ne_eqb c.plain 0 r.some, lt-ltb c.plain (2 ^ n) r.plain_in) refl

right_cuts : (n : ℕ) (c : Product) → Right n c → cuts_right n c ≡ true
right_cuts n c r = rw (lt-ltb c.cuts (2 ^ n) r.cuts_in, eq-eqb (bit_and c.plain c.cuts) 0 r.apart) refl

module _ (t : List ℤ) (S : Sound t) where
  abbrev root : Plan
  root = plan in_of (tree_of t)

  last_row : row_count t - 1 < row_count t
  last_row = omega (arith, S.some_row)

  root_below : mask root < 2 ^ length (primitives t)
  root_below = mask_in_table t S (row_count t - 1) last_row in_of

  some_primitive : 1 ≤ length (primitives t)
  some_primitive = go (length (primitives t)) root_below
    where
      go : (n : ℕ) → mask root < 2 ^ n → 1 ≤ n
      go zero h = absurd (some_mask root (omega arith))
      go (suc n) h = omega arith

  choice_right : (i : ℕ) → i < expansion (tree_of t) → Right (length (primitives t)) (choice t i)
  choice_right i l = subst (Right (length (primitives t))) (sym is) (record {
    some = some_plain (tree_of t) i m;
    plain_in = within_below (length (primitives t)) (kth root i).plain (mask root) (kth_within root i m).0 root_below;
    cuts_in = within_below (length (primitives t)) (kth root i).cuts (mask root) (kth_within root i m).1 root_below;
    apart = cuts_others root (table_apart t S (row_count t - 1) last_row in_of) i m;
  })
    where
      m : i < count root
      m = subst (λ (n : ℕ). i < n) (ap (λ (cs : List Product). length cs) (choices_ways in_of (tree_of t)) ∙ ways_count root) l

      is : choice t i ≡ kth root i
      is = ap (λ (cs : List Product). get_or cs i nothing) (choices_ways in_of (tree_of t)) ∙ ways_kth root i nothing m

-- ---- the checks

abbrev Passes : Option Refusal → Type 0
Passes x = x ≡ none

one_passes : (x : Option Refusal) (others : List (Option Refusal)) → x ≡ none → first_of others ≡ none → first_of (x ∷ others) ≡ none
unfolding first_of
one_passes x others e h = ap₂ or_else e h

all_pass : (xs : List (Option Refusal)) → All Passes xs → first_of xs ≡ none
unfolding first_of
all_pass [] k = refl
all_pass (x ∷ xs) k = one_passes x xs k.0 (all_pass xs k.1)

unless_none : (b : Bool) (r : Rule) (v : ℕ) → b ≡ true → refuse_unless b r v ≡ none
unless_none b r v e = ap (λ (x : Bool). refuse_unless x r v) e

bounds_pass : (list : List ℕ) (axis : Axis) (lo hi : ℤ) → Bounds (range axis) lo hi
    → word list (bounds_word axis) ≡ raised axis lo → word list (bounds_word axis + 1) ≡ raised axis hi
    → (others : List (Option Refusal)) → first_of others ≡ none → first_of (bounds_refusals list axis ++ others) ≡ none
bounds_pass list axis lo hi b e f others h =
    one_passes _ _ (ap (λ (x : Bool). refuse_if x rule.List (bounds_word axis)) lower)
    (one_passes _ others (ap (λ (x : Bool). refuse_if x rule.List (bounds_word axis + 1)) upper) h)
  where
    lower : ltb (most_word axis) (word list (bounds_word axis)) ≡ false
    lower = ap (ltb (most_word axis)) e ∙ le-ltb (most_word axis) (raised axis lo) (raised_most axis lo b.lo_in)

    upper : (ltb (most_word axis) (word list (bounds_word axis + 1)) || ltb (word list (bounds_word axis + 1)) (word list (bounds_word axis))) ≡ false
    upper =
        ap₂ ◌||◌ (ap (ltb (most_word axis)) f ∙ le-ltb (most_word axis) (raised axis hi) (raised_most axis hi b.hi_in))
        (ap₂ ltb f e ∙ le-ltb (raised axis hi) (raised axis lo) (raised_rises axis lo hi b.lo_in b.hi_in b.rising))

module _ (t : List ℤ) (w : Window) (S : Sound t) (fine : window_refusal w ≡ none) (rest : List ℕ) where
  abbrev ps : List Product
  ps = products w (primitives t) (tree_of t)

  abbrev buffer : List ℕ
  buffer = list_of w (length (primitives t)) ps ++ rest

  holds_products : EachOnce t w buffer
  holds_products = each_once t w (window_filled w fine) (plain_in_table t S) rest

  product_right : (k : ℕ) → k < product_count buffer → Right (length (primitives t)) (product_at buffer k)
  product_right k l =
      let f = holds_products.from k l in
      let c = choice t f.0 in
      let cut = places_where_bits (λ s. share (box_of s) (product_box w (primitives t) c)) (primitives t) c.cuts in
      let is = f.3 ∙ ap (λ (cuts : ℕ). record { plain = c.plain; cuts = cuts }) cut in
      subst (Right (length (primitives t))) (sym is) (fewer_cuts (length (primitives t)) c _ (choice_right t S f.0 f.1))

  product_passes : (k : ℕ) → k < product_count buffer → All Passes (product_refusals buffer k)
  product_passes k l =
      let r = product_right k l in (
        unless_none _ rule.List (place_of k) (right_plain (length (primitives t)) (product_at buffer k) r),
        (unless_none _ rule.List (place_of k + 1) (right_cuts (length (primitives t)) (product_at buffer k) r), tt),
      )

  products_pass : first_of (flat_map (product_refusals buffer) (below (length ps))) ≡ none
  products_pass =
      all_pass (flat_map (product_refusals buffer) (below (length ps)))
      (all_flat_map (λ k. k < 0 + length ps) Passes (product_refusals buffer) (λ k l. product_passes k (omega arith)) (below (length ps))
      (numbers_below 0 (length ps)))

  -- no more products than choices
  products_few : length ps ≤ expansion (tree_of t)
  products_few =
      rw (products_are_survivors t w S fine, choices_ways in_of (tree_of t))
      (survivors_length (alive_in w (primitives t)) (reach_in w (primitives t)) (ways (plan in_of (tree_of t))))

  -- a list that was made passes the checks; only so many choices give a list at all
  pub made_sound : expansion (tree_of t) ≤ most_choices → list_refusal (zone_list t w ++ rest) ≡ none
  unfolding list_refusal zone_list
  made_sound few =
      let n = length (primitives t) in
      let r = window_right w fine in
      let room : place_of (length ps) ≤ length buffer = holds_products.room in
      let counts = ap₂ ◌&&◌ (le-leb (length ps) 65536 (omega (arith, products_few, few))) (le-leb (place_of (length ps)) (length buffer) room) in
      one_passes _ _ (ap (λ (b : Bool). refuse_if b rule.List (length buffer)) (le-ltb (length buffer) 8 (omega (arith, room))))
      (one_passes _ _ (unless_none _ rule.List 0 counts)
      (bounds_pass buffer Column w.xlo w.xhi r.x refl refl _
      (bounds_pass buffer Code w.ylo w.yhi r.y refl refl _
      (bounds_pass buffer Frame w.zlo w.zhi r.z refl refl _
      (one_passes _ _ (unless_none _ rule.List 7 (ap₂ ◌&&◌ (le-leb 1 n (some_primitive t S)) (le-leb n 64 (few_primitives t S)))) products_pass)))))
