-- The products of a sound table in a right window are the survivors of its ways of choosing; and where the call that makes them wrote, they are in
-- the buffer. Assumes nothing.
use Prim.Native.Nat.{ℕ, ◌-◌, ◌^◌, ◌<◌}
use native.Mathlib.Nat.{lt_of_le_of_lt}
use native.Mathlib.Omega.{arith}
use mathlib.Core.List.{List}
use mathlib.Core.Option.{Option, none}
use mathlib.Core.Path.{◌≡◌, sym, ap, subst, ◌∙◌}
use lib.Bits.{and_le_r}
use lib.IntN.{ℤ}
use lib.ListN.{length, get_or}
use Rattle.ground.specs.Lists.{All}
use Rattle.ground.proofs.Lists.{all_by_place}
use Rattle.rules.specs.declared.Product.{Product}
use Rattle.rules.specs.declared.Refusal.{Refusal}
use Rattle.rules.specs.declared.Window.{Window}
use Rattle.rules.specs.Choices.{choices, in_of}
use Rattle.rules.specs.ListCalls.{window_refusal, zone_list, make_refusal, ListMade}
use Rattle.rules.specs.Outcome.{leave, over}
use Rattle.rules.specs.Products.{products}
use Rattle.rules.specs.Table.{primitives, row_count}
use Rattle.rules.specs.Tree.{tree_of}
use Rattle.laws.specs.Survivors.{survivors}
use Rattle.laws.specs.Plans.{Plan, plan, ways, count, kth, mask}
use Rattle.laws.specs.Reach.{reach_in, alive_in}
use Rattle.laws.specs.Sound.{Sound}
use Rattle.laws.proofs.Apart.{mask_in_table}
use Rattle.laws.proofs.Reach.{products_survivors}
use Rattle.laws.proofs.Ways.{choices_ways, ways_count, ways_kth, kth_within}
use Rattle.laws.proofs.Windows.{window_filled}
use Rattle.rules.specs.Told.{Written}

-- ---- a sound table and a right window

ways_below : (p : Plan) (n : ℕ) → mask p < 2 ^ n → All (λ (c : Product). c.plain < 2 ^ n) (ways p)
ways_below p n h = all_by_place (λ c. c.plain < 2 ^ n) (kth p 0) (ways p) at
  where
    at : (k : ℕ) → k < length (ways p) → (get_or (ways p) k (kth p 0)).plain < 2 ^ n
    at k l =
        let m : k < count p = rw (sym (ways_count p)) l in
        let c = kth p k in
        let below : c.plain < 2 ^ n = lt_of_le_of_lt (rw (sym (kth_within p k m).0) (and_le_r c.plain (mask p))) h in
        subst (λ (x : Product). x.plain < 2 ^ n) (sym (ways_kth p k (kth p 0) m)) below

-- every choice of the root names primitives of the table only
pub plain_in_table : (t : List ℤ) → Sound t → All (λ c. c.plain < 2 ^ length (primitives t)) (choices in_of (tree_of t))
plain_in_table t S =
    subst (All (λ c. c.plain < 2 ^ length (primitives t))) (sym (choices_ways in_of (tree_of t)))
    (ways_below (plan in_of (tree_of t)) (length (primitives t)) (mask_in_table t S (row_count t - 1) (omega (arith, S.some_row)) in_of))

-- the products are the list of the ways of choosing, by what shares a point with what
pub products_are_survivors : (t : List ℤ) (w : Window) → Sound t → window_refusal w ≡ none
    → products w (primitives t) (tree_of t) ≡ survivors (alive_in w (primitives t)) (reach_in w (primitives t)) (ways (plan in_of (tree_of t)))
products_are_survivors t w S e =
    products_survivors w (primitives t) (window_filled w e) (tree_of t) (plain_in_table t S)
    ∙ ap (survivors (alive_in w (primitives t)) (reach_in w (primitives t))) (choices_ways in_of (tree_of t))

-- ---- what a call that wrote left

-- where nothing is refused the buffer holds the list, and what lies beyond it stays
pub is_over : {t : List ℤ} {w : Window} {before after : List ℕ} {r : Written} → ListMade t w before after r → make_refusal t w (length before) ≡ none
    → after ≡ over (zone_list t w) before
is_over {t} {w} {before} made fine = made.buffer ∙ ap (λ (x : Option Refusal). leave x (zone_list t w) before) fine
