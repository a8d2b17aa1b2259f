-- The first ways of a list's products, found as the ways are told in order: a way comes to a product of the list, and that is an earlier way's just
-- if it is among those that have been told. Assumes nothing.
use Prim.Native.Nat.{ℕ, ◌+◌, ◌≤◌, ◌<◌}
use native.Mathlib.Decide.{dec_lt}
use native.Mathlib.Nat.{eq-or-lt_of_le}
use native.Mathlib.Omega.{arith}
use mathlib.Core.Bool.{true, false, ◌&&◌}
use mathlib.Core.List.{List}
use mathlib.Core.Logic.{⊎_elim}
use mathlib.Core.Path.{◌≡◌, sym, ap, ap₂, subst, ◌∙◌}
use borrow.Author.Tests.{eqb-true, eq-eqb}
use lib.Dec.{eqb}
use lib.IntN.{ℤ}
use lib.ListN.{length, get_or, set, length-set}
use lib.Seq.{get_or-set_same, get_or-set_other}
use Rattle.ground.proofs.Branches.{false_true, and_left, and_right}
use Rattle.rules.specs.declared.Product.{Product}
use Rattle.rules.specs.declared.Window.{Window}
use Rattle.rules.specs.Choices.{expansion}
use Rattle.rules.specs.ListCalls.{most_choices}
use Rattle.rules.specs.ListWords.{product_at, product_count}
use Rattle.rules.specs.Products.{same}
use Rattle.rules.specs.Tree.{tree_of}
use Rattle.promises.specs.EachOnce.{kept, made, EachOnce}
use Rattle.fate.specs.FirstWays.{NumberIn, IsFirst, ToldTo}

-- ---- a product's place

pub same_is : (a b : Product) → same a b ≡ true → a ≡ b
same_is a b h = λ i. record {
  plain = eqb-true a.plain b.plain (and_left (eqb a.plain b.plain) (eqb a.cuts b.cuts) h) i;
  cuts = eqb-true a.cuts b.cuts (and_right (eqb a.plain b.plain) (eqb a.cuts b.cuts) h) i;
}

same_self : {a b : Product} → a ≡ b → same a b ≡ true
same_self {a} {b} e = ap₂ ◌&&◌ (eq-eqb a.plain b.plain (ap (λ (c : Product). c.plain) e)) (eq-eqb a.cuts b.cuts (ap (λ (c : Product). c.cuts) e))

-- what holds before k, and at k, holds before k + 1
pub up_to : (P : ℕ → Type 0) (k : ℕ) → ((i : ℕ) → i < k → P i) → P k → (i : ℕ) → i < k + 1 → P i
up_to P k before at i l = ⊎_elim (λ (e : i ≡ k). subst P (sym e) at) (before i) (eq-or-lt_of_le (omega arith))

-- before the first way
pub nothing_told : {t : List ℤ} {w : Window} {list firsts : List ℕ} → EachOnce t w list → product_count list ≤ most_choices → length firsts ≡ most_choices
    → ToldTo t w list firsts 0 0
nothing_told once few size = record {
  once = once;
  few = few;
  size = size;
  before = λ j l. absurd (omega arith);
  after = λ j l m. omega arith;
  not_over = omega arith;
}

module _ {t : List ℤ} {w : Window} {list firsts : List ℕ} {k n : ℕ} (T : ToldTo t w list firsts k n) where
  abbrev place : ℕ → ℕ
  place = T.once.order.place

  -- a product that way k does not come to first is first come to later
  later : (j : ℕ) → n ≤ j → j < product_count list → (place j ≡ k → ⊥) → k + 1 ≤ place j
  later j l m other = ⊎_elim (λ (e : k ≡ place j). absurd (other (sym e))) (λ h. omega arith) (eq-or-lt_of_le (T.after j l m))

  sooner : (j : ℕ) → j < n → (place j < k + 1) × (get_or firsts j 0 ≡ place j)
  sooner j l = (omega (arith, (T.before j l).0), (T.before j l).1)

  -- way k comes to nothing
  pub told_dropped : kept t w k ≡ false → ToldTo t w list firsts (k + 1) n
  told_dropped gone = record {
    once = T.once;
    few = T.few;
    size = T.size;
    before = sooner;
    after = λ j l m. later j l m (λ e. false_true (sym gone ∙ ap (kept t w) (sym e) ∙ T.once.order.is_kept j m));
    not_over = T.not_over;
  }

  -- way k comes to a product, which has a number
  module _ (h : k < expansion (tree_of t)) (s : kept t w k ≡ true) {c : Product} (e : made t w k ≡ c) {r : ℕ} (N : NumberIn list c r) where
    listed : r < product_count list
    listed = go (dec_lt r (product_count list))
      where
        go : Dec (r < product_count list) → r < product_count list
        go (yes l) = l
        go (no l) =
            let found = T.once.has k h s in
            let before : found.0 < r = omega (arith, found.1, N.most) in
            absurd (false_true (sym (N.first found.0 before) ∙ same_self (found.2 ∙ e)))

    is_it : product_at list r ≡ made t w k
    is_it = N.is listed ∙ sym e

    not_later : place r ≤ k
    not_later = go (dec_lt k (place r))
      where
        go : Dec (k < place r) → place r ≤ k
        go (yes l) = absurd (T.once.order.first r listed k l s is_it)
        go (no l) = omega arith

    is_first : IsFirst t w c (place r)
    is_first =
        let o = T.once.order in
        (o.is_kept r listed, sym (o.gives r listed) ∙ N.is listed, λ i l g m. o.first r listed i l g (N.is listed ∙ sym m))

    -- the product has been told
    module _ (l : r < n) where
      pub again_first : (get_or firsts r 0 < k) × IsFirst t w c (get_or firsts r 0)
      again_first = subst (λ (i : ℕ). (i < k) × IsFirst t w c i) (sym (T.before r l).1) ((T.before r l).0, is_first)

      -- so that way k is the first of no other
      pub told_again : ToldTo t w list firsts (k + 1) n
      told_again = record {
        once = T.once;
        few = T.few;
        size = T.size;
        before = sooner;
        after = λ j a m. later j a m (λ p. T.once.distinct r j (omega arith) m (is_it ∙ sym (ap (made t w) p) ∙ sym (T.once.order.gives j m)));
        not_over = T.not_over;
      }

    -- it has not
    module _ (l : n ≤ r) where
      here : place r ≡ k
      here = omega (arith, not_later, T.after r l listed)

      next : r ≡ n
      next = ⊎_elim (λ (p : n ≡ r). sym p)
          (λ (m : n < r). absurd (omega (arith, here, T.once.order.rises n r m listed, T.after n (omega arith) (omega (arith, listed)))))
          (eq-or-lt_of_le l)

      pub new_first : IsFirst t w c k × ((r < product_count list) × (product_at list r ≡ c))
      new_first = (subst (IsFirst t w c) here is_first, (listed, N.is listed))

      pub in_firsts : r < length firsts
      in_firsts = omega (arith, listed, T.few, T.size)

      pub told_new : ToldTo t w list (set firsts r k) (k + 1) (n + 1)
      told_new = record {
        once = T.once;
        few = T.few;
        size = length-set firsts r k ∙ T.size;
        before = up_to (λ j. (place j < k + 1) × (get_or (set firsts r k) j 0 ≡ place j)) n
            (λ j m. ((sooner j m).0, get_or-set_other firsts r j k 0 (λ p. omega (arith, next)) ∙ (sooner j m).1))
            (subst (λ j. (place j < k + 1) × (get_or (set firsts r k) j 0 ≡ place j)) next (omega (arith, here), get_or-set_same firsts r k 0 in_firsts ∙ sym here));
        after = λ j a m. omega (arith, here, next, T.once.order.rises r j (omega (arith, next)) m);
        not_over = omega (arith, next, listed);
      }
