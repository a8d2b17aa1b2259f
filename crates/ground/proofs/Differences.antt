-- Whole numbers as differences of naturals: `sub_ℕ a b` is a - b. What is asked of differences is asked of naturals, where omega multiplies products
-- out. Assumes nothing.
use Prim.Native.Nat.{ℕ, zero, suc, ◌+◌, ◌-◌, ◌*◌, ◌≤◌}
use native.Mathlib.Decide.{dec_le}
use native.Mathlib.Omega.{arith}
use mathlib.Core.Path.{◌≡◌, sym, ap, ap₂, subst, ◌∙◌}
use borrow.Author.Tests.{le-leb, lt-leb, lt-ltb, le-ltb}
use lib.Dec.{leb}
use lib.IntN.{ℤ, pos, negsuc, neg_ℤ, nat_abs, sub_ℕ, ◌+ℤ◌, ◌-ℤ◌, ◌*ℤ◌, *ℤ_comm}
use lib.Signed.{le_z}

-- ---- a difference and its value

pub is_pos : (a b k : ℕ) → a ≡ b + k → sub_ℕ a b ≡ pos k
is_pos a b k e = rw (le-ltb a b (omega arith)) (ap pos (omega arith))

is_neg : (a b k : ℕ) → b ≡ a + k → sub_ℕ a b ≡ neg_ℤ (pos k)
is_neg a b zero e = is_pos a b 0 (omega arith)
is_neg a b (suc k) e = rw (lt-ltb a b (omega arith)) (ap negsuc (omega arith))

-- what is so of every value, at each difference that has it, is so of every difference
by_value : (P : ℕ → ℕ → ℤ → Type 0) → ((b k : ℕ) → P (b + k) b (pos k)) → ((a k : ℕ) → P a (a + suc k) (negsuc k)) → (a b : ℕ) → P a b (sub_ℕ a b)
by_value P over under a b = go (dec_le b a)
  where
    go : Dec (b ≤ a) → P a b (sub_ℕ a b)
    go (yes l) =
        let e : b + (a - b) ≡ a = omega arith in
        subst (P a b) (sym (is_pos a b (a - b) (sym e))) (subst (λ (n : ℕ). P n b (pos (a - b))) e (over b (a - b)))
    go (no l) =
        let e : a + suc (b - suc a) ≡ b = omega arith in
        subst (P a b) (sym (is_neg a b (suc (b - suc a)) (sym e))) (subst (λ (n : ℕ). P a n (negsuc (b - suc a))) e (under a (b - suc a)))

-- every number is a difference
pub difference : (z : ℤ) → (a b : ℕ) × (z ≡ sub_ℕ a b)
difference (pos n) = (n, 0, sym (is_pos n 0 n (omega arith)))
difference (negsuc n) = (0, suc n, sym (is_neg 0 (suc n) (suc n) (omega arith)))

-- ---- equal, less, and the operations

pub same_difference : (a b c d : ℕ) → a + d ≡ c + b → sub_ℕ a b ≡ sub_ℕ c d
same_difference a b c d =
    by_value (λ a b z. a + d ≡ c + b → z ≡ sub_ℕ c d) (λ b k e. sym (is_pos c d k (omega arith))) (λ a k e. sym (is_neg c d (suc k) (omega arith))) a b

leb_moved : (s m n m' n' : ℕ) → m' ≡ s + m → n' ≡ s + n → leb m n ≡ leb m' n'
leb_moved s m n m' n' e f = go (dec_le m n)
  where
    go : Dec (m ≤ n) → leb m n ≡ leb m' n'
    go (yes l) = le-leb m n l ∙ sym (le-leb m' n' (omega arith))
    go (no l) = lt-leb m n (omega arith) ∙ sym (lt-leb m' n' (omega arith))

pub le_differences : (a b c d : ℕ) → le_z (sub_ℕ a b) (sub_ℕ c d) ≡ leb (a + d) (c + b)
le_differences a b c d = by_value (λ a b z. le_z z (sub_ℕ c d) ≡ leb (a + d) (c + b)) over under a b
  where
    over : (b m : ℕ) → le_z (pos m) (sub_ℕ c d) ≡ leb (b + m + d) (c + b)
    over b m =
        by_value (λ c d z. le_z (pos m) z ≡ leb (b + m + d) (c + b))
        (λ d n. leb_moved (b + d) m n (b + m + d) (d + n + b) (omega arith) (omega arith)) (λ c n. sym (lt-leb (b + m + (c + suc n)) (c + b) (omega arith))) c d

    under : (a m : ℕ) → le_z (negsuc m) (sub_ℕ c d) ≡ leb (a + d) (c + (a + suc m))
    under a m =
        by_value (λ c d z. le_z (negsuc m) z ≡ leb (a + d) (c + (a + suc m)))
        (λ d n. sym (le-leb (a + d) (d + n + (a + suc m)) (omega arith))) (λ c n. leb_moved (a + c + 1) n m (a + (c + suc n)) (c + (a + suc m)) (omega arith) (omega arith)) c d

pub add_differences : (a b c d : ℕ) → sub_ℕ a b +ℤ sub_ℕ c d ≡ sub_ℕ (a + c) (b + d)
add_differences a b c d = by_value (λ a b z. z +ℤ sub_ℕ c d ≡ sub_ℕ (a + c) (b + d)) over under a b
  where
    over : (b m : ℕ) → pos m +ℤ sub_ℕ c d ≡ sub_ℕ (b + m + c) (b + d)
    over b m =
        by_value (λ c d z. pos m +ℤ z ≡ sub_ℕ (b + m + c) (b + d))
        (λ d n. sym (is_pos (b + m + (d + n)) (b + d) (m + n) (omega arith))) (λ c n. same_difference m (suc n) (b + m + c) (b + (c + suc n)) (omega arith)) c d

    under : (a m : ℕ) → negsuc m +ℤ sub_ℕ c d ≡ sub_ℕ (a + c) (a + suc m + d)
    under a m =
        by_value (λ c d z. negsuc m +ℤ z ≡ sub_ℕ (a + c) (a + suc m + d))
        (λ d n. same_difference n (suc m) (a + (d + n)) (a + suc m + d) (omega arith)) (λ c n. sym (is_neg (a + c) (a + suc m + (c + suc n)) (suc (suc (m + n))) (omega arith))) c d

pub neg_difference : (a b : ℕ) → neg_ℤ (sub_ℕ a b) ≡ sub_ℕ b a
neg_difference a b =
    by_value (λ a b z. neg_ℤ z ≡ sub_ℕ b a) (λ b k. sym (is_neg b (b + k) k (omega arith))) (λ a k. sym (is_pos (a + suc k) a (suc k) (omega arith))) a b

pub sub_differences : (a b c d : ℕ) → sub_ℕ a b -ℤ sub_ℕ c d ≡ sub_ℕ (a + d) (b + c)
sub_differences a b c d = ap (λ (z : ℤ). sub_ℕ a b +ℤ z) (neg_difference c d) ∙ add_differences a b d c

pub mul_differences : (a b c d : ℕ) → sub_ℕ a b *ℤ sub_ℕ c d ≡ sub_ℕ (a * c + b * d) (a * d + b * c)
mul_differences a b c d = by_value (λ a b z. z *ℤ sub_ℕ c d ≡ sub_ℕ (a * c + b * d) (a * d + b * c)) over under a b
  where
    over : (b m : ℕ) → pos m *ℤ sub_ℕ c d ≡ sub_ℕ ((b + m) * c + b * d) ((b + m) * d + b * c)
    over b m =
        by_value (λ c d z. pos m *ℤ z ≡ sub_ℕ ((b + m) * c + b * d) ((b + m) * d + b * c))
        (λ d n. sym (is_pos ((b + m) * (d + n) + b * d) ((b + m) * d + b * (d + n)) (m * n) (omega arith)))
        (λ c n. sym (is_neg ((b + m) * c + b * (c + suc n)) ((b + m) * (c + suc n) + b * c) (m * suc n) (omega arith))) c d

    under : (a m : ℕ) → negsuc m *ℤ sub_ℕ c d ≡ sub_ℕ (a * c + (a + suc m) * d) (a * d + (a + suc m) * c)
    under a m =
        by_value (λ c d z. negsuc m *ℤ z ≡ sub_ℕ (a * c + (a + suc m) * d) (a * d + (a + suc m) * c))
        (λ d n. sym (is_neg (a * (d + n) + (a + suc m) * d) (a * d + (a + suc m) * (d + n)) (suc m * n) (omega arith)))
        (λ c n. sym (is_pos (a * c + (a + suc m) * (c + suc n)) (a * (c + suc n) + (a + suc m) * c) (suc m * suc n) (omega arith))) c d

-- ---- numbers whose parts are known: for each operation there is a law, so that a proof is the expression once more

pub record Parts (z : ℤ) (a b : ℕ) : Type 0 where
  pub is : z ≡ sub_ℕ a b

pub parts : (z : ℤ) → (a b : ℕ) × Parts z a b
parts z = let (a, b, e) = difference z in (a, b, record { is = e })

pub pos_parts : (n : ℕ) → Parts (pos n) n 0
pos_parts n = record { is = sym (is_pos n 0 n (omega arith)) }

module _ {x y : ℤ} {a b c d : ℕ} (p : Parts x a b) (q : Parts y c d) where
  pub add_parts : Parts (x +ℤ y) (a + c) (b + d)
  add_parts = record { is = ap₂ ◌+ℤ◌ p.is q.is ∙ add_differences a b c d }

  pub sub_parts : Parts (x -ℤ y) (a + d) (b + c)
  sub_parts = record { is = ap₂ ◌-ℤ◌ p.is q.is ∙ sub_differences a b c d }

  pub mul_parts : Parts (x *ℤ y) (a * c + b * d) (a * d + b * c)
  mul_parts = record { is = ap₂ ◌*ℤ◌ p.is q.is ∙ mul_differences a b c d }

  pub same_parts : a + d ≡ c + b → x ≡ y
  same_parts h = p.is ∙ same_difference a b c d h ∙ sym q.is

  pub le_parts : le_z x y ≡ leb (a + d) (c + b)
  le_parts = ap₂ le_z p.is q.is ∙ le_differences a b c d

-- how far from 0 it is
pub abs_parts : {z : ℤ} {a b : ℕ} → Parts z a b → nat_abs z ≡ a - b + (b - a)
abs_parts {z} {a} {b} p = ap nat_abs p.is ∙ by_value (λ a b z. nat_abs z ≡ a - b + (b - a)) (λ b k. omega arith) (λ a k. omega arith) a b

-- ---- laws of whole numbers

-- how two numbers differ is how they differ from a third
pub differ : (a c x : ℤ) → a -ℤ c ≡ (a -ℤ x) -ℤ (c -ℤ x)
differ a c x =
    let (p, p', e) = parts a in
    let (r, r', f) = parts c in
    let (k, k', g) = parts x in
    same_parts (sub_parts e f) (sub_parts (sub_parts e g) (sub_parts f g)) (omega arith)

-- a product of a difference
pub less_times : (p r k : ℤ) → (p -ℤ r) *ℤ k ≡ p *ℤ k -ℤ r *ℤ k
less_times p r k =
    let (a, a', e) = parts p in
    let (b, b', f) = parts r in
    let (c, c', g) = parts k in
    same_parts (mul_parts (sub_parts e f) g) (sub_parts (mul_parts e g) (mul_parts f g)) (omega arith)

pub times_less : (k p r : ℤ) → k *ℤ (p -ℤ r) ≡ k *ℤ p -ℤ k *ℤ r
times_less k p r = *ℤ_comm k (p -ℤ r) ∙ less_times p r k ∙ ap₂ ◌-ℤ◌ (*ℤ_comm p k) (*ℤ_comm r k)

-- ---- what goes over to the other side of an order

-- what is added on the left is taken off on the right
pub le_over : (k a d : ℤ) → le_z (k +ℤ a) d ≡ le_z a (d -ℤ k)
le_over k a d =
    let (r, r', e) = parts k in
    let (p, p', f) = parts a in
    let (q, q', g) = parts d in
    let left : r + p + q' ≡ p + (q' + r) = omega arith in
    let right : q + (r' + p') ≡ q + r' + p' = omega arith in
    le_parts (add_parts e f) g ∙ ap₂ leb left right ∙ sym (le_parts f (sub_parts g e))

-- and what is taken off there is added
pub le_back : (a k d : ℤ) → le_z (a -ℤ k) d ≡ le_z a (d +ℤ k)
le_back a k d =
    let (p, p', e) = parts a in
    let (r, r', f) = parts k in
    let (q, q', g) = parts d in
    let left : p + r' + q' ≡ p + (q' + r') = omega arith in
    let right : q + (p' + r) ≡ q + r + p' = omega arith in
    le_parts (sub_parts e f) g ∙ ap₂ leb left right ∙ sym (le_parts e (add_parts g f))
