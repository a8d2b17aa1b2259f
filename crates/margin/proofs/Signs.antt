-- A number that moves by less than its distance from 0 keeps its sign. Assumes nothing.
use Prim.Native.Nat.{ℕ, ◌+◌, ◌*◌, ◌≤◌}
use native.Mathlib.Nat.{le_trans, mul-le-mul, mul-le-mul_right}
use native.Mathlib.Omega.{arith}
use mathlib.Core.Path.{◌≡◌, sym, ap, subst, ◌∙◌}
use lib.IntN.{ℤ, pos, nat_abs, ◌+ℤ◌, ◌-ℤ◌, ◌*ℤ◌, +ℤ_idl}
use lib.Signed.{le_z}
use Rattle.ground.proofs.Differences.{pos_parts, parts, add_parts, sub_parts, same_parts, le_parts, abs_parts, le_back}
use Rattle.ground.proofs.Num.{abs_add, abs_mul}
use Rattle.ground.proofs.Order.{leb_same}
use Rattle.margin.specs.Edges.{Slack}

-- from f to g in m steps, of at most `weight` each
pub record Moves (f g : ℤ) (m weight : ℕ) : Type 0 where
  pub by : nat_abs (g -ℤ f) ≤ m * weight

abbrev pub SameSign : ℤ → ℤ → Type 0
SameSign f g = (le_z g (pos 0) ≡ le_z f (pos 0)) × (le_z (pos 0) g ≡ le_z (pos 0) f)

pub sign_kept : {f g : ℤ} {m weight : ℕ} → Moves f g m weight → Slack f weight m → SameSign f g
sign_kept {f} {g} moves slack =
    let (a, a', e) = parts f in
    let (c, c', k) = parts g in
    let nought = pos_parts 0 in
    let change = le_trans moves.by slack in
    let moved = abs_parts (sub_parts k e) in
    let size = abs_parts e in
    let low = leb_same (c + 0) (0 + c') (a + 0) (0 + a') (λ l. omega arith) (λ l. omega arith) in
    let high = leb_same (0 + c') (c + 0) (0 + a') (a + 0) (λ l. omega arith) (λ l. omega arith) in
    (le_parts k nought ∙ low ∙ sym (le_parts e nought), le_parts nought k ∙ high ∙ sym (le_parts nought e))

-- ---- what moves how far

pub product_most : (a i : ℤ) {m weight : ℕ} → nat_abs a ≤ weight → nat_abs i ≤ m → nat_abs (a *ℤ i) ≤ m * weight
product_most a i {m} {weight} h k = let l : nat_abs a * nat_abs i ≤ weight * m = mul-le-mul h k in omega (arith, abs_mul a i, l)

-- two changes together
pub both_move : {f g : ℤ} {m : ℕ} (u v : ℕ) (d e : ℤ) → g -ℤ f ≡ d +ℤ e → nat_abs d ≤ m * u → nat_abs e ≤ m * v → Moves f g m (u + v)
both_move u v d e change h k = record { by = rw change (omega (arith, abs_add d e, h, k)) }

over_change : (P Q P' Q' K : ℤ) → (P' +ℤ Q' -ℤ K) -ℤ (P +ℤ Q -ℤ K) ≡ (P' -ℤ P) +ℤ (Q' -ℤ Q)
over_change P Q P' Q' K =
    let (p, r, e) = parts P in
    let (q, s, f) = parts Q in
    let (p', r', e') = parts P' in
    let (q', s', f') = parts Q' in
    let (k, l, g) = parts K in
    same_parts (sub_parts (sub_parts (add_parts e' f') g) (sub_parts (add_parts e f) g)) (add_parts (sub_parts e' e) (sub_parts f' f)) (omega arith)

-- ---- a sum held against K is what it is over K held against 0

over_most : (S K : ℤ) → le_z S K ≡ le_z (S -ℤ K) (pos 0)
over_most S K = sym (le_back S K (pos 0) ∙ ap (le_z S) (+ℤ_idl K))

pub sum_kept : {P Q P' Q' : ℤ} {m u v : ℕ} (K : ℤ) → Moves P P' m u → Moves Q Q' m v → Slack (P +ℤ Q -ℤ K) (u + v) m → le_z (P' +ℤ Q') K ≡ le_z (P +ℤ Q) K
sum_kept {P} {Q} {P'} {Q'} {m} {u} {v} K p q slack =
    let moves : Moves (P +ℤ Q -ℤ K) (P' +ℤ Q' -ℤ K) m (u + v) = both_move u v (P' -ℤ P) (Q' -ℤ Q) (over_change P Q P' Q' K) p.by q.by in
    over_most (P' +ℤ Q') K ∙ (sign_kept moves slack).0 ∙ sym (over_most (P +ℤ Q) K)

-- fewer steps, of a number and a weight that are known by other names
pub slack_as : {f g : ℤ} {u v m r : ℕ} → m ≤ r → f ≡ g → u ≡ v → Slack f u r → Slack g v m
slack_as {g = g} {u = u} {m = m} {r = r} l e h s =
    subst (λ (w : ℕ). Slack g w m) h (subst (λ (z : ℤ). Slack z u m) e (le_trans (mul-le-mul_right u l) s))
