-- Which codes a column holds: those from the code before it, itself left out unless equal, to its own. Assumes nothing.
use Prim.Native.Nat.{ℕ, zero, suc, ◌+◌, ◌-◌, ◌≤◌, ◌<◌}
use native.Mathlib.Decide.{dec_le}
use native.Mathlib.Omega.{arith}
use mathlib.Core.Bool.{Bool, true, false, not, ◌&&◌}
use mathlib.Core.List.{List, [], ◌∷◌, map}
use mathlib.Core.Logic.{◌⊎◌, inl, inr}
use mathlib.Core.Path.{◌≡◌, refl, sym, ap, ap₂, subst, ◌∙◌}
use borrow.Author.Tests.{leb-true, le-leb, lt-leb}
use lib.Dec.{leb}
use lib.IntN.{ℤ, pos, nat_abs, ◌+ℤ◌, ◌-ℤ◌, +ℤ_idr}
use lib.Signed.{le_z, lt_z}
use Rattle.ground.specs.Lists.{All, Some, from}
use Rattle.std.specs.Prelude.{if◌then◌else◌}
use Rattle.ground.proofs.Branches.{and_left, and_right, false_true}
use Rattle.ground.proofs.Counting.{rest_all, all_made}
use Rattle.ground.proofs.Differences.{parts, pos_parts, add_parts, sub_parts, same_parts, le_parts, abs_parts}
use Rattle.ground.proofs.Lists.{all_map}
use Rattle.ground.proofs.Order.{le_z_refl, le_z_trans, le_z_add}
use Rattle.rules.specs.Frame.{code_at, fill, held_span, held_codes}
use Rattle.rules.specs.Ranges.{Span, within, upwards}
use Rattle.laws.proofs.Spaces.{not_less}
use Rattle.laws.proofs.SpanNumbers.{up_within}

-- ---- steps from one code to another

-- from lo it is hi - lo steps up to hi
steps : (lo hi : ℤ) → le_z lo hi ≡ true → lo +ℤ pos (nat_abs (hi -ℤ lo)) ≡ hi
steps lo hi h =
    let (a, b, l) = parts lo in
    let (c, d, u) = parts hi in
    let rises = leb-true (a + d) (c + b) (sym (le_parts l u) ∙ h) in
    same_parts (add_parts l (pos_parts (nat_abs (hi -ℤ lo)))) u (omega (arith, rises, abs_parts (sub_parts u l)))

-- fewer steps from a code come no higher
fewer : (a : ℤ) (j k : ℕ) → le_z (a +ℤ pos j) (a +ℤ pos k) ≡ true → j ≤ k
fewer a j k h =
    let (m, n, p) = parts a in
    omega (arith, leb-true (m + j + (n + 0)) (m + k + (n + 0)) (sym (le_parts (add_parts p (pos_parts j)) (add_parts p (pos_parts k))) ∙ h))

flip : (x y : Bool) → not x ≡ y → x ≡ not y
flip true y e = ap not e
flip false y e = ap not e

pub less_not : (a c : ℤ) → lt_z a c ≡ not (le_z c a)
less_not a c = flip (lt_z a c) (le_z c a) (not_less a c)

leb_next : (m n p q : ℕ) → p ≡ m + 1 → q ≡ n → leb p q ≡ not (leb n m)
leb_next m n p q e f = go (dec_le n m)
  where
    go : Dec (n ≤ m) → leb p q ≡ not (leb n m)
    go (yes l) = lt-leb p q (omega arith) ∙ ap not (sym (le-leb n m l))
    go (no l) = le-leb p q (omega arith) ∙ ap not (sym (lt-leb n m (omega arith)))

-- from the next code on is past this one
from_next : (a c : ℤ) → le_z (a +ℤ pos 1) c ≡ lt_z a c
from_next a c =
    let (m, n, p) = parts a in
    let (i, j, q) = parts c in
    le_parts (add_parts p (pos_parts 1)) q
    ∙ leb_next (m + j) (i + n) (m + 1 + j) (i + (n + 0)) (omega arith) (omega arith)
    ∙ ap not (sym (le_parts q p))
    ∙ sym (less_not a c)

-- up to the code before is short of this one
to_previous : (a c : ℤ) → le_z c (a -ℤ pos 1) ≡ lt_z c a
to_previous a c =
    let (m, n, p) = parts a in
    let (i, j, q) = parts c in
    le_parts q (sub_parts p (pos_parts 1))
    ∙ leb_next (i + n) (m + j) (i + (n + 1)) (m + 0 + j) (omega arith) (omega arith)
    ∙ ap not (sym (le_parts p q))
    ∙ sym (less_not c a)

-- ---- the codes of a span

some_at : {A : Type 0} (P : A → Type 0) (f : ℕ → A) (start n k : ℕ) → start ≤ k → k < start + n → P (f k) → Some P (map f (from start n))
unfolding from
some_at P f start zero k a b h = absurd (omega arith)
some_at P f start (suc n) k a b h = go (dec_le (suc start) k) (λ l. some_at P f (suc start) n k l (omega arith) h)
  where
    go : Dec (suc start ≤ k) → (suc start ≤ k → Some P (map f (from (suc start) n))) → P (f start) ⊎ Some P (map f (from (suc start) n))
    go (yes l) later = inr (later l)
    go (no l) later = let e : k ≡ start = omega arith in inl (subst (λ (i : ℕ). P (f i)) e h)

module _ (s : Span) (h : le_z s.lo s.hi ≡ true) where
  abbrev last : ℕ
  last = nat_abs (s.hi -ℤ s.lo)

  abbrev step : ℕ → ℤ
  step i = s.lo +ℤ pos i

  -- each of them is in it
  codes_within : All (λ c. within s c ≡ true) (upwards s)
  codes_within = subst (λ (ks : List ℕ). All (λ c. within s c ≡ true) (map step ks)) (rest_all (suc last)) (all_made (λ c. within s c ≡ true) step (suc last) (up_within s h))

  -- and each that is in it is one of them
  codes_all : (c : ℤ) → within s c ≡ true → Some (λ d. d ≡ c) (upwards s)
  codes_all c w =
      let low : le_z s.lo c ≡ true = and_left (le_z s.lo c) (le_z c s.hi) w in
      let high : le_z c s.hi ≡ true = and_right (le_z s.lo c) (le_z c s.hi) w in
      let k = nat_abs (c -ℤ s.lo) in
      let few : k ≤ last = fewer s.lo k last (ap₂ le_z (steps s.lo c low) (steps s.lo s.hi h) ∙ high) in
      some_at (λ d. d ≡ c) step 0 (suc last) k (omega arith) (omega arith) (steps s.lo c low)

-- ---- what is filled

-- c lies past the code before and up to this code, upwards or downwards; or all three are one
abbrev pub Lies : ℤ → ℤ → ℤ → Type 0
Lies before code c =
    ((lt_z before c ≡ true) × (le_z c code ≡ true)) ⊎ (((le_z code c ≡ true) × (lt_z c before ≡ true)) ⊎ ((before ≡ code) × (c ≡ code)))

not_above : (a c : ℤ) → lt_z a c ≡ false → le_z c a ≡ true
not_above a c e = sym (not_less a c) ∙ ap not e

equal : (a c : ℤ) → le_z a c ≡ true → le_z c a ≡ true → a ≡ c
equal a c h k =
    let (m, n, p) = parts a in
    let (i, j, q) = parts c in
    let up = leb-true (m + j) (i + n) (sym (le_parts p q) ∙ h) in
    let down = leb-true (i + n) (m + j) (sym (le_parts q p) ∙ k) in
    same_parts p q (omega (arith, up, down))

-- not both
apart : {A : Type 0} (a c : ℤ) → lt_z a c ≡ true → le_z c a ≡ true → A
apart a c h k = false_true (sym (ap not h) ∙ not_less a c ∙ k)

less_weak : (a c : ℤ) → lt_z a c ≡ true → le_z a c ≡ true
less_weak a c h = le_z_trans a (a +ℤ pos 1) c (rw (+ℤ_idr a) at (le_z_add a 0 1 (omega arith))) (from_next a c ∙ h)

module _ (before code : ℤ) where
  abbrev rising : Span
  rising = record { lo = before +ℤ pos 1; hi = code }

  abbrev falling : Span
  falling = record { lo = code; hi = before -ℤ pos 1 }

  abbrev pub level : Span
  level = record { lo = code; hi = code }

  -- what is so of each of the three, where it is the one, is so of what is filled
  by_slope : (P : Span → Type 0) → (lt_z before code ≡ true → P rising) → (lt_z code before ≡ true → P falling) → (before ≡ code → P level) → P (fill before code)
  by_slope P up down same = go (lt_z before code) (lt_z code before) refl refl
    where
      go : (s t : Bool) → lt_z before code ≡ s → lt_z code before ≡ t → P (if s then rising else (if t then falling else level))
      go true t e f = up e
      go false true e f = down f
      go false false e f = same (equal before code (not_above code before f) (not_above before code e))

  fill_rises : le_z (fill before code).lo (fill before code).hi ≡ true
  fill_rises = by_slope (λ s. le_z s.lo s.hi ≡ true) (λ l. from_next before code ∙ l) (λ l. to_previous before code ∙ l) (λ e. le_z_refl code)

  within_lies : (c : ℤ) → within (fill before code) c ≡ true → Lies before code c
  within_lies c =
      by_slope (λ s. within s c ≡ true → Lies before code c)
      (λ l w. inl (sym (from_next before c) ∙ and_left (le_z (before +ℤ pos 1) c) (le_z c code) w, and_right (le_z (before +ℤ pos 1) c) (le_z c code) w))
      (λ l w. inr (inl (and_left (le_z code c) (le_z c (before -ℤ pos 1)) w, sym (to_previous before c) ∙ and_right (le_z code c) (le_z c (before -ℤ pos 1)) w)))
      (λ e w. inr (inr (e, equal c code (and_right (le_z code c) (le_z c code) w) (and_left (le_z code c) (le_z c code) w))))

  lies_within : (c : ℤ) → Lies before code c → within (fill before code) c ≡ true
  lies_within c = by_slope (λ s. Lies before code c → within s c ≡ true) up down same
    where
      up : lt_z before code ≡ true → Lies before code c → within rising c ≡ true
      up l (inl (a, b)) = ap₂ ◌&&◌ (from_next before c ∙ a) b
      up l (inr (inl (a, b))) = apart before code l (le_z_trans code c before a (less_weak c before b))
      up l (inr (inr (e, f))) = apart before code l (subst (λ (z : ℤ). le_z code z ≡ true) (sym e) (le_z_refl code))

      down : lt_z code before ≡ true → Lies before code c → within falling c ≡ true
      down l (inl (a, b)) = apart code before l (le_z_trans before c code (less_weak before c a) b)
      down l (inr (inl (a, b))) = ap₂ ◌&&◌ a (to_previous before c ∙ b)
      down l (inr (inr (e, f))) = apart code before l (subst (λ (z : ℤ). le_z z code ≡ true) (sym e) (le_z_refl code))

      same : before ≡ code → Lies before code c → within level c ≡ true
      same e (inl (a, b)) = apart before c a (subst (λ (z : ℤ). le_z c z ≡ true) (sym e) b)
      same e (inr (inl (a, b))) = apart c before b (subst (λ (z : ℤ). le_z z c ≡ true) (sym e) a)
      same e (inr (inr (_, f))) = let is : within level code ≡ true = ap₂ ◌&&◌ (le_z_refl code) (le_z_refl code) in subst (λ (z : ℤ). within level z ≡ true) (sym f) is

  -- a span that has both codes has every code between
  fill_in : (s : Span) → within s before ≡ true → within s code ≡ true → (c : ℤ) → within (fill before code) c ≡ true → within s c ≡ true
  fill_in s b o c w = go (within_lies c w)
    where
      above : (d : ℤ) → within s d ≡ true → le_z d c ≡ true → le_z s.lo c ≡ true
      above d h l = le_z_trans s.lo d c (and_left (le_z s.lo d) (le_z d s.hi) h) l

      under : (d : ℤ) → within s d ≡ true → le_z c d ≡ true → le_z c s.hi ≡ true
      under d h l = le_z_trans c d s.hi l (and_right (le_z s.lo d) (le_z d s.hi) h)

      go : Lies before code c → within s c ≡ true
      go (inl (l, m)) = ap₂ ◌&&◌ (above before b (less_weak before c l)) (under code o m)
      go (inr (inl (l, m))) = ap₂ ◌&&◌ (above code o l) (under before b (less_weak c before m))
      go (inr (inr (_, e))) = subst (λ (d : ℤ). within s d ≡ true) (sym e) o

-- from a code to itself that code alone is filled: sample 0 is as one that comes from its own code
fill_own : (code : ℤ) → fill code code ≡ level code code
fill_own code = by_slope code code (λ s. s ≡ level code code) (λ l. apart code code l (le_z_refl code)) (λ l. apart code code l (le_z_refl code)) (λ e. refl)

pub held_from : (samples : List ℤ) (k : ℕ) → held_span samples k ≡ fill (code_at samples (k - 1)) (code_at samples k)
held_from samples zero = let first : 0 ≡ 0 - 1 = omega arith in sym (fill_own (code_at samples 0)) ∙ ap (λ (j : ℕ). fill (code_at samples j) (code_at samples 0)) first
held_from samples (suc k) = let last : k ≡ suc k - 1 = omega arith in ap (λ (j : ℕ). fill (code_at samples j) (code_at samples (suc k))) last

-- a span that has every sample of a frame has every code that its columns hold
pub held_in : (s : Span) (samples : List ℤ) (n : ℕ) → ((j : ℕ) → j < n → within s (code_at samples j) ≡ true) → (k : ℕ) → k < n
    → All (λ c. within s c ≡ true) (held_codes samples k)
held_in s samples n h k l =
    let before = code_at samples (k - 1) in
    let own = code_at samples k in
    subst (λ (f : Span). All (λ c. within s c ≡ true) (upwards f)) (sym (held_from samples k))
    (all_map (λ c. within (fill before own) c ≡ true) (λ c. within s c ≡ true) (fill_in before own s (h (k - 1) (omega arith)) (h k l)) (upwards (fill before own))
    (codes_within (fill before own) (fill_rises before own)))

-- sample 0 holds its own code alone
pub held_first : (samples : List ℤ) → held_codes samples 0 ≡ code_at samples 0 ∷ []
unfolding from
held_first samples =
    let own = code_at samples 0 in
    let (a, b, p) = parts own in
    let none : nat_abs (own -ℤ own) ≡ 0 = omega (arith, abs_parts (sub_parts p p)) in
    ap (λ (n : ℕ). map (λ i. own +ℤ pos i) (from 0 (suc n))) none ∙ ap (λ (c : ℤ). c ∷ []) (+ℤ_idr own)

-- the codes that the column of a later sample holds are those that lie so
module _ (samples : List ℤ) (k : ℕ) where
  abbrev before : ℤ
  before = code_at samples k

  abbrev own : ℤ
  own = code_at samples (suc k)

  pub held_lie : All (Lies before own) (held_codes samples (suc k))
  held_lie = all_map (λ c. within (fill before own) c ≡ true) (Lies before own) (within_lies before own) (held_codes samples (suc k)) (codes_within (fill before own) (fill_rises before own))

  pub lie_held : (c : ℤ) → Lies before own c → Some (λ d. d ≡ c) (held_codes samples (suc k))
  lie_held c l = codes_all (fill before own) (fill_rises before own) c (lies_within before own c l)
