-- Sets within sets, and what a set of chosen primitives leaves of another. Assumes nothing.
use Prim.Native.Nat.{ℕ, zero, suc, ◌/◌, ◌^◌, ◌≤◌, ◌<◌}
use native.Mathlib.Omega.{arith}
use mathlib.Core.Bool.{Bool, true, false, ◌||◌}
use mathlib.Core.List.{List, [], ◌∷◌}
use mathlib.Core.Path.{◌≡◌, refl, sym, ap, ap₂, ◌∙◌}
use native.Mathlib.Nat.{pow-suc, mul-div_cancel, mul-mod_left}
use lib.Bits.{bit_and, bit_or, and_comm, and_self, and_zero_l, or_comm, or_add_and, and_le_r, or_shr}
use lib.Dec.{eqb}
use lib.ListN.{length, get_or}
use Rattle.std.specs.Prelude.{if◌then◌else◌}
use Rattle.ground.specs.Bits.{odd}
use Rattle.ground.proofs.Masks.{has, has_or, same_places, and_assoc, Within, within_self, within_has, has_within, has_both, both_has, has_left}
use Rattle.laws.specs.Reach.{cut_down}

-- ---- sets within sets

pub within_either : (a b r : ℕ) → Within (bit_or a b) r → Within a r
within_either a b r h = has_within a r (λ i p. within_has (bit_or a b) r h i (has_left a b i p))

pub within_then : (a b c : ℕ) → Within a b → Within b c → Within a c
within_then a b c s t = has_within a c (λ i h. within_has b c t i (within_has a b s i h))

pub within_both : (x a b : ℕ) → Within x a → Within x b → Within x (bit_and a b)
within_both x a b s t = has_within x (bit_and a b) (λ i h. has_both a b i (within_has x a s i h) (within_has x b t i h))

pub within_same : (a b : ℕ) → Within a b → Within b a → a ≡ b
within_same a b s t = sym s ∙ and_comm a b ∙ t

pub none_in_less : (x R S : ℕ) → Within S R → bit_and x R ≡ 0 → bit_and x S ≡ 0
none_in_less x R S h e = ap (λ (y : ℕ). bit_and x y) (sym h ∙ and_comm S R) ∙ sym (and_assoc x R S) ∙ ap (λ (y : ℕ). bit_and y S) e ∙ and_zero_l S

pub or_most : (a b : ℕ) → a ≤ bit_or a b
or_most a b = omega (arith, or_add_and a b, and_le_r a b)

pub or_most_right : (a b : ℕ) → b ≤ bit_or a b
or_most_right a b = rw (or_comm a b) (or_most b a)

pub or_assoc : (a b c : ℕ) → bit_or (bit_or a b) c ≡ bit_or a (bit_or b c)
or_assoc a b c = same_places _ _ (λ i. simp has_or (mathlib.Core.Bool.or_assoc (has i a) (has i b) (has i c)))

-- ---- what is left of a set

pub cut_within : (ms : List ℕ) (P W : ℕ) → Within (cut_down ms P W) W
unfolding cut_down
cut_within [] P W = within_self W
cut_within (m ∷ ms) P W = go (odd P) (cut_within ms (P / 2))
  where
    go : (o : Bool) → ((X : ℕ) → Within (cut_down ms (P / 2) X) X) → Within (cut_down ms (P / 2) (if o then bit_and m W else W)) W
    go true f = within_then _ (bit_and m W) W (f (bit_and m W)) (has_within (bit_and m W) W (λ i h. (both_has m W i h).1))
    go false f = f W

odd_or : (P Q : ℕ) → odd (bit_or P Q) ≡ (odd P || odd Q)
unfolding has
odd_or P Q = has_or 0 P Q

cut_two : (ms : List ℕ) (P Q A B : ℕ) → cut_down ms (bit_or P Q) (bit_and A B) ≡ bit_and (cut_down ms P A) (cut_down ms Q B)
unfolding cut_down
cut_two [] P Q A B = refl
cut_two (m ∷ ms) P Q A B =
    ap₂ (λ (o : Bool) (n : ℕ). cut_down ms n (if o then bit_and m (bit_and A B) else bit_and A B)) (odd_or P Q) (or_shr P Q 1)
    ∙ go (odd P) (odd Q) (cut_two ms (P / 2) (Q / 2))
  where
    swap : bit_and m (bit_and A B) ≡ bit_and A (bit_and m B)
    swap = sym (and_assoc m A B) ∙ ap (λ (x : ℕ). bit_and x B) (and_comm m A) ∙ and_assoc A m B

    twice : bit_and m (bit_and A B) ≡ bit_and (bit_and m A) (bit_and m B)
    twice = ap (λ (x : ℕ). bit_and x (bit_and A B)) (sym (and_self m)) ∙ and_assoc m m (bit_and A B) ∙ ap (bit_and m) swap ∙ sym (and_assoc m A (bit_and m B))

    go : (o p : Bool) → ((A B : ℕ) → cut_down ms (bit_or (P / 2) (Q / 2)) (bit_and A B) ≡ bit_and (cut_down ms (P / 2) A) (cut_down ms (Q / 2) B))
        → cut_down ms (bit_or (P / 2) (Q / 2)) (if o || p then bit_and m (bit_and A B) else bit_and A B)
        ≡ bit_and (cut_down ms (P / 2) (if o then bit_and m A else A)) (cut_down ms (Q / 2) (if p then bit_and m B else B))
    go true true f = ap (cut_down ms (bit_or (P / 2) (Q / 2))) twice ∙ f (bit_and m A) (bit_and m B)
    go true false f = ap (cut_down ms (bit_or (P / 2) (Q / 2))) (sym (and_assoc m A B)) ∙ f (bit_and m A) B
    go false true f = ap (cut_down ms (bit_or (P / 2) (Q / 2))) swap ∙ f A (bit_and m B)
    go false false f = f A B

-- the reach of two sets together is what both reach
pub cut_or : (ms : List ℕ) (P Q W : ℕ) → cut_down ms (bit_or P Q) W ≡ bit_and (cut_down ms P W) (cut_down ms Q W)
cut_or ms P Q W = ap (cut_down ms (bit_or P Q)) (sym (and_self W)) ∙ cut_two ms P Q W W

pub cut_none : (ms : List ℕ) (W : ℕ) → cut_down ms 0 W ≡ W
unfolding cut_down
cut_none [] W = refl
cut_none (m ∷ ms) W = cut_none ms W

two : 0 < 2
two = omega arith

-- of one primitive
pub cut_one : (ms : List ℕ) (i W : ℕ) → i < length ms → cut_down ms (2 ^ i) W ≡ bit_and (get_or ms i 0) W
unfolding cut_down
cut_one [] i W l = absurd (omega arith)
cut_one (m ∷ ms) zero W l = cut_none ms (bit_and m W)
cut_one (m ∷ ms) (suc i) W l =
    let half : 2 ^ suc i / 2 ≡ 2 ^ i = ap (λ (n : ℕ). n / 2) (pow-suc 2 i) ∙ mul-div_cancel (2 ^ i) two in
    let even : odd (2 ^ suc i) ≡ false = ap (λ (x : ℕ). odd x) (pow-suc 2 i) ∙ ap (λ (x : ℕ). eqb x 1) (mul-mod_left (2 ^ i) 2) in
    ap₂ (λ (o : Bool) (n : ℕ). cut_down ms n (if o then bit_and m W else W)) even half ∙ cut_one ms i W (omega arith)
