-- The walk down a plan with a memory of what is old: right part first in a `both`, left before right in an `either`; what it hands over is the list. Assumes nothing.
use Prim.Native.Nat.{ℕ, zero, suc, ◌+◌, ◌-◌, ◌*◌, ◌/◌, ◌%◌, ◌^◌, ◌≤◌, ◌<◌}
use native.Mathlib.Nat.{mul_comm, mul-suc, add-suc, add-zero, mul-zero}
use native.Mathlib.Omega.{arith}
use mathlib.Core.Bool.{Bool, true, false, not, ◌&&◌, ◌||◌, or-false}
use mathlib.Core.List.{List, [], ◌∷◌, ◌++◌, append-nil, append_assoc}
use mathlib.Core.Path.{◌≡◌, refl, sym, ap, ap₂, ◌∙◌, fun_ext}
use borrow.Author.Tests.{lt-ltb, le-ltb}
use lib.Arith.{digits_div, digits_mod}
use lib.Bits.{bit_and, bit_or, or_zero_r, or_zero_l, and_comm, and_zero_l}
use lib.Dec.{ltb, eqb}
use lib.ListN.{take}
use Rattle.std.specs.Prelude.{if◌then◌else◌}
use Rattle.ground.proofs.Masks.{and_assoc, or_and, and_or, Within, within_cut}
use Rattle.rules.specs.declared.Product.{Product}
use Rattle.rules.specs.Choices.{joined}
use Rattle.laws.specs.Survivors.{pruned, survivors}
use Rattle.laws.specs.Plans.{Plan, with_it, without, either, both, ways, count, kth, mask, Apart, blank, hollow, fresh, nothing}
use Rattle.laws.proofs.Survivors.{survivors_next, survivors_none, survivors_all}
use Rattle.laws.proofs.Ways.{Of, kth_within}
use Rattle.repeats.specs.Repeats.{clear}
use Rattle.walk.proofs.Sets.{or_most, or_most_right, or_assoc}

-- ---- runs of n parts
unfoldable pub runs : ℕ → (ℕ → List Product) → List Product
runs zero f = []
runs (suc n) f = runs n f ++ f n

pub runs_cong : (n : ℕ) (f g : ℕ → List Product) → ((i : ℕ) → i < n → f i ≡ g i) → runs n f ≡ runs n g
unfolding runs
runs_cong zero f g h = refl
runs_cong (suc n) f g h = ap₂ {C = List Product} (λ x y. x ++ y) (runs_cong n f g (λ i l. h i (omega arith))) (h n (omega arith))

pub runs_add : (n m : ℕ) (f : ℕ → List Product) → runs (n + m) f ≡ runs n f ++ runs m (λ j. f (n + j))
unfolding runs
runs_add n zero f = ap (λ (x : ℕ). runs x f) (add-zero n) ∙ sym (append-nil (runs n f))
runs_add n (suc m) f =
    ap (λ (x : ℕ). runs x f) (add-suc n m) ∙ ap (λ (l : List Product). l ++ f (n + m)) (runs_add n m f)
    ∙ append_assoc (runs n f) (runs m (λ j. f (n + j))) (f (n + m))

pub runs_mul : (n m : ℕ) (f : ℕ → List Product) → runs (n * m) f ≡ runs m (λ j. runs n (λ i. f (j * n + i)))
unfolding runs
runs_mul n zero f = ap (λ (x : ℕ). runs x f) (mul-zero n)
runs_mul n (suc m) f =
    let e : n * suc m ≡ n * m + n = omega (arith, mul-suc n m) in
    ap (λ (x : ℕ). runs x f) e ∙ runs_add (n * m) n f
    ∙ ap₂ {C = List Product} (λ x y. x ++ y) (runs_mul n m f) (runs_cong n (λ i. f (n * m + i)) (λ i. f (m * n + i)) (λ i l. ap (λ (x : ℕ). f (x + i)) (mul_comm n m)))

-- ---- masks
or_turn : (c y x : ℕ) → bit_or (bit_or c y) x ≡ bit_or c (bit_or x y)
or_turn c y x = or_assoc c y x ∙ ap (bit_or c) (lib.Bits.or_comm y x)

pub join_turn : (c x y : Product) → joined (joined c y) x ≡ joined c (joined x y)
join_turn c x y = ap₂ {C = Product} (λ p n. record { plain = p; cuts = n }) (or_turn c.plain y.plain x.plain) (or_turn c.cuts y.cuts x.cuts)

pub join_none : (x : Product) → joined nothing x ≡ x
join_none x = ap₂ {C = Product} (λ p n. record { plain = p; cuts = n }) (or_zero_l x.plain) (or_zero_l x.cuts)

-- nothing of m is chosen yet
abbrev pub Off : ℕ → Product → Type 0
Off m c = (bit_and c.plain m ≡ 0) × (bit_and c.cuts m ≡ 0)

off_part : (x a b : ℕ) → bit_and x (bit_or a b) ≡ 0 → (bit_and x a ≡ 0) × (bit_and x b ≡ 0)
off_part x a b e = go (bit_and x a) (bit_and x b) (sym (and_or x a b) ∙ e)
  where
    go : (u v : ℕ) → bit_or u v ≡ 0 → (u ≡ 0) × (v ≡ 0)
    go u v h = (omega (arith, or_most u v), omega (arith, or_most_right u v))

pub off_l : (c : Product) (a b : ℕ) → Off (bit_or a b) c → Off a c
off_l c a b h = ((off_part c.plain a b h.0).0, (off_part c.cuts a b h.1).0)

pub off_r : (c : Product) (a b : ℕ) → Off (bit_or a b) c → Off b c
off_r c a b h = ((off_part c.plain a b h.0).1, (off_part c.cuts a b h.1).1)

-- x lies in b, which is apart from a
apart_from : (x a b : ℕ) → Within x b → bit_and a b ≡ 0 → bit_and x a ≡ 0
apart_from x a b s h = ap (λ (y : ℕ). bit_and y a) (sym s) ∙ and_assoc x b a ∙ ap (bit_and x) (and_comm b a ∙ h) ∙ and_comm x 0 ∙ and_zero_l x

or_off : (c x a : ℕ) → bit_and c a ≡ 0 → bit_and x a ≡ 0 → bit_and (bit_or c x) a ≡ 0
or_off c x a h k = or_and c x a ∙ ap₂ bit_or h k ∙ or_zero_r 0

pub off_join : (c x : Product) (a b : ℕ) → Off a c → Of b x → bit_and a b ≡ 0 → Off a (joined c x)
off_join c x a b h w s = (or_off c.plain x.plain a h.0 (apart_from x.plain a b w.0 s), or_off c.cuts x.cuts a h.1 (apart_from x.cuts a b w.1 s))

own_part : (c x b : ℕ) → bit_and c b ≡ 0 → Within x b → bit_and (bit_or c x) b ≡ x
own_part c x b h s = or_and c x b ∙ ap₂ bit_or h s ∙ or_zero_l x

-- the has that the code makes of the whole is the has of the part
pub clear_hollow : (c x : Product) (b R : ℕ) → Off b c → Of b x → clear b (joined c x).plain (bit_and (joined c x).cuts R) ≡ hollow x R
clear_hollow c x b R h w =
    let z : bit_and (bit_and c.cuts R) b ≡ 0 = and_assoc c.cuts R b ∙ ap (bit_and c.cuts) (and_comm R b) ∙ sym (and_assoc c.cuts b R) ∙ ap (λ (y : ℕ). bit_and y R) h.1 ∙ and_zero_l R in
    ap₂ (λ (p n : ℕ). eqb p 0 && eqb n 0) (own_part c.plain x.plain b h.0 w.0)
    (ap (λ (y : ℕ). bit_and y b) (or_and c.cuts x.cuts R) ∙ own_part (bit_and c.cuts R) (bit_and x.cuts R) b z (within_cut x.cuts b R w.1))

abbrev pub Cont : Type 0
Cont = Product → (ℕ → Bool) → List Product

-- what is known to be old once the right part of an `either` is chosen
abbrev pub older : Plan → Plan → Product → (ℕ → Bool) → ℕ → Bool
older a b c old R = old R || (clear (mask b) c.plain (bit_and c.cuts R) && blank a R)

-- THE WALK, with what comes after it
unfoldable pub down : Plan → Product → (ℕ → Bool) → Cont → List Product
down (with_it i) c old k = k (joined c (record { plain = 2 ^ i; cuts = 0 })) old
down (without i) c old k = k (joined c (record { plain = 0; cuts = 2 ^ i })) old
down (either a b) c old k = down a c old k ++ down b c old (λ x o. k x (older a b x o))
down (both a b) c old k = down b c old (λ x o. down a x o k)

pub bool_both : (o fa fb : Bool) → ((o || not fb) || not fa) ≡ (o || not (fa && fb))
bool_both true fa fb = refl
bool_both false true true = refl
bool_both false true false = refl
bool_both false false true = refl
bool_both false false false = refl

pub bool_right : (o f h e : Bool) → ((o || not f) || (h && e)) ≡ (o || not (f && not (h && e)))
bool_right true f h e = refl
bool_right false true true true = refl
bool_right false true true false = refl
bool_right false true false e = refl
bool_right false false h e = refl

pub down_runs : (p : Plan) → Apart p → (c : Product) → Off (mask p) c → (old : ℕ → Bool) (k : Cont)
    → down p c old k ≡ runs (count p) (λ j. k (joined c (kth p j)) (λ R. old R || not (fresh p j R)))
unfolding down runs count kth fresh mask Apart
down_runs (with_it i) h c o old k = ap (k (joined c (record { plain = 2 ^ i; cuts = 0 }))) (fun_ext (λ R. sym (or-false (old R))))
down_runs (without i) h c o old k = ap (k (joined c (record { plain = 0; cuts = 2 ^ i }))) (fun_ext (λ R. sym (or-false (old R))))
down_runs (either a b) h c o old k =
    ap₂ {C = List Product} (λ x y. x ++ y)
    (down_runs a h.1.0 c (off_l c (mask a) (mask b) o) old k
    ∙ runs_cong (count a) (λ j. k (joined c (kth a j)) (λ R. old R || not (fresh a j R))) F
    (λ j l. sym (ap (λ (t : Bool). k (joined c (if◌then◌else◌ t (kth a j) (kth b (j - count a)))) (λ R. old R || not (if◌then◌else◌ t (fresh a j R) (fresh b (j - count a) R && not (hollow (kth b (j - count a)) R && blank a R))))) (lt-ltb j (count a) l))))
    (down_runs b h.1.1 c (off_r c (mask a) (mask b) o) old (λ x o. k x (older a b x o))
    ∙ runs_cong (count b) (λ j. k (joined c (kth b j)) (older a b (joined c (kth b j)) (λ R. old R || not (fresh b j R)))) (λ j. F (count a + j))
    (λ j l. ap (k (joined c (kth b j))) (fun_ext (λ R.
    ap (λ (t : Bool). (old R || not (fresh b j R)) || (t && blank a R)) (clear_hollow c (kth b j) (mask b) R (off_r c (mask a) (mask b) o) (kth_within b j l))
    ∙ bool_right (old R) (fresh b j R) (hollow (kth b j) R) (blank a R)))
    ∙ sym (right j)))
    ∙ sym (runs_add (count a) (count b) F)
  where
    F : ℕ → List Product
    F j = k (joined c (if◌then◌else◌ (ltb j (count a)) (kth a j) (kth b (j - count a)))) (λ R. old R || not (if◌then◌else◌ (ltb j (count a)) (fresh a j R) (fresh b (j - count a) R && not (hollow (kth b (j - count a)) R && blank a R))))

    right : (j : ℕ) → F (count a + j) ≡ k (joined c (kth b j)) (λ R. old R || not (fresh b j R && not (hollow (kth b j) R && blank a R)))
    right j =
        let s : count a + j - count a ≡ j = omega arith in
        ap (λ (t : Bool). k (joined c (if◌then◌else◌ t (kth a (count a + j)) (kth b (count a + j - count a)))) (λ R. old R || not (if◌then◌else◌ t (fresh a (count a + j) R) (fresh b (count a + j - count a) R && not (hollow (kth b (count a + j - count a)) R && blank a R))))) (le-ltb (count a + j) (count a) (omega arith))
        ∙ ap (λ (i : ℕ). k (joined c (kth b i)) (λ R. old R || not (fresh b i R && not (hollow (kth b i) R && blank a R)))) s
down_runs (both a b) h c o old k =
    down_runs b h.1.1 c (off_r c (mask a) (mask b) o) old (λ x o. down a x o k)
    ∙ runs_cong (count b) (λ j. down a (joined c (kth b j)) (λ R. old R || not (fresh b j R)) k) (λ j. runs (count a) (λ i. F (j * count a + i)))
    (λ j lj. down_runs a h.1.0 (joined c (kth b j)) (off_join c (kth b j) (mask a) (mask b) (off_l c (mask a) (mask b) o) (kth_within b j lj) h.0) (λ R. old R || not (fresh b j R)) k
    ∙ runs_cong (count a) (λ i. k (joined (joined c (kth b j)) (kth a i)) (λ R. (old R || not (fresh b j R)) || not (fresh a i R))) (λ i. F (j * count a + i))
    (λ i li. ap₂ {C = List Product} k (join_turn c (kth a i) (kth b j)) (fun_ext (λ R. bool_both (old R) (fresh a i R) (fresh b j R)))
    ∙ sym (ap₂ {C = List Product} (λ x y. k (joined c (joined (kth a x) (kth b y))) (λ R. old R || not (fresh a x R && fresh b y R))) (digits_mod j li) (digits_div j li))))
    ∙ sym (runs_mul (count a) (count b) F)
  where
    F : ℕ → List Product
    F j = k (joined c (joined (kth a (j % count a)) (kth b (j / count a)))) (λ R. old R || not (fresh a (j % count a) R && fresh b (j / count a) R))

-- ---- the list is what the walk hands over
module _ (alive : ℕ → Bool) (reach : ℕ → ℕ) where
  abbrev pub emit : Cont
  emit c old = if alive c.plain && not (old (reach c.plain)) then pruned alive reach c ∷ [] else []

  not_not : (b : Bool) → not (not b) ≡ b
  not_not true = refl
  not_not false = refl

  survivors_runs : (p : Plan) → Apart p → (k : ℕ) → k ≤ count p → survivors alive reach (take k (ways p)) ≡ runs k (λ j. emit (kth p j) (λ R. not (fresh p j R)))
  unfolding runs
  survivors_runs p apart zero h = survivors_none alive reach (ways p)
  survivors_runs p apart (suc k) h =
      survivors_next alive reach p apart k (omega arith)
      ∙ ap₂ {C = List Product} (λ (l : List Product) (t : Bool). l ++ (if alive (kth p k).plain && t then pruned alive reach (kth p k) ∷ [] else []))
      (survivors_runs p apart k (omega arith)) (sym (not_not (fresh p k (reach (kth p k).plain))))

  pub down_survivors : (p : Plan) → Apart p → down p nothing (λ R. false) emit ≡ survivors alive reach (ways p)
  down_survivors p apart =
      down_runs p apart nothing (and_zero_l (mask p), and_zero_l (mask p)) (λ R. false) emit
      ∙ runs_cong (count p) (λ j. emit (joined nothing (kth p j)) (λ R. not (fresh p j R))) (λ j. emit (kth p j) (λ R. not (fresh p j R))) (λ j l. ap (λ (x : Product). emit x (λ R. not (fresh p j R))) (join_none (kth p j)))
      ∙ sym (survivors_runs p apart (count p) (omega arith))
      ∙ ap (survivors alive reach) (survivors_all p)
