-- The walk that stops early: at each part the reach is cut by what the part can reach at all; where a chosen primitive is out of it, or the choice is old within it, nothing below is listed. Assumes nothing.
use Prim.Native.Nat.{ℕ, ◌+◌, ◌-◌, ◌*◌, ◌/◌, ◌^◌, ◌<◌}
use native.Mathlib.Omega.{arith}
use mathlib.Core.Bool.{Bool, true, false, not, ◌&&◌, ◌||◌, or-false, or-true}
use mathlib.Core.List.{List, [], ◌∷◌, ◌++◌}
use mathlib.Core.Logic.{◌⊎◌, inl, inr}
use mathlib.Core.Path.{◌≡◌, refl, sym, ap, ap₂, ◌∙◌, subst, fun_ext}
use borrow.Author.Tests.{lt-ltb, le-ltb, eq-eqb, ne_eqb, eqb-true, eqb-false}
use lib.Arith.{digits_div, digits_mod}
use lib.Bits.{bit_and, bit_or, or_zero_r, or_zero_l, and_comm, and_zero_l}
use lib.Dec.{eqb}
use Rattle.std.specs.Prelude.{if◌then◌else◌}
use Rattle.ground.proofs.Masks.{and_assoc, or_and, Within, within_has, has_within, has_both, both_has, has_left, has_right}
use Rattle.rules.specs.declared.Product.{Product}
use Rattle.rules.specs.Choices.{joined}
use Rattle.laws.specs.Survivors.{pruned, survivors}
use Rattle.laws.specs.Plans.{Plan, with_it, without, either, both, only, except, ways, count, kth, mask, Apart, blank, hollow, fresh, nothing}
use Rattle.laws.specs.Reach.{cut_down}
use Rattle.laws.proofs.Ways.{Of, kth_within, pair_fits}
use Rattle.rows.specs.Masks.{span}
use Rattle.repeats.specs.Repeats.{clear, stale}
use Rattle.walk.specs.Walks.{dead, Rest, walk, finish}
use Rattle.walk.proofs.Sets.{within_either, within_then, within_both, within_same, none_in_less, cut_within, cut_or, cut_none}
use Rattle.walk.proofs.Older.{stale_smaller, blank_smaller, or_mono, and_mono}
use Rattle.walk.proofs.Stale.{stale_fresh}
use Rattle.walk.proofs.Descent.{Cont, older, down, emit, down_survivors, Off, off_l, off_r, off_join, join_turn, clear_hollow, bool_both, bool_right}

-- an old choice stays old in a smaller reach
abbrev pub Mono : (ℕ → Bool) → Type 0
Mono old = (R S : ℕ) → Within S R → old R ≡ true → old S ≡ true

pub older_mono : (a b : Plan) (c : Product) (old : ℕ → Bool) → Mono old → Mono (older a b c old)
older_mono a b c old mo R S s =
    or_mono (old R) (clear (mask b) c.plain (bit_and c.cuts R) && blank a R) (old S) (clear (mask b) c.plain (bit_and c.cuts S) && blank a S) (mo R S s)
    (and_mono (clear (mask b) c.plain (bit_and c.cuts R)) (blank a R) (clear (mask b) c.plain (bit_and c.cuts S)) (blank a S)
    (and_mono (eqb (bit_and c.plain (mask b)) 0) (eqb (bit_and (bit_and c.cuts R) (mask b)) 0) (eqb (bit_and c.plain (mask b)) 0) (eqb (bit_and (bit_and c.cuts S) (mask b)) 0) (λ e. e)
    (λ e. eq-eqb (bit_and (bit_and c.cuts S) (mask b)) 0 (turn S ∙ none_in_less (bit_and c.cuts (mask b)) R S s (sym (turn R) ∙ eqb-true (bit_and (bit_and c.cuts R) (mask b)) 0 e))))
    (blank_smaller a R S s))
  where
    turn : (X : ℕ) → bit_and (bit_and c.cuts X) (mask b) ≡ bit_and (bit_and c.cuts (mask b)) X
    turn X = and_assoc c.cuts X (mask b) ∙ ap (bit_and c.cuts) (and_comm X (mask b)) ∙ sym (and_assoc c.cuts (mask b) X)

-- a reason to stop
abbrev pub Stop : Product → (ℕ → Bool) → ℕ → Type 0
Stop c old R = (Within c.plain R → ⊥) ⊎ (old R ≡ true)

stop_smaller : (c : Product) (old : ℕ → Bool) (R S : ℕ) → Mono old → Within S R → Stop c old R → Stop c old S
stop_smaller c old R S mo s (inl f) = inl (λ h. f (within_then c.plain S R h s))
stop_smaller c old R S mo s (inr e) = inr (mo R S s e)

module _ (ms : List ℕ) (W : ℕ) where
  abbrev pub reach : ℕ → ℕ
  reach P = cut_down ms P W

  abbrev pub alive : ℕ → Bool
  alive P = eqb (bit_and P (reach P)) P

  abbrev spans : Plan → ℕ
  spans = span ms W

  abbrev walks : Plan → Product → ℕ → Rest → List Product
  walks = walk ms W

  in_window : (P : ℕ) → Within (reach P) W
  in_window P = cut_within ms P W

  -- what stops before a continuation, which can reach T at most, is not listed after it
  abbrev pub Safe : Cont → ℕ → Type 0
  Safe k T = (c : Product) (old : ℕ → Bool) → Mono old → Stop c old (bit_and (reach c.plain) T) → k c old ≡ []

  emit_safe : Safe (emit alive reach) W
  emit_safe c old mo s = go (rw (in_window c.plain) at s)
    where
      none_at : (b : Bool) → ◌≡◌ {A = List Product} (if◌then◌else◌ (b && false) (pruned alive reach c ∷ []) []) []
      none_at true = refl
      none_at false = refl

      go : Stop c old (reach c.plain) → emit alive reach c old ≡ []
      go (inl f) = rw (ne_eqb (bit_and c.plain (reach c.plain)) c.plain f)
      go (inr e) = rw e (none_at (alive c.plain))

  sub_more : (r a b T : ℕ) → Within (bit_and r (bit_and a T)) (bit_and r (bit_and (bit_or a b) T))
  sub_more r a b T = has_within _ _ (λ i h. let x = (both_has r (bit_and a T) i h).1 in has_both r (bit_and (bit_or a b) T) i (both_has r (bit_and a T) i h).0 (has_both (bit_or a b) T i (has_left a b i (both_has a T i x).0) (both_has a T i x).1))

  sub_more_r : (r a b T : ℕ) → Within (bit_and r (bit_and b T)) (bit_and r (bit_and (bit_or a b) T))
  sub_more_r r a b T = has_within _ _ (λ i h. let x = (both_has r (bit_and b T) i h).1 in has_both r (bit_and (bit_or a b) T) i (both_has r (bit_and b T) i h).0 (has_both (bit_or a b) T i (has_right a b i (both_has b T i x).0) (both_has b T i x).1))

  -- a longer choice: its reach
  reach_with : (c : Product) (i T : ℕ) → bit_and (reach (bit_or c.plain (2 ^ i))) T ≡ bit_and (reach c.plain) (bit_and (reach (2 ^ i)) T)
  reach_with c i T = ap (λ (x : ℕ). bit_and x T) (cut_or ms c.plain (2 ^ i) W) ∙ and_assoc (reach c.plain) (reach (2 ^ i)) T

  reach_without : (P T : ℕ) → bit_and (reach (bit_or P 0)) T ≡ bit_and (reach P) (bit_and W T)
  reach_without P T = ap (λ (x : ℕ). bit_and (reach x) T) (or_zero_r P) ∙ ap (λ (x : ℕ). bit_and x T) (sym (in_window P)) ∙ and_assoc (reach P) W T

  swap : (a b T : ℕ) → bit_and (bit_and a b) T ≡ bit_and b (bit_and a T)
  swap a b T = ap (λ (x : ℕ). bit_and x T) (and_comm a b) ∙ and_assoc b a T

  older_safe : (a b : Plan) (k : Cont) (T : ℕ) → Safe k T → Safe (λ x o. k x (older a b x o)) T
  older_safe a b k T s c old mo (inl f) = s c (older a b c old) (older_mono a b c old mo) (inl f)
  older_safe a b k T s c old mo (inr e) = s c (older a b c old) (older_mono a b c old mo) (inr (ap (λ (x : Bool). x || (clear (mask b) c.plain (bit_and c.cuts (bit_and (reach c.plain) T)) && blank a (bit_and (reach c.plain) T))) e))

  pub down_safe : (p : Plan) (k : Cont) (T : ℕ) → Safe k T → Safe (λ x o. down p x o k) (bit_and (spans p) T)
  unfolding down span
  down_safe (with_it i) k T s c old mo h = s (joined c (only i)) old mo (go (rw (← reach_with c i T) at h))
    where
      go : Stop c old (bit_and (reach (bit_or c.plain (2 ^ i))) T) → Stop (joined c (only i)) old (bit_and (reach (bit_or c.plain (2 ^ i))) T)
      go (inl f) = inl (λ q. f (within_either c.plain (2 ^ i) _ q))
      go (inr e) = inr e
  down_safe (without i) k T s c old mo h = s (joined c (except i)) old mo (go (rw (← reach_without c.plain T) at h))
    where
      go : Stop c old (bit_and (reach (bit_or c.plain 0)) T) → Stop (joined c (except i)) old (bit_and (reach (bit_or c.plain 0)) T)
      go (inl f) = inl (λ q. f (within_either c.plain 0 _ q))
      go (inr e) = inr e
  down_safe (either a b) k T s c old mo h =
      ap₂ {C = List Product} (λ x y. x ++ y)
      (down_safe a k T s c old mo (stop_smaller c old _ _ mo (sub_more (reach c.plain) (spans a) (spans b) T) h))
      (down_safe b (λ x o. k x (older a b x o)) T (older_safe a b k T s) c old mo (stop_smaller c old _ _ mo (sub_more_r (reach c.plain) (spans a) (spans b) T) h))
  down_safe (both a b) k T s c old mo h =
      down_safe b (λ x o. down a x o k) (bit_and (spans a) T) (down_safe a k T s) c old mo (rw (swap (spans a) (spans b) T) at h)

  -- the reach that is carried lies between what is still possible and what the choice itself reaches
  pub record Between (c : Product) (T R : ℕ) : Type 0 where
    pub lower : Within (bit_and (reach c.plain) T) R
    pub upper : Within R (reach c.plain)

  -- going in: R cut by the plan's spans
  into : (c : Product) (U T R : ℕ) → Between c (bit_and U T) R → Within (bit_and (reach c.plain) (bit_and U T)) (bit_and R U)
  into c U T R b = within_both _ R U b.lower (has_within _ U (λ i h. (both_has U T i (both_has (reach c.plain) (bit_and U T) i h).1).0))

  cut_upper : (R U r : ℕ) → Within R r → Within (bit_and R U) r
  cut_upper R U r s = has_within (bit_and R U) r (λ i h. within_has R r s i (both_has R U i h).0)

  dead_stop : (c : Product) (R : ℕ) (old : ℕ → Bool) → dead c R ≡ true → Stop c old R
  dead_stop c R old h = go (eqb (bit_and c.plain R) c.plain) refl h
    where
      go : (b : Bool) → eqb (bit_and c.plain R) c.plain ≡ b → not b ≡ true → Stop c old R
      go true e h = inr (let z : false ≡ true = h in (cc))
      go false e h = inl (eqb-false (bit_and c.plain R) c.plain e)

  guard_s : (p : Plan) (c : Product) (R T : ℕ) (old : ℕ → Bool) (z : Cont) (rest : List Product) → Mono old → Safe z T → Between c (bit_and (spans p) T) R
      → rest ≡ down p c old z → if◌then◌else◌ (dead c (bit_and R (spans p))) [] rest ≡ down p c old z
  guard_s p c R T old z rest mo s b e = go (dead c (bit_and R (spans p))) refl
    where
      go : (t : Bool) → dead c (bit_and R (spans p)) ≡ t → if◌then◌else◌ t [] rest ≡ down p c old z
      go true h = sym (down_safe p z T s c old mo (stop_smaller c old (bit_and R (spans p)) _ mo (into c (spans p) T R b) (dead_stop c (bit_and R (spans p)) old h)))
      go false h = e

  -- what is old after a choice of p
  abbrev aged : Plan → ℕ → (ℕ → Bool) → ℕ → Bool
  aged p j old S = old S || not (fresh p j S)

  not_false_of : (x : Bool) → not x ≡ true → x ≡ false
  not_false_of true e = let z : false ≡ true = e in (cc)
  not_false_of false e = refl

  aged_mono : (p : Plan) (j : ℕ) (old : ℕ → Bool) → Mono old → Mono (aged p j old)
  aged_mono p j old mo R S s = or_mono (old R) (not (fresh p j R)) (old S) (not (fresh p j S)) (mo R S s) (λ e. ap not (stale_smaller p j R S s (not_false_of (fresh p j R) e)))

  -- a continuation that is right for what p hands over
  abbrev Fits : Plan → Product → (ℕ → Bool) → Rest → Cont → ℕ → Type 0
  Fits p c old k z T = (j R : ℕ) → j < count p → Between (joined c (kth p j)) T R → k (joined c (kth p j)) R ≡ z (joined c (kth p j)) (aged p j old)

  own_of : (c x b : ℕ) → bit_and c b ≡ 0 → Within x b → bit_and (bit_or c x) b ≡ x
  own_of c x b h s = or_and c x b ∙ ap₂ bit_or h s ∙ or_zero_l x

  stale_of : (p : Plan) → Apart p → (c : Product) → Off (mask p) c → (R j : ℕ) → j < count p → stale p (joined c (kth p j)).plain (joined c (kth p j)).cuts R ≡ not (fresh p j R)
  stale_of p ap' c o R j l =
      let w : Of (mask p) (kth p j) = kth_within p j l in
      stale_fresh p ap' R j l (joined c (kth p j)).plain (joined c (kth p j)).cuts (own_of c.plain (kth p j).plain (mask p) o.0 w.0) (own_of c.cuts (kth p j).cuts (mask p) o.1 w.1)

  pub walk_down : (p : Plan) → Apart p → (c : Product) (R T : ℕ) (old : ℕ → Bool) (k : Rest) (z : Cont) → Off (mask p) c → Mono old → Safe z T → Fits p c old k z T → Between c (bit_and (spans p) T) R
      → walks p c R k ≡ down p c old z
  unfolding walk down span Apart mask count kth fresh
  walk_down (with_it i) h c R T old k z o mo s f b =
      guard_s (with_it i) c R T old z _ mo s b
      (f 0 (bit_and R (reach (2 ^ i))) (omega arith) (record {
        lower = rw (reach_with c i T) (into c (reach (2 ^ i)) T R b);
        upper = rw (cut_or ms c.plain (2 ^ i) W) (within_both _ (reach c.plain) (reach (2 ^ i)) (cut_upper R (reach (2 ^ i)) (reach c.plain) b.upper) (has_within _ _ (λ j h. (both_has R (reach (2 ^ i)) j h).1)));
      })
      ∙ ap (z (joined c (only i))) (fun_ext (λ S. or-false (old S))))
  walk_down (without i) h c R T old k z o mo s f b =
      guard_s (without i) c R T old z _ mo s b
      (f 0 (bit_and R W) (omega arith) (record {
        lower = rw (reach_without c.plain T) (into c W T R b);
        upper = rw (or_zero_r c.plain) (cut_upper R W (reach c.plain) b.upper);
      })
      ∙ ap (z (joined c (except i))) (fun_ext (λ S. or-false (old S))))
  walk_down (either x y) h c R T old k z o mo s f b =
      guard_s (either x y) c R T old z _ mo s b
      (ap₂ {C = List Product} (λ u v. u ++ v)
      (walk_down x h.1.0 c (bit_and R (bit_or (spans x) (spans y))) T old k z (off_l c (mask x) (mask y) o) mo s
      (λ j r l be. subst (λ (t : Bool). Between (joined c (if◌then◌else◌ t (kth x j) (kth y (j - count x)))) T r → k (joined c (if◌then◌else◌ t (kth x j) (kth y (j - count x)))) r ≡ z (joined c (if◌then◌else◌ t (kth x j) (kth y (j - count x)))) (λ S. old S || not (if◌then◌else◌ t (fresh x j S) (fresh y (j - count x) S && not (hollow (kth y (j - count x)) S && blank x S)))))
      (lt-ltb j (count x) l) (f j r (omega arith)) be)
      (record { lower = within_then _ _ _ (sub_more (reach c.plain) (spans x) (spans y) T) (into c (bit_or (spans x) (spans y)) T R b); upper = cut_upper R (bit_or (spans x) (spans y)) (reach c.plain) b.upper }))
      (walk_down y h.1.1 c (bit_and R (bit_or (spans x) (spans y))) T old k (λ e o. z e (older x y e o)) (off_r c (mask x) (mask y) o) mo (older_safe x y z T s)
      (λ j r l be. right j r l be ∙ ap (z (joined c (kth y j))) (sym (fun_ext (λ S.
      ap (λ (t : Bool). (old S || not (fresh y j S)) || (t && blank x S)) (clear_hollow c (kth y j) (mask y) S (off_r c (mask x) (mask y) o) (kth_within y j l))
      ∙ bool_right (old S) (fresh y j S) (hollow (kth y j) S) (blank x S)))))
      (record { lower = within_then _ _ _ (sub_more_r (reach c.plain) (spans x) (spans y) T) (into c (bit_or (spans x) (spans y)) T R b); upper = cut_upper R (bit_or (spans x) (spans y)) (reach c.plain) b.upper })))
    where
      right : (j r : ℕ) → j < count y → Between (joined c (kth y j)) T r → k (joined c (kth y j)) r ≡ z (joined c (kth y j)) (λ S. old S || not (fresh y j S && not (hollow (kth y j) S && blank x S)))
      right j r l =
          let e : count x + j - count x ≡ j = omega arith in
          subst (λ (i : ℕ). Between (joined c (kth y i)) T r → k (joined c (kth y i)) r ≡ z (joined c (kth y i)) (λ S. old S || not (fresh y i S && not (hollow (kth y i) S && blank x S)))) e
          (subst (λ (t : Bool). Between (joined c (if◌then◌else◌ t (kth x (count x + j)) (kth y (count x + j - count x)))) T r → k (joined c (if◌then◌else◌ t (kth x (count x + j)) (kth y (count x + j - count x)))) r ≡ z (joined c (if◌then◌else◌ t (kth x (count x + j)) (kth y (count x + j - count x)))) (λ S. old S || not (if◌then◌else◌ t (fresh x (count x + j) S) (fresh y (count x + j - count x) S && not (hollow (kth y (count x + j - count x)) S && blank x S)))))
          (le-ltb (count x + j) (count x) (omega arith)) (f (count x + j) r (omega arith)))
  walk_down (both x y) h c R T old k z o mo s f b =
      guard_s (both x y) c R T old z _ mo s b
      (walk_down y h.1.1 c (bit_and R (bit_and (spans x) (spans y))) (bit_and (spans x) T) old (λ e r. if◌then◌else◌ (stale y e.plain e.cuts r) [] (walks x e r k)) (λ e o. down x e o z) (off_r c (mask x) (mask y) o) mo (down_safe x z T s)
      (λ j r l be. halfway j r l be
      (walk_down x h.1.0 (joined c (kth y j)) r T (aged y j old) k z (off_join c (kth y j) (mask x) (mask y) (off_l c (mask x) (mask y) o) (kth_within y j l) h.0) (aged_mono y j old mo) s (inner j l) be))
      (record { lower = subst (λ (q : ℕ). Within (bit_and (reach c.plain) q) (bit_and R (bit_and (spans x) (spans y)))) (swap (spans x) (spans y) T) (into c (bit_and (spans x) (spans y)) T R b); upper = cut_upper R (bit_and (spans x) (spans y)) (reach c.plain) b.upper }))
    where
      halfway : (j r : ℕ) → j < count y → Between (joined c (kth y j)) (bit_and (spans x) T) r → walks x (joined c (kth y j)) r k ≡ down x (joined c (kth y j)) (aged y j old) z
          → if◌then◌else◌ (stale y (joined c (kth y j)).plain (joined c (kth y j)).cuts r) [] (walks x (joined c (kth y j)) r k) ≡ down x (joined c (kth y j)) (aged y j old) z
      halfway j r l be e = go (stale y (joined c (kth y j)).plain (joined c (kth y j)).cuts r) refl
        where
          go : (t : Bool) → stale y (joined c (kth y j)).plain (joined c (kth y j)).cuts r ≡ t → if◌then◌else◌ t [] (walks x (joined c (kth y j)) r k) ≡ down x (joined c (kth y j)) (aged y j old) z
          go true q =
              let a : aged y j old r ≡ true = ap (λ (t : Bool). old r || t) (sym (stale_of y h.1.1 c (off_r c (mask x) (mask y) o) r j l) ∙ q) ∙ or-true (old r) in
              sym (down_safe x z T s (joined c (kth y j)) (aged y j old) (aged_mono y j old mo) (stop_smaller (joined c (kth y j)) (aged y j old) r _ (aged_mono y j old mo) be.lower (inr a)))
          go false q = e

      Case : ℕ → ℕ → ℕ → Type 0
      Case r u v = Between (joined c (joined (kth x u) (kth y v))) T r → k (joined c (joined (kth x u) (kth y v))) r ≡ z (joined c (joined (kth x u) (kth y v))) (λ S. old S || not (fresh x u S && fresh y v S))

      base : (i j r : ℕ) → i < count x → j < count y → Case r i j
      base i j r li lj = subst (λ (v : ℕ). Case r i v) (digits_div j li) (subst (λ (u : ℕ). Case r u ((j * count x + i) / count x)) (digits_mod j li) (f (j * count x + i) r (pair_fits x y i j li lj)))

      inner : (j : ℕ) → j < count y → Fits x (joined c (kth y j)) (aged y j old) k z T
      inner j lj i r li =
          subst (λ (q : Product). Between q T r → k q r ≡ z q (λ S. aged y j old S || not (fresh x i S))) (sym (join_turn c (kth x i) (kth y j)))
          (λ be. base i j r li lj be ∙ ap (z (joined c (joined (kth x i) (kth y j)))) (sym (fun_ext (λ S. bool_both (old S) (fresh x i S) (fresh y j S)))))

  finish_fits : (p : Plan) → Apart p → Fits p nothing (λ R. false) (finish p) (emit alive reach) W
  finish_fits p apart j R l b =
      let x : Product = joined nothing (kth p j) in
      ap (λ (r : ℕ). finish p (joined nothing (kth p j)) r) (within_same R (reach (joined nothing (kth p j)).plain) b.upper (rw (in_window (joined nothing (kth p j)).plain) at b.lower))
      ∙ ap (λ (t : Bool). if◌then◌else◌ (dead (joined nothing (kth p j)) (reach (joined nothing (kth p j)).plain) || t) [] (pruned alive reach (joined nothing (kth p j)) ∷ []))
      (stale_of p apart nothing (and_zero_l (mask p), and_zero_l (mask p)) (reach (joined nothing (kth p j)).plain) j l)
      ∙ go (alive (joined nothing (kth p j)).plain) (not (fresh p j (reach (joined nothing (kth p j)).plain)))
    where
      go : (a o : Bool) → if◌then◌else◌ (not a || o) [] (pruned alive reach (joined nothing (kth p j)) ∷ []) ≡ if◌then◌else◌ (a && not o) (pruned alive reach (joined nothing (kth p j)) ∷ []) []
      go true true = refl
      go true false = refl
      go false o = refl

  -- THE THEOREM, of the walks without a memory
  pub walk_survivors : (p : Plan) → Apart p → walks p nothing W (finish p) ≡ survivors alive reach (ways p)
  walk_survivors p apart =
      walk_down p apart nothing W W (λ R. false) (finish p) (emit alive reach) (and_zero_l (mask p), and_zero_l (mask p)) (λ R S s e. e) emit_safe (finish_fits p apart) (record {
        lower = rw (cut_none ms W) (has_within _ _ (λ i h. (both_has W (bit_and (spans p) W) i h).0));
        upper = rw (cut_none ms W) (has_within W W (λ i h. h));
      })
      ∙ down_survivors alive reach p apart
