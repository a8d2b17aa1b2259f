-- What spans and boxes have in common: boxes of which each two share a point all share one. Assumes nothing.
use Prim.Native.Nat.{ℕ}
use native.Mathlib.Omega.{arith}
use mathlib.Core.Bool.{Bool, true, false, not, ◌&&◌, ◌||◌, and-false, and_comm, and_assoc, or_comm}
use mathlib.Core.List.{List, [], ◌∷◌, foldr}
use mathlib.Core.Path.{◌≡◌, refl, sym, ap, ap₂, ◌∙◌}
use borrow.Author.Tests.{leb-false, le-leb, lt-ltb, leb-true, le-ltb}
use lib.Dec.{leb, ltb}
use lib.IntN.{ℤ, pos, negsuc}
use lib.Signed.{le_z, lt_z}
use Rattle.ground.specs.Lists.{all_of}
use Rattle.std.specs.Prelude.{if◌then◌else◌}
use Rattle.ground.proofs.Branches.{false_true, and_left, and_right}
use Rattle.ground.proofs.Order.{le_z_trans}
use Rattle.rules.specs.Boxes.{Box, common, common_box, empty, share}
use Rattle.rules.specs.Ranges.{Span, lesser, greater}

-- ---- the order of whole numbers

le_z_other : (a b : ℤ) → le_z a b ≡ false → le_z b a ≡ true
le_z_other (pos a) (pos b) h = le-leb b a (omega (arith, leb-false a b h))
le_z_other (pos a) (negsuc b) h = refl
le_z_other (negsuc a) (pos b) h = false_true (sym h)
le_z_other (negsuc a) (negsuc b) h = le-leb a b (omega (arith, leb-false b a h))

not_below : (a b : ℕ) → not (ltb a b) ≡ leb b a
not_below a b = go (leb b a) refl
  where
    go : (t : Bool) → leb b a ≡ t → not (ltb a b) ≡ t
    go true h = ap not (le-ltb a b (leb-true b a h))
    go false h = ap not (lt-ltb a b (leb-false b a h))

pub not_less : (a b : ℤ) → not (lt_z a b) ≡ le_z b a
not_less (pos a) (pos b) = not_below a b
not_less (pos a) (negsuc b) = refl
not_less (negsuc a) (pos b) = refl
not_less (negsuc a) (negsuc b) = not_below b a

pub implied_left : (p q : Bool) → (q ≡ true → p ≡ true) → q ≡ (p && q)
implied_left p true f = ap (λ (x : Bool). x && true) (sym (f refl))
implied_left p false f = sym (and-false p)

implied_right : (p q : Bool) → (p ≡ true → q ≡ true) → p ≡ (p && q)
implied_right p q f = implied_left q p f ∙ and_comm q p

implied_either : (p q : Bool) → (q ≡ true → p ≡ true) → p ≡ (p || q)
implied_either true q f = refl
implied_either false true f = f refl
implied_either false false f = refl

-- the greater of two is at most v just if both are, the lesser just if one is; and likewise v is at most the lesser, and the greater
module _ (a b v : ℤ) where
  pub greater_most : le_z (greater a b) v ≡ (le_z a v && le_z b v)
  greater_most = go (le_z a b) refl
    where
      go : (t : Bool) → le_z a b ≡ t → le_z (if t then b else a) v ≡ (le_z a v && le_z b v)
      go true h = implied_left (le_z a v) (le_z b v) (le_z_trans a b v h)
      go false h = implied_right (le_z a v) (le_z b v) (le_z_trans b a v (le_z_other a b h))

  pub lesser_least : le_z v (lesser a b) ≡ (le_z v a && le_z v b)
  lesser_least = go (le_z a b) refl
    where
      go : (t : Bool) → le_z a b ≡ t → le_z v (if t then a else b) ≡ (le_z v a && le_z v b)
      go true h = implied_right (le_z v a) (le_z v b) (λ k. le_z_trans v a b k h)
      go false h = implied_left (le_z v a) (le_z v b) (λ k. le_z_trans v b a k (le_z_other a b h))

  pub lesser_most : le_z (lesser a b) v ≡ (le_z a v || le_z b v)
  lesser_most = go (le_z a b) refl
    where
      go : (t : Bool) → le_z a b ≡ t → le_z (if t then a else b) v ≡ (le_z a v || le_z b v)
      go true h = implied_either (le_z a v) (le_z b v) (le_z_trans a b v h)
      go false h = implied_either (le_z b v) (le_z a v) (le_z_trans b a v (le_z_other a b h)) ∙ or_comm (le_z b v) (le_z a v)

  pub greater_least : le_z v (greater a b) ≡ (le_z v a || le_z v b)
  greater_least = go (le_z a b) refl
    where
      go : (t : Bool) → le_z a b ≡ t → le_z v (if t then b else a) ≡ (le_z v a || le_z v b)
      go true h = implied_either (le_z v b) (le_z v a) (λ k. le_z_trans v a b k h) ∙ or_comm (le_z v b) (le_z v a)
      go false h = implied_either (le_z v a) (le_z v b) (λ k. le_z_trans v b a k (le_z_other a b h))

-- ---- spans

abbrev pub filled : Span → Bool
filled s = le_z s.lo s.hi

abbrev meets : Span → Span → Bool
meets a b = filled (common a b)

module _ (a b : Span) where
  meets_bounds : meets a b ≡ ((filled a && le_z a.lo b.hi) && (le_z b.lo a.hi && filled b))
  meets_bounds =
      greater_most a.lo b.lo (common a b).hi
      ∙ ap₂ ◌&&◌ (lesser_least a.hi b.hi a.lo) (lesser_least a.hi b.hi b.lo)

  meets_filled : meets a b ≡ true → (filled a ≡ true) × (filled b ≡ true)
  meets_filled h = go (filled a) (le_z a.lo b.hi) (le_z b.lo a.hi) (filled b) (sym meets_bounds ∙ h)
    where
      go : (p q r s : Bool) → ((p && q) && (r && s)) ≡ true → (p ≡ true) × (s ≡ true)
      go p q r s e = (and_left p q (and_left (p && q) (r && s) e), and_right r s (and_right (p && q) (r && s) e))

meets_sym : (a b : Span) → meets a b ≡ meets b a
meets_sym a b = meets_bounds a b ∙ go (filled a) (le_z a.lo b.hi) (le_z b.lo a.hi) (filled b) ∙ sym (meets_bounds b a)
  where
    go : (p q r s : Bool) → ((p && q) && (r && s)) ≡ ((s && r) && (q && p))
    go p q r s = and_comm (p && q) (r && s) ∙ ap₂ ◌&&◌ (and_comm r s) (and_comm p q)

meets_self : (a b : Span) → meets a b ≡ true → meets a a ≡ true
meets_self a b h = let f : filled a ≡ true = (meets_filled a b h).0 in meets_bounds a a ∙ rw f

-- a span meets what two have in common just if it meets both
meets_both : (s a b : Span) → meets a b ≡ true → meets s (common a b) ≡ (meets s a && meets s b)
meets_both s a b h =
    meets_bounds s (common a b)
    ∙ ap₂ ◌&&◌ (ap (λ (x : Bool). filled s && x) (lesser_least a.hi b.hi s.lo)) (ap₂ ◌&&◌ (greater_most a.lo b.lo s.hi) h)
    ∙ go (filled s) (le_z s.lo a.hi) (le_z s.lo b.hi) (le_z a.lo s.hi) (le_z b.lo s.hi)
    ∙ ap₂ ◌&&◌ (ends a (meets_filled a b h).0) (ends b (meets_filled a b h).1)
  where
    go : (p q r t u : Bool) → ((p && (q && r)) && ((t && u) && true)) ≡ (((p && q) && (t && true)) && ((p && r) && (u && true)))
    go true true true true u = refl
    go true true true false u = refl
    go true true false t u = sym (and-false (t && true))
    go true false r t u = refl
    go false q r t u = refl

    ends : (c : Span) → filled c ≡ true → ((filled s && le_z s.lo c.hi) && (le_z c.lo s.hi && true)) ≡ meets s c
    ends c f = ap (λ (x : Bool). (filled s && le_z s.lo c.hi) && (le_z c.lo s.hi && x)) (sym f) ∙ sym (meets_bounds s c)

-- ---- boxes

pub by_axis : {p q r u v w : Bool} → p ≡ u → q ≡ v → r ≡ w → (p && (q && r)) ≡ (u && (v && w))
by_axis e f g = ap₂ ◌&&◌ e (ap₂ ◌&&◌ f g)

pub filled_axes : (b : Box) → not (empty b) ≡ (filled b.x && (filled b.y && filled b.z))
filled_axes b =
    go (lt_z b.x.hi b.x.lo) (lt_z b.y.hi b.y.lo) (lt_z b.z.hi b.z.lo)
    ∙ by_axis (not_less b.x.hi b.x.lo) (not_less b.y.hi b.y.lo) (not_less b.z.hi b.z.lo)
  where
    go : (p q r : Bool) → not (p || (q || r)) ≡ (not p && (not q && not r))
    go true q r = refl
    go false true r = refl
    go false false r = refl

share_axes : (a b : Box) → share a b ≡ (meets a.x b.x && (meets a.y b.y && meets a.z b.z))
share_axes a b = filled_axes (common_box a b)

pub share_sym : (a b : Box) → share a b ≡ share b a
share_sym a b = share_axes a b ∙ by_axis (meets_sym a.x b.x) (meets_sym a.y b.y) (meets_sym a.z b.z) ∙ sym (share_axes b a)

module _ (a b : Box) (h : share a b ≡ true) where
  on_x : meets a.x b.x ≡ true
  on_x = and_left (meets a.x b.x) (meets a.y b.y && meets a.z b.z) (sym (share_axes a b) ∙ h)

  on_others : (meets a.y b.y && meets a.z b.z) ≡ true
  on_others = and_right (meets a.x b.x) (meets a.y b.y && meets a.z b.z) (sym (share_axes a b) ∙ h)

  on_y : meets a.y b.y ≡ true
  on_y = and_left (meets a.y b.y) (meets a.z b.z) on_others

  on_z : meets a.z b.z ≡ true
  on_z = and_right (meets a.y b.y) (meets a.z b.z) on_others

  share_filled : not (empty b) ≡ true
  share_filled = filled_axes b ∙ by_axis (meets_filled a.x b.x on_x).1 (meets_filled a.y b.y on_y).1 (meets_filled a.z b.z on_z).1

  share_self : share a a ≡ true
  share_self = share_axes a a ∙ by_axis (meets_self a.x b.x on_x) (meets_self a.y b.y on_y) (meets_self a.z b.z on_z)

pub and_swap : (p q r s : Bool) → ((p && q) && (r && s)) ≡ ((p && r) && (q && s))
and_swap true true r s = refl
and_swap true false r s = sym (and-false r)
and_swap false q r s = refl

pub axes_swap : (p q r t u v : Bool) → ((p && q) && ((r && t) && (u && v))) ≡ ((p && (r && u)) && (q && (t && v)))
axes_swap p q r t u v = ap (λ (x : Bool). (p && q) && x) (and_swap r t u v) ∙ and_swap p q (r && u) (t && v)

-- a box shares a point with what two have in common just if it shares one with both
pub share_both : (s a b : Box) → share a b ≡ true → share s (common_box a b) ≡ (share s a && share s b)
share_both s a b h =
    share_axes s (common_box a b)
    ∙ by_axis (meets_both s.x a.x b.x (on_x a b h)) (meets_both s.y a.y b.y (on_y a b h)) (meets_both s.z a.z b.z (on_z a b h))
    ∙ axes_swap (meets s.x a.x) (meets s.x b.x) (meets s.y a.y) (meets s.y b.y) (meets s.z a.z) (meets s.z b.z)
    ∙ ap₂ ◌&&◌ (sym (share_axes s a)) (sym (share_axes s b))

-- ---- lists of boxes

all_and : {A : Type 0} (p q : A → Bool) (xs : List A) → all_of (λ x. p x && q x) xs ≡ (all_of p xs && all_of q xs)
unfolding all_of
all_and p q [] = refl
all_and p q (x ∷ xs) = ap (λ (b : Bool). (p x && q x) && b) (all_and p q xs) ∙ and_swap (p x) (q x) (all_of p xs) (all_of q xs)

-- a box, cut with the boxes of a list
module _ {A : Type 0} (box : A → Box) (start : Box) where
  abbrev pub cut : List A → Box
  cut xs = foldr (λ x b. common_box (box x) b) start xs

  -- it shares a point with another just if that shares one with each of them
  pub share_all : (b : Box) (xs : List A) → not (empty (cut xs)) ≡ true → share b (cut xs) ≡ (all_of (λ x. share b (box x)) xs && share b start)
  unfolding all_of
  share_all b [] h = refl
  share_all b (x ∷ xs) h =
      share_both b (box x) (cut xs) h
      ∙ ap (λ (t : Bool). share b (box x) && t) (share_all b xs (share_filled (box x) (cut xs) h))
      ∙ sym (and_assoc (share b (box x)) (all_of (λ y. share b (box y)) xs) (share b start))

  -- each of the list shares a point with each, and with the box that they cut
  abbrev pub pairwise : List A → Bool
  pairwise xs = all_of (λ x. all_of (λ y. share (box x) (box y)) xs && share (box x) start) xs

  -- there is something left just if each two share a point
  pub left_pairwise : not (empty start) ≡ true → (xs : List A) → not (empty (cut xs)) ≡ pairwise xs
  unfolding all_of
  left_pairwise h [] = h
  left_pairwise h (x ∷ xs) = first ∙ ap (λ (t : Bool). own && (all_of with_x xs && t)) (left_pairwise h xs) ∙ ap (λ (t : Bool). own && t) (sym others)
    where
      with_x : A → Bool
      with_x y = share (box x) (box y)

      own : Bool
      own = (with_x x && all_of with_x xs) && share (box x) start

      others : all_of (λ u. (share (box u) (box x) && all_of (λ y. share (box u) (box y)) xs) && share (box u) start) xs ≡ (all_of with_x xs && pairwise xs)
      others =
          (λ i. all_of (λ u. and_assoc (share_sym (box u) (box x) i) (all_of (λ y. share (box u) (box y)) xs) (share (box u) start) i) xs)
          ∙ all_and with_x (λ u. all_of (λ y. share (box u) (box y)) xs && share (box u) start) xs

      step : (l p s o t : Bool) → (t ≡ true → l ≡ (p && s)) → (l ≡ true → t ≡ true) → (s ≡ true → o ≡ true) → l ≡ (((o && p) && s) && (p && t))
      step l p s o true f g k = f refl ∙ same p s o k
        where
          same : (p s o : Bool) → (s ≡ true → o ≡ true) → (p && s) ≡ (((o && p) && s) && (p && true))
          same true true o k = rw (k refl)
          same true false o k = rw (and-false (o && true))
          same false s o k = rw (and-false ((o && false) && s))
      step true p s o false f g k = false_true (g refl)
      step false p s o false f g k = rw (and-false p, and-false ((o && p) && s))

      first : share (box x) (cut xs) ≡ (own && (all_of with_x xs && not (empty (cut xs))))
      first =
          let f = share_all (box x) xs in
          let g = share_filled (box x) (cut xs) in
          step (share (box x) (cut xs)) (all_of with_x xs) (share (box x) start) (with_x x) (not (empty (cut xs))) f g (share_self (box x) start)
