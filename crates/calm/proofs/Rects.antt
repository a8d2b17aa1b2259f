-- How a rectangle is narrowed by a primitive's edges. Assumes nothing.
use Prim.Native.Nat.{ℕ, ◌+◌, ◌-◌, ◌≤◌, ◌<◌, max, min}
use native.Mathlib.Omega.{arith}
use mathlib.Core.Bool.{Bool, false}
use mathlib.Core.Path.{◌≡◌, sym, ◌∙◌}
use Rattle.calm.specs.declared.Edges.{Edges}
use Rattle.calm.specs.declared.Rect.{Rect}
use Rattle.calm.specs.Calms.{In, Same, Narrowed}

-- a test that holds nowhere on it
pub by_none : {test : ℕ → ℕ → Bool} {x v : ℕ} {r : Rect} → In x v r → ((a b : ℕ) → x ≤ a → In a b r → test a b ≡ false) → Same test x v r
by_none {x = x} {v = v} I h = record { each = λ a b l J. h a b l J ∙ sym (h x v (omega arith) I) }

module _ {e : Edges} {x v : ℕ} {r : Rect} (I : In x v r) where
  pub narrow_over : e.codes.hi < v → Narrowed e x v r (record { until = r.until; floor = max r.floor (e.codes.hi + 1); roof = r.roof })
  narrow_over h = record { here = J; part = λ a b K. omega (arith, K); same = λ t B. by_none J (λ a b l K. B.over a b (omega (arith, K))) }
    where
      J : In x v (record { until = r.until; floor = max r.floor (e.codes.hi + 1); roof = r.roof })
      J = omega (arith, I)

  pub narrow_under : v < e.codes.lo → Narrowed e x v r (record { until = r.until; floor = r.floor; roof = min r.roof (e.codes.lo - 1) })
  narrow_under h = record { here = J; part = λ a b K. omega (arith, K); same = λ t B. by_none J (λ a b l K. B.under a b (omega (arith, K))) }
    where
      J : In x v (record { until = r.until; floor = r.floor; roof = min r.roof (e.codes.lo - 1) })
      J = omega (arith, I)

  pub narrow_right : e.columns.hi < x → Narrowed e x v r r
  narrow_right h = record { here = I; part = λ a b J. J; same = λ t B. by_none I (λ a b l J. B.right a b (omega arith)) }

  pub narrow_left : x < e.columns.lo → Narrowed e x v r (record { until = min r.until (e.columns.lo - 1); floor = r.floor; roof = r.roof })
  narrow_left h = record { here = J; part = λ a b K. omega (arith, K); same = λ t B. by_none J (λ a b l K. B.left a b (omega (arith, K))) }
    where
      J : In x v (record { until = min r.until (e.columns.lo - 1); floor = r.floor; roof = r.roof })
      J = omega (arith, I)

-- between the edges, as far as the margin goes
abbrev pub near_by : Edges → ℕ → ℕ → Rect → Rect
near_by e x v r = record {
  until = min r.until (min e.columns.hi (x + e.margin));
  floor = max r.floor (max e.codes.lo (v - e.margin));
  roof = min r.roof (min e.codes.hi (v + e.margin));
}

-- the least and the greatest of three
under_three : (n a b c : ℕ) → n ≤ min a (min b c) → (n ≤ a) × ((n ≤ b) × (n ≤ c))
under_three n a b c h = (omega arith, (omega arith, omega arith))

over_three : (n a b c : ℕ) → max a (max b c) ≤ n → (a ≤ n) × ((b ≤ n) × (c ≤ n))
over_three n a b c h = (omega arith, (omega arith, omega arith))

least_three : (n a b c : ℕ) → n ≤ a → n ≤ b → n ≤ c → n ≤ min a (min b c)
least_three n a b c p q r = omega arith

most_three : (n a b c : ℕ) → a ≤ n → b ≤ n → c ≤ n → max a (max b c) ≤ n
most_three n a b c p q r = omega arith

pub narrow_near : (e : Edges) (x v : ℕ) (r : Rect) → In x v r → e.columns.lo ≤ x → x ≤ e.columns.hi → e.codes.lo ≤ v → v ≤ e.codes.hi → Narrowed e x v r (near_by e x v r)
narrow_near e x v r I p q s t = record {
  here = record {
    on = least_three x r.until e.columns.hi (x + e.margin) I.on q (omega arith);
    low = most_three v r.floor e.codes.lo (v - e.margin) I.low s (omega arith);
    up = least_three v r.roof e.codes.hi (v + e.margin) I.up t (omega arith);
  };
  part = λ a b K. record { on = (on a b K).0; low = (low a b K).0; up = (up a b K).0 };
  same = λ test B. record {
    each = λ a b l K. B.near a b (record { left = p; right = q; under = s; over = t })
        (record { left = from_left a l; right = (on a b K).1.0; under = (low a b K).1.0; over = (up a b K).1.0 })
        (record { from = l; until = (on a b K).1.1; low = back b (low a b K).1.1; high = (up a b K).1.1 });
  };
}
  where
    on : (a b : ℕ) → In a b (near_by e x v r) → (a ≤ r.until) × ((a ≤ e.columns.hi) × (a ≤ x + e.margin))
    on a b K = under_three a r.until e.columns.hi (x + e.margin) K.on

    low : (a b : ℕ) → In a b (near_by e x v r) → (r.floor ≤ b) × ((e.codes.lo ≤ b) × (v - e.margin ≤ b))
    low a b K = over_three b r.floor e.codes.lo (v - e.margin) K.low

    up : (a b : ℕ) → In a b (near_by e x v r) → (b ≤ r.roof) × ((b ≤ e.codes.hi) × (b ≤ v + e.margin))
    up a b K = under_three b r.roof e.codes.hi (v + e.margin) K.up

    back : (b : ℕ) → v - e.margin ≤ b → v ≤ b + e.margin
    back b h = omega arith

    from_left : (a : ℕ) → x ≤ a → e.columns.lo ≤ a
    from_left a l = omega arith
