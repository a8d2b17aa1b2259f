-- Laws of a stretch that has a place or has it not, and of the set of one entry more. Assumes nothing.
use Prim.Native.Nat.{ℕ, ◌+◌, ◌≤◌, ◌<◌}
use native.Mathlib.Decide.{dec_le}
use native.Mathlib.Omega.{arith}
use mathlib.Core.Bool.{Bool, true, false, ◌&&◌, and-false}
use mathlib.Core.List.{List, [], ◌∷◌, ◌++◌}
use mathlib.Core.Path.{◌≡◌, sym, ap, ap₂, ◌∙◌}
use borrow.Author.Tests.{le-leb, lt-leb}
use lib.Bits.{bit_or}
use lib.Dec.{leb}
use lib.ListN.{length, get_or, take}
use Rattle.std.proofs.lemmas.List.Sums.{fold_more, fold_push}
use Rattle.span.specs.declared.Stretch.{Stretch}
use Rattle.span.specs.Along.{between}
use Rattle.level.specs.declared.Entry.{Entry}
use Rattle.level.specs.Levels.{mark_at, set_at, Steady}

module _ (s : Stretch) (v : ℕ) where
  pub has : s.lo ≤ v → v ≤ s.hi → between s v ≡ true
  has a b = ap₂ ◌&&◌ (le-leb s.lo v a) (le-leb v s.hi b)

  pub past : s.hi < v → between s v ≡ false
  past a = ap (λ (t : Bool). leb s.lo v && t) (lt-leb v s.hi a) ∙ and-false (leb s.lo v)

  pub short : v < s.lo → between s v ≡ false
  short a = ap (λ (t : Bool). t && leb v s.hi) (lt-leb s.lo v a)

pub never : (s : Stretch) (v : ℕ) → s.hi < s.lo → between s v ≡ false
never s v h = go (dec_le v s.hi)
  where
    go : Dec (v ≤ s.hi) → between s v ≡ false
    go (yes l) = short s v (omega arith)
    go (no l) = past s v (omega arith)

-- where it says one thing at every place, it says that at v too
pub steady_by : (s : Stretch) (b : Bool) {v floor least : ℕ} → floor ≤ least → least ≤ v → ((w : ℕ) → least ≤ w → w ≤ v → between s w ≡ b) → Steady (between s) v floor least
steady_by s b {v} l u h = record { low = l; under = u; same = λ w a k. h w a k ∙ sym (h v u (omega arith)) }

-- the set of the entries up to one, and of one that is added
module _ (es : List Entry) (v : ℕ) where
  abbrev add : ℕ → Entry → ℕ
  add set e = bit_or set (mark_at e v)

  pub set_more : (i : ℕ) (d : Entry) → i < length es → set_at (take (i + 1) es) v ≡ bit_or (set_at (take i es) v) (mark_at (get_or es i d) v)
  unfolding set_at
  set_more i d l = fold_more add 0 es i d l

  pub set_push : (e : Entry) → set_at (es ++ (e ∷ [])) v ≡ bit_or (set_at es v) (mark_at e v)
  unfolding set_at
  set_push e = fold_push add 0 es e
