-- What a search finds among the positions of a frame is the first inside one, and what it counts is their number. Assumes nothing.
use Prim.Native.Nat.{ℕ, zero, suc, ◌+◌, ◌≤◌, ◌<◌}
use native.Mathlib.Decide.{dec_le}
use native.Mathlib.Omega.{arith}
use mathlib.Core.Bool.{Bool, true, false}
use mathlib.Core.List.{List}
use mathlib.Core.Option.{Option, none, some}
use mathlib.Core.Path.{◌≡◌, sym, subst, ◌∙◌}
use lib.IntN.{ℤ}
use lib.ListN.{length}
use Rattle.ground.specs.Lists.{from, below, count_if, find_if}
use Rattle.std.specs.Prelude.{if◌then◌else◌}
use Rattle.ground.specs.Tests.{Says}
use Rattle.ground.proofs.Saying.{says_any}
use Rattle.rules.specs.declared.Place.{Place}
use Rattle.rules.specs.declared.Point.{Point}
use Rattle.rules.specs.declared.Refusal.{Refusal}
use Rattle.rules.specs.declared.Searched.{Searched}
use Rattle.rules.specs.Frame.{held_codes, point_of, sample_inside, first_inside, inside_count}
use Rattle.rules.specs.Told.{tell, told_searched}
use Rattle.rules.specs.TreeCalls.{search_tale}
use Rattle.promises.specs.Promises.{SampleIn, Counted, Found, Search}
use Rattle.promises.proofs.Outcomes.{hit_told, clear_told, search_told}

-- a test, and what it says of each position
module _ (test : ℕ → Bool) (Inside : ℕ → Type 0) (says : (k : ℕ) → Says (test k) (Inside k)) where
  -- ---- the first inside one of the n positions from `start` on

  found_inside : (start n : ℕ) {x : ℕ} → find_if test (from start n) ≡ some x → (x < start + n) × Inside x
  unfolding from find_if
  found_inside start zero e = let z : ◌≡◌ {A = ℕ} 0 1 = cc in absurd (omega arith)
  found_inside start (suc n) {x} e = go (test start) (says start) e (found_inside (suc start) n)
    where
      go : (b : Bool) → Says b (Inside start) → (if b then some start else find_if test (from (suc start) n)) ≡ some x
          → (find_if test (from (suc start) n) ≡ some x → (x < suc start + n) × Inside x) → (x < start + suc n) × Inside x
      go true s is later = let here : start ≡ x = cc in (omega arith, subst Inside here s)
      go false s is later = let l = (later is).0 in (omega arith, (later is).1)

  -- the position that was found, or the end where none was
  abbrev up_to : Option ℕ → ℕ → ℕ
  up_to none end = end
  up_to (some x) end = x

  -- before it no position is inside
  none_before : (start n k : ℕ) → start ≤ k → k < up_to (find_if test (from start n)) (start + n) → Inside k → ⊥
  unfolding from find_if
  none_before start zero k a b inside = omega arith
  none_before start (suc n) k a b inside = go (test start) (says start) b (dec_le (suc start) k) (none_before (suc start) n k)
    where
      go : (b : Bool) → Says b (Inside start) → k < up_to (if b then some start else find_if test (from (suc start) n)) (start + suc n)
          → Dec (suc start ≤ k)
          → (suc start ≤ k → k < up_to (find_if test (from (suc start) n)) (suc start + n) → Inside k → ⊥) → ⊥
      go true s l d later = omega arith
      go false s l (yes past) later =
          let on : start + suc n ≡ suc start + n = omega arith in
          later past (subst (λ (end : ℕ). k < up_to (find_if test (from (suc start) n)) end) on l) inside
      go false s l (no here) later = let is : k ≡ start = omega arith in s (subst Inside is inside)

  -- ---- their number

  -- exactly `count` of the n positions from `start` on are inside
  record Numbered (start n count : ℕ) : Type 0 where
    position : ℕ → ℕ
    at_least : (i : ℕ) → i < count → start ≤ position i
    in_frame : (i : ℕ) → i < count → position i < start + n
    stands_inside : (i : ℕ) → i < count → Inside (position i)
    rising : (i j : ℕ) → i < j → j < count → position i < position j
    complete : (k : ℕ) → start ≤ k → k < start + n → Inside k → (i : ℕ) × (i < count) × (position i ≡ k)

  -- a position, and then others
  abbrev put_first : ℕ → (ℕ → ℕ) → ℕ → ℕ
  put_first first others zero = first
  put_first first others (suc i) = others i

  -- one position more, in front of those that are numbered
  module _ {start n count : ℕ} (later : Numbered (suc start) n count) where
    abbrev others : ℕ → ℕ
    others = later.position

    outside_too : (Inside start → ⊥) → Numbered start (suc n) count
    outside_too out = record {
      position = others;
      at_least = λ i l. omega (arith, later.at_least i l);
      in_frame = λ i l. omega (arith, later.in_frame i l);
      stands_inside = later.stands_inside;
      rising = later.rising;
      complete = λ k a b inside. go k a b inside (dec_le (suc start) k);
    }
      where
        go : (k : ℕ) → start ≤ k → k < start + suc n → Inside k → Dec (suc start ≤ k) → (i : ℕ) × (i < count) × (others i ≡ k)
        go k a b inside (yes past) = later.complete k past (omega arith) inside
        go k a b inside (no here) = let is : k ≡ start = omega arith in absurd (out (subst Inside is inside))

    inside_too : Inside start → Numbered start (suc n) (suc count)
    inside_too here = record {
      position = put_first start others;
      at_least = low;
      in_frame = high;
      stands_inside = inside;
      rising = rising;
      complete = λ k a b is. complete k a b is (dec_le (suc start) k);
    }
      where
        low : (i : ℕ) → i < suc count → start ≤ put_first start others i
        low zero l = omega arith
        low (suc i) l = let m : i < count = omega arith in omega (arith, later.at_least i m)

        high : (i : ℕ) → i < suc count → put_first start others i < start + suc n
        high zero l = omega arith
        high (suc i) l = let m : i < count = omega arith in omega (arith, later.in_frame i m)

        inside : (i : ℕ) → i < suc count → Inside (put_first start others i)
        inside zero l = here
        inside (suc i) l = later.stands_inside i (omega arith)

        rising : (i j : ℕ) → i < j → j < suc count → put_first start others i < put_first start others j
        rising i zero h l = absurd (omega arith)
        rising zero (suc j) h l = later.at_least j (omega arith)
        rising (suc i) (suc j) h l = later.rising i j (omega arith) (omega arith)

        complete : (k : ℕ) → start ≤ k → k < start + suc n → Inside k → Dec (suc start ≤ k)
            → (i : ℕ) × (i < suc count) × (put_first start others i ≡ k)
        complete k a b is (yes past) = let r = later.complete k past (omega arith) is in let l = r.1 in (suc r.0, omega arith, r.2)
        complete k a b is (no at) = let e : start ≡ k = omega arith in (0, omega arith, e)

  numbered : (start n : ℕ) → Numbered start n (count_if test (from start n))
  unfolding from count_if
  numbered start zero = record {
    position = λ i. start;
    at_least = λ i l. absurd (omega arith);
    in_frame = λ i l. absurd (omega arith);
    stands_inside = λ i l. absurd (omega arith);
    rising = λ i j h l. absurd (omega arith);
    complete = λ k a b inside. absurd (omega arith);
  }
  numbered start (suc n) = go (test start) (says start) (numbered (suc start) n)
    where
      go : (b : Bool) → Says b (Inside start) → {count : ℕ} → Numbered (suc start) n count → Numbered start (suc n) (if b then suc count else count)
      go true here later = inside_too later here
      go false out later = outside_too later out

  -- ---- the positions of a frame of n samples

  counted : (n : ℕ) → Counted Inside n (count_if test (below n))
  counted n =
      let all = numbered 0 n in
      record {
        position = all.position;
        in_frame = λ i l. omega (arith, all.in_frame i l);
        stands_inside = all.stands_inside;
        rising = all.rising;
        complete = λ k l inside. all.complete k (omega arith) (omega arith) inside;
      }

  search_hit : (n : ℕ) {first : ℕ} → find_if test (below n) ≡ some first → Found Inside n first (count_if test (below n))
  search_hit n {first} e =
      let here = found_inside 0 n e in
      record {
        in_frame = omega (arith, here.0);
        stands_inside = here.1;
        is_first = λ k l. none_before 0 n k (omega arith) (subst (λ (x : Option ℕ). k < up_to x (0 + n)) (sym e) l);
        how_many = counted n;
      }

  search_clear : (n : ℕ) → find_if test (below n) ≡ none → (k : ℕ) → k < n → Inside k → ⊥
  search_clear n e k l =
      let end : k < 0 + n = omega arith in
      none_before 0 n k (omega arith) (subst (λ (x : Option ℕ). k < up_to x (0 + n)) (sym e) end)

-- ---- a search by a test, and what the test says of each point

module _ (is_inside : Point → Bool) (Holds : Point → Type 0) (says : (p : Point) → Says (is_inside p) (Holds p))
    (samples : List ℤ) (place : Place) where
  abbrev test : ℕ → Bool
  test = sample_inside is_inside samples place

  abbrev In : ℕ → Type 0
  In = SampleIn Holds samples place

  sample_says : (k : ℕ) → Says (test k) (In k)
  sample_says k =
      says_any (λ code. is_inside (point_of place k code)) (λ code. Holds (point_of place k code)) (λ code. says (point_of place k code)) (held_codes samples k)

  pub search_finds : {Meets : Searched → Type 0} (x : Option Refusal)
      → ((r : Searched) → Meets r → told_searched r ≡ tell x (search_tale (first_inside is_inside samples place) (inside_count is_inside samples place)))
      → Search In (length samples) x Meets
  unfolding first_inside inside_count
  search_finds x answer = record {
    answers = λ {r} m none-broken. search_told x (first_inside is_inside samples place) (inside_count is_inside samples place) (answer r m) none-broken;
    if_hit = λ {r} {first} {count} m e.
        let told = hit_told x _ _ (sym e ∙ answer r m) in
        subst (Found In (length samples) first) told.1 (search_hit test In sample_says (length samples) told.0);
    if_clear = λ {r} m e. search_clear test In sample_says (length samples) (clear_told x _ _ (sym e ∙ answer r m));
  }
