-- The walk over rows: where it goes on and where it stops; what is written. Assumes nothing.
use Prim.Native.Nat.{ℕ, zero, suc, ◌+◌, ◌-◌, ◌*◌, ◌^◌, ◌≤◌, ◌<◌}
use native.Mathlib.Nat.{add-zero, two-pow-succ}
use native.Mathlib.Omega.{arith}
use mathlib.Core.Bool.{Bool, true, false, not, ◌&&◌}
use mathlib.Core.List.{List, [], ◌∷◌, ◌++◌, flat_map, append_assoc, append-nil}
use mathlib.Core.Path.{◌≡◌, refl, sym, ap, ap₂, subst, ◌∙◌}
use borrow.Author.Tests.{eqb-false}
use lib.Dec.{eqb}
use lib.ListN.{length, length-append}
use lib.Pow.{pow_mono}
use lib.Seq.{sets, length-sets}
use Rattle.std.specs.Prelude.{if◌then◌else◌}
use Rattle.ground.proofs.Lists.{flat_map_append}
use Rattle.ground.proofs.Writes.{sets_append}
use Rattle.rules.specs.declared.Product.{Product}
use Rattle.rules.specs.ListWords.{header_words, words_of, place_of}
use Rattle.laws.proofs.Words.{words_length}
use Rattle.rows.specs.declared.RowKind.{RowKind}
use Rattle.rows.specs.declared.RowKind.TheVariants.{With, Without, Either, Both}
use Rattle.rows.specs.declared.PlanRow.{PlanRow}
use Rattle.rows.specs.Rows.{kind_at, left_at, Inner, Later, SoundLinks}
use Rattle.rows.proofs.Rows.{inner_by}
use Rattle.places.specs.declared.Place.{Place}
use Rattle.places.specs.Places.{right_of, onward_by, onward_of, aside_by, aside_of}
use Rattle.walk.specs.Tracks.{open_at, end_of, walk_to, walk_at, Held, steps_left, Goes, Put}

both_true : (a b : Bool) → (a && b) ≡ true → a ≡ true
both_true true b h = refl
both_true false b h = h

not_false : (a : Bool) → not a ≡ true → a ≡ false
not_false true h = sym h
not_false false h = refl

-- ---- steps

module _ {rows : List PlanRow} {end : ℕ} (s : SoundLinks rows end) where
  abbrev onwards : Place → Place
  onwards = onward_of rows

  abbrev walked : Place → List Product
  walked = walk_at rows end

  -- an open place is at a row
  pub open_in : (at : Place) → at.row ≤ end → open_at rows end at ≡ true → at.row < end
  open_in at l h =
      let ne : at.row ≡ end → ⊥ = eqb-false at.row end (not_false (eqb at.row end) (both_true (not (eqb at.row end)) _ h)) in
      omega (arith, ne)

  module _ (at : Place) (l : at.row < end) where
    -- the walk goes to later rows
    pub onward_later : (at.row < (onwards at).row) × ((onwards at).row ≤ end)
    onward_later = go (kind_at rows at.row) refl
      where
        parts : {kind : RowKind} → kind_at rows at.row ≡ kind → Inner kind → Later end at.row (left_at rows at.row)
        parts k n = (s.link at.row l).left (inner_by _ k n)

        go : (kind : RowKind) → kind_at rows at.row ≡ kind → (at.row < (onward_by rows kind at).row) × ((onward_by rows kind at).row ≤ end)
        go With k = ((s.link at.row l).next_up, (s.link at.row l).next_in)
        go Without k = ((s.link at.row l).next_up, (s.link at.row l).next_in)
        go Either k = let a = parts k tt in (omega (arith, a.up), omega (arith, a.fits))
        go Both k = let a = parts k tt in (omega arith, omega (arith, a.up, a.fits))

    -- the left part of an `either` begins two rows on, or later
    pub either_later : kind_at rows at.row ≡ Either → (at.row + 2 ≤ (onwards at).row) × (at.row + 2 ≤ end)
    either_later k =
        let a = (s.link at.row l).left (inner_by Either k tt) in
        rw k (omega (arith, a.up), omega (arith, a.up, a.fits))

    -- a step looks at later places alone
    step_cong : (v w : Place → List Product) → ((to : Place) → at.row < to.row → to.row ≤ end → v to ≡ w to)
        → flat_map v (onwards at ∷ aside_of rows at []) ≡ flat_map w (onwards at ∷ aside_of rows at [])
    unfolding flat_map
    step_cong v w h = ap₂ (λ (xs ys : List Product). xs ++ ys) (h (onwards at) onward_later.0 onward_later.1) (go (kind_at rows at.row) refl)
      where
        go : (kind : RowKind) → kind_at rows at.row ≡ kind → flat_map v (aside_by rows kind at []) ≡ flat_map w (aside_by rows kind at [])
        go With k = refl
        go Without k = refl
        go Either k = let a = either_later k in ap (λ (xs : List Product). xs ++ []) (h (right_of rows at) (omega arith) (omega arith))
        go Both k = refl

  deep : (f h : ℕ) (at : Place) → at.row ≤ end → end < at.row + f → end < at.row + h → walk_to rows f end at ≡ walk_to rows h end at
  unfolding walk_to
  deep zero h at l p q = absurd (omega arith)
  deep (suc f) zero at l p q = absurd (omega arith)
  deep (suc f) (suc h) at l p q = go (open_at rows end at) refl (λ to i j. deep f h to j (omega arith) (omega arith))
    where
      go : (t : Bool) → open_at rows end at ≡ t → ((to : Place) → at.row < to.row → to.row ≤ end → walk_to rows f end to ≡ walk_to rows h end to)
          → if◌then◌else◌ t (flat_map (walk_to rows f end) (onwards at ∷ aside_of rows at [])) (end_of rows end at)
          ≡ if◌then◌else◌ t (flat_map (walk_to rows h end) (onwards at ∷ aside_of rows at [])) (end_of rows end at)
      go true e d = step_cong at (open_in at l e) (walk_to rows f end) (walk_to rows h end) d
      go false e d = refl

  module _ (at : Place) (l : at.row ≤ end) where
    one_more : walked at ≡ if◌then◌else◌ (open_at rows end at) (flat_map (walk_to rows (end - at.row) end) (onwards at ∷ aside_of rows at [])) (end_of rows end at)
    unfolding walk_at walk_to
    one_more = let d : end + 1 - at.row ≡ suc (end - at.row) = omega arith in ap (λ (f : ℕ). walk_to rows f end at) d

    -- where it goes on, and where it stops
    pub walk_open : open_at rows end at ≡ true → walked at ≡ flat_map walked (onwards at ∷ aside_of rows at [])
    unfolding walk_at
    walk_open h =
        one_more ∙ ap (λ (t : Bool). if◌then◌else◌ t (flat_map (walk_to rows (end - at.row) end) (onwards at ∷ aside_of rows at [])) (end_of rows end at)) h
        ∙ step_cong at (open_in at l h) (walk_to rows (end - at.row) end) walked (λ to i j. deep (end - at.row) (end + 1 - to.row) to j (omega arith) (omega arith))

    pub walk_shut : open_at rows end at ≡ false → walked at ≡ end_of rows end at
    walk_shut h = one_more ∙ ap (λ (t : Bool). if◌then◌else◌ t (flat_map (walk_to rows (end - at.row) end) (onwards at ∷ aside_of rows at [])) (end_of rows end at)) h

  -- ---- a step from an open place, with what is aside
  module _ (at : Place) (aside : List Place) (held : Held end (at ∷ aside)) (h : open_at rows end at ≡ true) where
    pub held_in : (2 * length aside ≤ at.row) × (at.row < end)
    unfolding Held
    held_in = (held.0, open_in at held.1.0 h)

    -- an `either` or not
    cases : (P : List Place → Type 0) → (kind_at rows at.row ≡ Either → P (right_of rows at ∷ aside)) → P aside → P (aside_of rows at aside)
    cases P f g = go (kind_at rows at.row) refl
      where
        go : (kind : RowKind) → kind_at rows at.row ≡ kind → P (aside_by rows kind at aside)
        go With k = g
        go Without k = g
        go Either k = f k
        go Both k = g

    same_walk : flat_map walked (onwards at ∷ aside_of rows at aside) ≡ flat_map walked (at ∷ aside)
    unfolding flat_map Held
    same_walk =
        ap (λ (xs : List Product). walked (onwards at) ++ xs) (go (kind_at rows at.row))
        ∙ sym (append_assoc (walked (onwards at)) (flat_map walked (aside_of rows at [])) (flat_map walked aside))
        ∙ ap (λ (xs : List Product). xs ++ flat_map walked aside) (sym (walk_open at held.1.0 h))
      where
        go : (kind : RowKind) → flat_map walked (aside_by rows kind at aside) ≡ flat_map walked (aside_by rows kind at []) ++ flat_map walked aside
        go With = refl
        go Without = refl
        go Either = ap (λ (xs : List Product). xs ++ flat_map walked aside) (sym (append-nil (walked (right_of rows at))))
        go Both = refl

    still_held : Held end (onwards at ∷ aside_of rows at aside)
    unfolding Held
    still_held = cases (λ (ps : List Place). (2 * length ps ≤ (onwards at).row) × (((onwards at).row ≤ end) × Held end ps))
        (λ e. let a = either_later at held_in.1 e in
        (omega (arith, held_in.0), ((onward_later at held_in.1).1, (omega (arith, held_in.0), (omega arith, held.1.1)))))
        (let b = onward_later at held_in.1 in (omega (arith, held_in.0), (b.1, held.1.1)))

    fewer_steps : steps_left end (onwards at ∷ aside_of rows at aside) ≤ steps_left end (at ∷ aside)
    unfolding steps_left
    fewer_steps = cases (λ (ps : List Place). 2 ^ (end + 1 - (onwards at).row) + steps_left end ps ≤ 2 ^ (end + 1 - at.row) + steps_left end aside)
        (λ e. let a = either_later at held_in.1 e in
        let d : end + 1 - at.row ≡ suc (end - at.row) = omega (arith, held_in.1) in
        let r : end + 1 - (at.row + 1) ≡ end - at.row = omega arith in
        let q : 2 ^ (end + 1 - (onwards at).row) ≤ 2 ^ (end - at.row) = pow_mono (omega arith) in
        omega (arith, ap (λ (k : ℕ). 2 ^ k) d, ap (λ (k : ℕ). 2 ^ k) r, two-pow-succ (end - at.row), q))
        (let b = onward_later at held_in.1 in
        let q : 2 ^ (end + 1 - (onwards at).row) ≤ 2 ^ (end + 1 - at.row) = pow_mono (omega arith) in
        omega (arith, q))

    pub goes_on : Goes rows end (at ∷ aside) (onwards at ∷ aside_of rows at aside)
    goes_on = record { lists = same_walk; held = still_held; less = fewer_steps }

pub goes_nowhere : (rows : List PlanRow) {end : ℕ} {from : List Place} → Held end from → Goes rows end from from
goes_nowhere rows h = record { lists = refl; held = h; less = omega arith }

pub goes_then : {rows : List PlanRow} {end : ℕ} {from at to : List Place} → Goes rows end from at → Goes rows end at to → Goes rows end from to
goes_then g h = record { lists = h.lists ∙ g.lists; held = h.held; less = omega (arith, g.less, h.less) }

-- ---- what is written

pub put_none : (keeps : Bool) (l : List ℕ) (n : ℕ) {products : List Product} → products ≡ [] → Put keeps l l n n products
unfolding flat_map
put_none keeps l n e = subst (Put keeps l l n n) (sym e) (record { count = sym (add-zero n); words = go keeps })
  where
    go : (b : Bool) → l ≡ sets l (place_of n) (if◌then◌else◌ b [] [])
    go true = refl
    go false = refl

pub put_one : {l after : List ℕ} (n : ℕ) (c : Product) {products : List Product} → products ≡ c ∷ [] → after ≡ sets l (place_of n) (words_of c)
    → {keeps : Bool} → keeps ≡ true → Put keeps l after n (n + 1) products
unfolding flat_map
put_one {l} {after} n c {products} e w {keeps} k =
    subst (λ (b : Bool). Put b l after n (n + 1) products) (sym k) (subst (Put true l after n (n + 1)) (sym e) (record { count = refl; words = w }))

pub count_one : (l : List ℕ) (n : ℕ) {c : Product} {products : List Product} → products ≡ c ∷ [] → {keeps : Bool} → keeps ≡ false → Put keeps l l n (n + 1) products
count_one l n {c} {products} e {keeps} k = subst (λ (b : Bool). Put b l l n (n + 1) products) (sym k) (subst (Put false l l n (n + 1)) (sym e) (record { count = refl; words = refl }))

pub put_then : (keeps : Bool) {l m o : List ℕ} {k r : ℕ} (ps qs : List Product) → Put keeps l m 0 k ps → Put keeps m o k r qs → Put keeps l o 0 r (ps ++ qs)
put_then keeps {l} {m} {o} {k} {r} ps qs p q = record { count = omega (arith, p.count, q.count, length-append ps qs); words = go keeps p.words q.words }
  where
    go : (b : Bool) → m ≡ sets l (place_of 0) (if◌then◌else◌ b (flat_map words_of ps) []) → o ≡ sets m (place_of k) (if◌then◌else◌ b (flat_map words_of qs) [])
        → o ≡ sets l (place_of 0) (if◌then◌else◌ b (flat_map words_of (ps ++ qs)) [])
    go true u v =
        let at : place_of k ≡ header_words + length (flat_map words_of ps) = omega (arith, p.count, words_length ps) in
        v ∙ ap₂ (λ (x : List ℕ) (j : ℕ). sets x j (flat_map words_of qs)) u at
        ∙ sym (sets_append l header_words (flat_map words_of ps) (flat_map words_of qs)) ∙ ap (sets l header_words) (sym (flat_map_append words_of ps qs))
    go false u v = v ∙ u

pub put_length : (keeps : Bool) {l m : List ℕ} {n r : ℕ} {products : List Product} → Put keeps l m n r products → length m ≡ length l
put_length keeps {l} {n = n} {products = ps} p = ap length p.words ∙ length-sets l (place_of n) (if◌then◌else◌ keeps (flat_map words_of ps) [])
