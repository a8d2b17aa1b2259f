-- The lines of a plan hold that plan, and are sound and tied. Assumes nothing.
use Rattle.std.proofs.Common.{◌≡◌, ℕ, zero, suc, ◌+◌, ◌≤◌, ◌<◌, Bool, true, false, List, [], ◌∷◌, ◌++◌, ltb, length, Option, Some, None, refl, sym, ap, ap₂, subst, ◌∙◌, arith, length-append}
use borrow.Author.Tests.{ltb-true, ltb-false}
use Rattle.laws.specs.Plans.{Plan, with_it, without, either, both}
use Rattle.rows.specs.declared.RowKind.{RowKind}
use Rattle.rows.specs.declared.RowKind.TheVariants.{With, Without, Either, Both}
use Rattle.rows.specs.declared.Links.{Links}
use Rattle.rows.specs.declared.PlanRow.{PlanRow}
use Rattle.rows.specs.Rows.{links_at, shape, plan_to, plan_in, SoundLink, SoundLinks}
use Rattle.rows.specs.Lines.{rows_of, line, lines, Stands}
use Rattle.laying.proofs.Linked.{TiedTo, TiedBy, Tied}
use Rattle.rows.proofs.Changes.{stands_first, stands_rest, stands_left, stands_right}

pub some_row : (p : Plan) → 0 < rows_of p
unfolding rows_of
some_row (with_it i) = omega arith
some_row (without i) = omega arith
some_row (either a b) = omega arith
some_row (both a b) = omega arith

pub length_lines : (p : Plan) (x next : ℕ) (prior : Option ℕ) → length (lines p x next prior) ≡ rows_of p
unfolding lines rows_of
length_lines (with_it i) x next prior = refl
length_lines (without i) x next prior = refl
length_lines (either a b) x next prior =
    omega (arith, length-append (lines b (x + 1) next None) (lines a (x + 1 + rows_of b) next None), length_lines b (x + 1) next None, length_lines a (x + 1 + rows_of b) next None)
length_lines (both a b) x next prior =
    omega (arith, length-append (lines b (x + 1) (x + 1 + rows_of b) None) (lines a (x + 1 + rows_of b) next (Some (x + 1))), length_lines b (x + 1) (x + 1 + rows_of b) None, length_lines a (x + 1 + rows_of b) next (Some (x + 1)))

-- a row that is done before another is among the rows, if there is one
abbrev DoneIn : ℕ → Option ℕ → Type 0
DoneIn end prior = (done : ℕ) → prior ≡ Some done → done < end

no_done : (end : ℕ) → DoneIn end None
no_done end d e = let z : ◌≡◌ {A = ℕ} 0 1 = cc in absurd (omega arith)

some_done : (end n : ℕ) → n < end → DoneIn end (Some n)
some_done end n l d e = let z : n ≡ d = cc in omega arith

module _ (links : ℕ → Links) where
  -- an inner row, and its parts
  pub record Pair (x : ℕ) (kind : RowKind) (a b : Plan) (next right_next : ℕ) (prior left_done : Option ℕ) : Type 0 where
    pub head : links x ≡ line kind (x + 1 + rows_of b) next prior
    pub right : Stands links (x + 1) (lines b (x + 1) right_next None)
    pub left : Stands links (x + 1 + rows_of b) (lines a (x + 1 + rows_of b) next left_done)

  pub pair_of : (x : ℕ) (kind : RowKind) (a b : Plan) (next right_next : ℕ) (prior left_done : Option ℕ)
      → Stands links x (line kind (x + 1 + rows_of b) next prior ∷ (lines b (x + 1) right_next None ++ lines a (x + 1 + rows_of b) next left_done)) → Pair x kind a b next right_next prior left_done
  pair_of x kind a b next right_next prior left_done h =
      let head = line kind (x + 1 + rows_of b) next prior in
      let rs = lines b (x + 1) right_next None in
      let ls = lines a (x + 1 + rows_of b) next left_done in
      let rest = stands_rest links x head (rs ++ ls) h in
      record {
        head = stands_first links x head (rs ++ ls) h;
        right = stands_left links rs ls (x + 1) rest;
        left = stands_right links rs ls (x + 1) (x + 1 + rows_of b) (omega (arith, length_lines b (x + 1) right_next None)) rest;
      }

  -- the first row's next and done
  root : (p : Plan) (x next : ℕ) (prior : Option ℕ) → Stands links x (lines p x next prior) → ((links x).next ≡ next) × ((links x).done ≡ prior)
  unfolding lines
  root (with_it i) x next prior h = let e = stands_first links x (line With i next prior) [] h in (ap (λ (l : Links). l.next) e, ap (λ (l : Links). l.done) e)
  root (without i) x next prior h = let e = stands_first links x (line Without i next prior) [] h in (ap (λ (l : Links). l.next) e, ap (λ (l : Links). l.done) e)
  root (either a b) x next prior h = let e = (pair_of x Either a b next next prior None h).head in (ap (λ (l : Links). l.next) e, ap (λ (l : Links). l.done) e)
  root (both a b) x next prior h = let e = (pair_of x Both a b next (x + 1 + rows_of b) prior (Some (x + 1)) h).head in (ap (λ (l : Links). l.next) e, ap (λ (l : Links). l.done) e)

  -- the lines hold the plan, from any depth that is enough
  holds : (p : Plan) (f x next : ℕ) (prior : Option ℕ) → rows_of p ≤ f → Stands links x (lines p x next prior) → plan_to f links x ≡ p
  unfolding lines rows_of plan_to
  holds (with_it i) zero x next prior q h = absurd (omega arith)
  holds (with_it i) (suc f) x next prior q h =
      ap (λ (l : Links). shape l.kind l.left (plan_to f links l.left) (plan_to f links (x + 1))) (stands_first links x (line With i next prior) [] h)
  holds (without i) zero x next prior q h = absurd (omega arith)
  holds (without i) (suc f) x next prior q h =
      ap (λ (l : Links). shape l.kind l.left (plan_to f links l.left) (plan_to f links (x + 1))) (stands_first links x (line Without i next prior) [] h)
  holds (either a b) zero x next prior q h = absurd (omega arith)
  holds (either a b) (suc f) x next prior q h =
      let t = pair_of x Either a b next next prior None h in
      ap (λ (l : Links). shape l.kind l.left (plan_to f links l.left) (plan_to f links (x + 1))) t.head
      ∙ ap₂ either (holds a f (x + 1 + rows_of b) next None (omega arith) t.left) (holds b f (x + 1) next None (omega arith) t.right)
  holds (both a b) zero x next prior q h = absurd (omega arith)
  holds (both a b) (suc f) x next prior q h =
      let t = pair_of x Both a b next (x + 1 + rows_of b) prior (Some (x + 1)) h in
      ap (λ (l : Links). shape l.kind l.left (plan_to f links l.left) (plan_to f links (x + 1))) t.head
      ∙ ap₂ both (holds a f (x + 1 + rows_of b) next (Some (x + 1)) (omega arith) t.left) (holds b f (x + 1) (x + 1 + rows_of b) None (omega arith) t.right)

  -- ---- every row is sound and tied
  abbrev GoodAs : ℕ → ℕ → Links → Type 0
  GoodAs end x l = SoundLink l end x × TiedBy l.kind links x

  abbrev Good : ℕ → ℕ → Type 0
  Good end x = GoodAs end x (links x)

  leaf_with : (end x number next : ℕ) (prior : Option ℕ) → links x ≡ line With number next prior → x < next → next ≤ end → DoneIn end prior → Good end x
  leaf_with end x number next prior e up in_range d = subst (GoodAs end x) (sym e) (record { left = λ i. absurd i; next_up = up; next_in = in_range; done_in = d }, tt)

  leaf_without : (end x number next : ℕ) (prior : Option ℕ) → links x ≡ line Without number next prior → x < next → next ≤ end → DoneIn end prior → Good end x
  leaf_without end x number next prior e up in_range d = subst (GoodAs end x) (sym e) (record { left = λ i. absurd i; next_up = up; next_in = in_range; done_in = d }, tt)

  -- a row with two parts
  module _ (a b : Plan) {x next right_next : ℕ} {kind : RowKind} {prior left_done : Option ℕ} (t : Pair x kind a b next right_next prior left_done) where
    leads : {end : ℕ} → x + 1 + rows_of b + rows_of a ≤ next → next ≤ end → DoneIn end prior → SoundLink (line kind (x + 1 + rows_of b) next prior) end x
    leads {end} fits in_range d = record {
      left = λ i. record { up = omega (arith, some_row b); fits = omega (arith, some_row a) };
      next_up = omega arith;
      next_in = in_range;
      done_in = d;
    }

    ties : {follows : ℕ} → right_next ≡ follows → TiedTo links x follows left_done
    ties e =
        let ra = root a (x + 1 + rows_of b) next left_done t.left in
        let rb = root b (x + 1) right_next None t.right in
        record {
          left_next = ap (λ (l : Links). (links l.left).next) t.head ∙ ra.0 ∙ sym (ap (λ (l : Links). l.next) t.head);
          right_next = rb.0 ∙ e;
          left_done = ap (λ (l : Links). (links l.left).done) t.head ∙ ra.1;
          right_done = rb.1;
        }

  -- a row is the first of a part, or in its right part, or in its left
  split : (end x nb na y : ℕ) → x ≤ y → y < x + (na + nb + 1) → Good end x
      → (x + 1 ≤ y → y < x + 1 + nb → Good end y) → (x + 1 + nb ≤ y → y < x + 1 + nb + na → Good end y) → Good end y
  split end x nb na y l u h f k = first (ltb y (x + 1)) refl (ltb y (x + 1 + nb)) refl
    where
      first : (s : Bool) → ltb y (x + 1) ≡ s → (t : Bool) → ltb y (x + 1 + nb) ≡ t → Good end y
      first true p t q = let z : x ≡ y = omega (arith, ltb-true y (x + 1) p) in subst (Good end) z h
      first false p true q = f (ltb-false y (x + 1) p) (ltb-true y (x + 1 + nb) q)
      first false p false q = k (ltb-false y (x + 1 + nb) q) (omega arith)

  good : (p : Plan) (end x next : ℕ) (prior : Option ℕ) → Stands links x (lines p x next prior) → x + rows_of p ≤ next → next ≤ end → DoneIn end prior → (y : ℕ) → x ≤ y → y < x + rows_of p → Good end y
  unfolding lines rows_of
  good (with_it i) end x next prior h l m n y u v =
      let z : x ≡ y = omega arith in
      subst (Good end) z (leaf_with end x i next prior (stands_first links x (line With i next prior) [] h) (omega arith) m n)
  good (without i) end x next prior h l m n y u v =
      let z : x ≡ y = omega arith in
      subst (Good end) z (leaf_without end x i next prior (stands_first links x (line Without i next prior) [] h) (omega arith) m n)
  good (either a b) end x next prior h l m n y u v =
      let t = pair_of x Either a b next next prior None h in
      let here = subst (GoodAs end x) (sym t.head) (leads a b t (omega arith) m n, ties a b t (sym (ap (λ (k : Links). k.next) t.head))) in
      split end x (rows_of b) (rows_of a) y u v here
      (good b end (x + 1) next None t.right (omega arith) m (no_done end) y) (good a end (x + 1 + rows_of b) next None t.left (omega arith) m (no_done end) y)
  good (both a b) end x next prior h l m n y u v =
      let t = pair_of x Both a b next (x + 1 + rows_of b) prior (Some (x + 1)) h in
      let here = subst (GoodAs end x) (sym t.head) (leads a b t (omega arith) m n, ties a b t (sym (ap (λ (k : Links). k.left) t.head))) in
      split end x (rows_of b) (rows_of a) y u v here
      (good b end (x + 1) (x + 1 + rows_of b) None t.right (omega arith) (omega arith) (no_done end) y)
      (good a end (x + 1 + rows_of b) next (Some (x + 1)) t.left (omega arith) m (some_done end (x + 1) (omega (arith, some_row a))) y)

-- THE LINES OF A PLAN, from row 0 on
module _ (rows : List PlanRow) (p : Plan) (few : rows_of p ≤ 127) (h : Stands (links_at rows) 0 (lines p 0 (rows_of p) None)) where
  pub lines_plan : plan_in rows 0 ≡ p
  unfolding plan_in
  lines_plan = holds (links_at rows) p 127 0 (rows_of p) None few h

  all_good : (x : ℕ) → x < rows_of p → Good (links_at rows) (rows_of p) x
  all_good x l = good (links_at rows) p (rows_of p) 0 (rows_of p) None h (omega arith) (omega arith) (no_done (rows_of p)) x (omega arith) (omega arith)

  pub lines_sound : SoundLinks rows (rows_of p)
  lines_sound = record { some = some_row p; few = few; link = λ x l. (all_good x l).0 }

  pub lines_tied : Tied (links_at rows) (rows_of p)
  lines_tied = let r = root (links_at rows) p 0 (rows_of p) None h in record { row = λ x l. (all_good x l).1; root_next = r.0; root_done = r.1 }
