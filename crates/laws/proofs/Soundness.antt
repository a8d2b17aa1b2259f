-- A table that the check lets through is sound. Assumes nothing.
use Prim.Native.Nat.{ℕ, ◌-◌, ◌*◌, ◌%◌, ◌≤◌, ◌<◌}
use native.Mathlib.Omega.{arith}
use mathlib.Core.Bool.{Bool, true, false, not, ◌&&◌, ◌||◌}
use mathlib.Core.List.{List, [], ◌∷◌}
use mathlib.Core.Option.{Option, none, some}
use mathlib.Core.Path.{◌≡◌, refl, sym}
use borrow.Author.Tests.{eqb-true, eqb-false, ltb-true, ltb-false, not-false}
use lib.Dec.{eqb, ltb}
use lib.IntN.{ℤ, pos, negsuc}
use lib.ListN.{length}
use Rattle.ground.proofs.Branches.{false_true, and_left, and_right}
use Rattle.ground.proofs.Counting.{rulings_none, first_kept}
use Rattle.rules.specs.declared.Rule.{Rule}
use Rattle.rules.specs.declared.Rule.TheVariants as rule
use Rattle.rules.specs.declared.Kind.{Kind}
use Rattle.rules.specs.declared.Kind.TheVariants as kind
use Rattle.rules.specs.declared.Row.{Row}
use Rattle.rules.specs.declared.Row.TheVariants.{Union, Inter, Diff}
use Rattle.rules.specs.Table.{row_words, most_rows, row_count, word_at, operation, row_by, kind_at}
use Rattle.rules.specs.Fields.{fields_right, spare_right, is_earlier, children_right}
use Rattle.rules.specs.Refusals.{refuse_if, refuse_unless}
use Rattle.rules.specs.Verdict.{length_refusal, row_refusal, row_refusal_by, rows_refusal, child_once, child_refusal, table_refusal}
use Rattle.laws.specs.Sound.{RowRight, SoundRow, Sound}

-- ---- rules that were kept

pub unless_kept : (b : Bool) (r : Rule) (v : ℕ) → refuse_unless b r v ≡ none → b ≡ true
unless_kept true r v e = refl
unless_kept false r v e = cc

pub if_kept : (b : Bool) (r : Rule) (v : ℕ) → refuse_if b r v ≡ none → b ≡ false
if_kept true r v e = cc
if_kept false r v e = refl

pub or_false : (p q : Bool) → (p || q) ≡ false → (p ≡ false) × (q ≡ false)
or_false true q e = (e, false_true (sym e))
or_false false q e = (refl, e)

-- ---- a row

-- a row whose rules are kept, as it is read
record Kept (x : Option Kind) (w : ℕ → ℤ) (row : ℕ) : Type 0 where
  reads : Row
  is : row_by x w ≡ some reads
  right : RowRight row reads

op_kept : (op : ℕ → ℕ → Row) (a b : ℤ) (row : ℕ) → ((l r : ℕ) → (l < row) × (r < row) → RowRight row (op l r))
    → (is_earlier row a && is_earlier row b) ≡ true → (r : Row) × (operation op a b ≡ some r) × RowRight row r
op_kept op (pos l) (pos r) row f h = (op l r, refl, f l r (ltb-true l row (and_left (ltb l row) (ltb r row) h), ltb-true r row (and_right (ltb l row) (ltb r row) h)))
op_kept op (pos l) (negsuc r) row f h = false_true (and_right (ltb l row) false h)
op_kept op (negsuc l) b row f h = false_true h

kept_by : (x : Option Kind) (w : ℕ → ℤ) (row : ℕ) → row_refusal_by x w row ≡ none → Kept x w row
kept_by none w row e = let z : ◌≡◌ {A = ℕ} 0 1 = cc in absurd (omega arith)
kept_by (some k) w row e =
    let rules = first_kept (refuse_unless (fields_right k w && spare_right k w) rule.Fields row) (refuse_unless (children_right k w row) rule.Children row ∷ []) e in
    let fields : fields_right k w ≡ true = and_left (fields_right k w) (spare_right k w) (unless_kept (fields_right k w && spare_right k w) rule.Fields row rules.0) in
    let children : children_right k w row ≡ true = unless_kept (children_right k w row) rule.Children row (first_kept (refuse_unless (children_right k w row) rule.Children row) [] rules.1).0 in
    go k fields children
  where
    by : {k : Kind} → (r : Row) × (row_by (some k) w ≡ some r) × RowRight row r → Kept (some k) w row
    by p = record { reads = p.0; is = p.1; right = p.2 }

    go : (k : Kind) → fields_right k w ≡ true → children_right k w row ≡ true → Kept (some k) w row
    go kind.Box f c = by (_, refl, f)
    go kind.Wedge f c = by (_, refl, f)
    go kind.Drum f c = by (_, refl, f)
    go kind.Union f c = by (op_kept Union (w 1) (w 2) row (λ l r h. h) c)
    go kind.Inter f c = by (op_kept Inter (w 1) (w 2) row (λ l r h. h) c)
    go kind.Diff f c = by (op_kept Diff (w 1) (w 2) row (λ l r h. h) c)
    go kind.Triangle f c = by (_, refl, f)

pub sound_row : (t : List ℤ) (row : ℕ) → row_refusal t row ≡ none → SoundRow t row
sound_row t row e = let k = kept_by (kind_at t row) (word_at t row) row e in record { reads = k.reads; is = k.is; right = k.right }

-- ---- a table

-- the length is right
pub record Whole (t : List ℤ) : Type 0 where
  pub whole : length t ≡ row_count t * row_words
  pub some_row : 1 ≤ row_count t
  pub not_over : row_count t ≤ most_rows

pub whole_table : (t : List ℤ) → length_refusal t ≡ none → Whole t
whole_table t e =
    let h = if_kept (not (eqb (length t % row_words) 0) || (eqb (length t) 0 || ltb (most_rows * row_words) (length t))) rule.Length (length t) e in
    let p = or_false (not (eqb (length t % row_words) 0)) (eqb (length t) 0 || ltb (most_rows * row_words) (length t)) h in
    let q = or_false (eqb (length t) 0) (ltb (most_rows * row_words) (length t)) p.1 in
    let even : length t % row_words ≡ 0 = eqb-true (length t % row_words) 0 (not-false (eqb (length t % row_words) 0) p.0) in
    let some : length t ≡ 0 → ⊥ = eqb-false (length t) 0 q.0 in
    let few : length t ≤ most_rows * row_words = ltb-false (most_rows * row_words) (length t) q.1 in
    record { whole = omega arith; some_row = omega arith; not_over = omega arith }

pub table_sound : (t : List ℤ) → table_refusal t ≡ none → Sound t
unfolding table_refusal
table_sound t e =
    let a = first_kept (length_refusal t) (rows_refusal t ∷ child_refusal t ∷ []) e in
    let b = first_kept (rows_refusal t) (child_refusal t ∷ []) a.1 in
    let c = first_kept (child_refusal t) [] b.1 in
    let w = whole_table t a.0 in
    record {
      whole = w.whole;
      some_row = w.some_row;
      not_over = w.not_over;
      rows = λ row h. sound_row t row (rulings_none (row_refusal t) (row_count t) b.0 row h);
      once = λ row h. unless_kept (child_once t row) rule.Once row (rulings_none (λ r. refuse_unless (child_once t r) rule.Once r) (row_count t - 1) c.0 row h);
    }
