-- What a row's kind word says of the row. Assumes nothing.
use Prim.Native.Nat.{ℕ, ◌<◌, ◌^◌}
use native.Mathlib.Omega.{arith}
use mathlib.Core.Bool.{Bool, true, false, ◌&&◌}
use mathlib.Core.List.{List}
use mathlib.Core.Option.{Option, none, some}
use mathlib.Core.Path.{◌≡◌, refl, sym, ap, ◌∙◌}
use lib.Dec.{T, ltb, leb-zero}
use lib.IntN.{ℤ, pos, negsuc, nat_abs}
use lib.Signed.{mag, le_z, lt_z, non_neg}
use mir.Syntax.{w32, w64}
use mir.Val.{Fits, of_z}
use Rattle.ground.proofs.Branches.{false_true}
use Rattle.rules.specs.declared.Kind.{Kind}
use Rattle.rules.specs.declared.Kind.TheVariants as kind
use Rattle.rules.specs.declared.Row.{Row}
use Rattle.rules.specs.declared.Row.TheVariants.{Union, Inter, Diff}
use Rattle.rules.specs.Kinds.{is_primitive, kind_number, kind_of}
use Rattle.rules.specs.Table.{row_count, word_at, operation, row_of, row_by, kind_at, row_at}
use Rattle.rules.specs.Fields.{is_earlier}
use Rattle.laws.specs.Sound.{SoundRow, Sound}
use Rattle.rules.proofs.KindNumbers.{number_kind, number_of_kind}
use Rattle.table.specs.Reading.{InTable, IsOperation}

-- ---- a row from its kind

-- the test of word 0 for an operation
abbrev pub is_operation : ℤ → Bool
is_operation z = le_z (pos 3) z && le_z z (pos 5)

module _ (t : List ℤ) (row : ℕ) where
  -- a row whose word 0 is the number of k is a row of kind k
  pub row_of_kind : (k : Kind) → word_at t row 0 ≡ pos (kind_number k) → row_of k (word_at t row) ≡ row_at t row
  row_of_kind k e = ap (λ (x : Option Kind). row_by x (word_at t row)) (sym (number_kind k) ∙ ap kind_of (sym e))

  op_words : (op : ℕ → ℕ → Row) (a b : ℤ) {r : Row} → operation op a b ≡ some r → T (non_neg a) × T (non_neg b)
  op_words op (pos l) (pos r) e = (tt, tt)
  op_words op (pos l) (negsuc r) e = let z : ◌≡◌ {A = ℕ} 0 1 = cc in absurd (omega arith)
  op_words op (negsuc l) b e = let z : ◌≡◌ {A = ℕ} 0 1 = cc in absurd (omega arith)

  -- the kind of a row that can be read
  known_kind : SoundRow t row → (k : Kind) × (kind_at t row ≡ some k) × (word_at t row 0 ≡ pos (kind_number k))
  known_kind s = go (kind_at t row) refl
    where
      go : (x : Option Kind) → kind_at t row ≡ x → (k : Kind) × (kind_at t row ≡ some k) × (word_at t row 0 ≡ pos (kind_number k))
      go none e = let z = sym (ap (λ (x : Option Kind). row_by x (word_at t row)) e) ∙ s.is in let y : ◌≡◌ {A = ℕ} 0 1 = cc in absurd (omega arith)
      go (some k) e = (k, e, number_of_kind (word_at t row 0) e)

  -- a sound row that passes it is an operation
  pub operates : SoundRow t row → is_operation (word_at t row 0) ≡ true → IsOperation t row (word_at t row 0)
  operates s h = let (k, e, z) = known_kind s in go k e (sym (ap is_operation z) ∙ h)
    where
      by : (k : Kind) → kind_at t row ≡ some k → (is_primitive k ≡ false) × (T (non_neg (word_at t row 1)) × T (non_neg (word_at t row 2))) → IsOperation t row (word_at t row 0)
      by k e p = record { same = refl; known = k; is = e; combines = p.0; left = p.1.0; right = p.1.1 }

      reads : (k : Kind) → kind_at t row ≡ some k → row_of k (word_at t row) ≡ some s.reads
      reads k e = sym (ap (λ (x : Option Kind). row_by x (word_at t row)) e) ∙ s.is

      go : (k : Kind) → kind_at t row ≡ some k → is_operation (pos (kind_number k)) ≡ true → IsOperation t row (word_at t row 0)
      go kind.Box e h = false_true h
      go kind.Wedge e h = false_true h
      go kind.Drum e h = false_true h
      go kind.Union e h = by kind.Union e (refl, op_words Union (word_at t row 1) (word_at t row 2) (reads kind.Union e))
      go kind.Inter e h = by kind.Inter e (refl, op_words Inter (word_at t row 1) (word_at t row 2) (reads kind.Inter e))
      go kind.Diff e h = by kind.Diff e (refl, op_words Diff (word_at t row 1) (word_at t row 2) (reads kind.Diff e))
      go kind.Triangle e h = false_true h

  -- one that does not, and is no box, wedge or drum, is a triangle
  pub last_solid : SoundRow t row → is_operation (word_at t row 0) ≡ false → (of_z w32 (word_at t row 0) ≡ 0 → ⊥) → (of_z w32 (word_at t row 0) ≡ 1 → ⊥) → (of_z w32 (word_at t row 0) ≡ 2 → ⊥)
      → word_at t row 0 ≡ pos 6
  last_solid s h n0 n1 n2 = let (k, e, z) = known_kind s in go k z (sym (ap is_operation z) ∙ h)
    where
      go : (k : Kind) → word_at t row 0 ≡ pos (kind_number k) → is_operation (pos (kind_number k)) ≡ false → word_at t row 0 ≡ pos 6
      go kind.Box z h = absurd (n0 (ap (of_z w32) z))
      go kind.Wedge z h = absurd (n1 (ap (of_z w32) z))
      go kind.Drum z h = absurd (n2 (ap (of_z w32) z))
      go kind.Union z h = false_true (sym h)
      go kind.Inter z h = false_true (sym h)
      go kind.Diff z h = false_true (sym h)
      go kind.Triangle z h = z

  module _ {z : ℤ} (o : IsOperation t row z) where
    -- an operation of which word 0 is known
    pub op_row : (op : ℕ → ℕ → Row) {l r : ℕ} → pos l ≡ word_at t row 1 → pos r ≡ word_at t row 2
        → (k : Kind) → operation op (word_at t row 1) (word_at t row 2) ≡ row_of k (word_at t row) → z ≡ pos (kind_number k) → some (op l r) ≡ row_at t row
    op_row op e f k g h = (λ i. operation op (e i) (f i)) ∙ g ∙ row_of_kind k (sym o.same ∙ h)

    -- and no union and no intersection
    pub last_op : (of_z w32 z ≡ 3 → ⊥) → (of_z w32 z ≡ 4 → ⊥) → z ≡ pos 5
    last_op n3 n4 = go o.known (number_of_kind z o.is) o.combines
      where
        go : (k : Kind) → z ≡ pos (kind_number k) → is_primitive k ≡ false → z ≡ pos 5
        go kind.Box e c = false_true (sym c)
        go kind.Wedge e c = false_true (sym c)
        go kind.Drum e c = false_true (sym c)
        go kind.Union e c = absurd (n3 (ap (of_z w32) e))
        go kind.Inter e c = absurd (n4 (ap (of_z w32) e))
        go kind.Diff e c = e
        go kind.Triangle e c = false_true (sym c)

-- ---- a child

pub child_fits : (z : ℤ) → mag z < 2 ^ 31 → T (non_neg z) → T (non_neg z) × Fits w64 (nat_abs z)
child_fits (pos n) f h = (tt, omega arith)
child_fits (negsuc n) f h = absurd h

pub earlier_read : (row : ℕ) (z : ℤ) → (le_z (pos 0) z && lt_z z (pos row)) ≡ is_earlier row z
earlier_read row (pos n) = ap (λ (b : Bool). b && ltb n row) (leb-zero n)
earlier_read row (negsuc n) = refl

-- ---- a row of a sound table can be read

pub row_there : {t : List ℤ} {row : ℕ} → Sound t → row < row_count t → InTable t row × SoundRow t row
row_there {t} {row} S l = (record { whole = omega (arith, S.whole) }, S.rows row l)
