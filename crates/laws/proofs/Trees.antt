-- In a sound table a row's tree is made of the trees of the rows that it names. Assumes nothing.
use Prim.Native.Nat.{ℕ, zero, suc, ◌<◌}
use native.Mathlib.Decide.{dec_lt}
use native.Mathlib.Omega.{arith}
use mathlib.Core.List.{List, [], ◌∷◌}
use mathlib.Core.Option.{some}
use mathlib.Core.Path.{◌≡◌, refl, sym, ap, subst, ◌∙◌}
use lib.IntN.{ℤ}
use lib.ListN.{length, length-append, get_or-append}
use lib.Seq.{get_or_at}
use Rattle.rules.specs.declared.Row.{Row}
use Rattle.rules.specs.declared.Row.TheVariants.{Solid, Union, Inter, Diff}
use Rattle.rules.specs.Table.{row_count, row_at, primitives_before}
use Rattle.rules.specs.Tree.{Tree, solid, union, inter, diff, nowhere, row_tree, tree_in, trees, tree_at}
use Rattle.laws.specs.Sound.{RowRight, Sound}

row_tree_same : (n : ℕ) (f g : ℕ → Tree) (row : ℕ) (r : Row) → RowRight row r → ((a : ℕ) → a < row → f a ≡ g a) → row_tree n f (some r) ≡ row_tree n g (some r)
row_tree_same n f g row (Solid s) ok h = refl
row_tree_same n f g row (Union a b) ok h = λ i. union (h a ok.0 i) (h b ok.1 i)
row_tree_same n f g row (Inter a b) ok h = λ i. inter (h a ok.0 i) (h b ok.1 i)
row_tree_same n f g row (Diff a b) ok h = λ i. diff (h a ok.0 i) (h b ok.1 i)

module _ (t : List ℤ) (S : Sound t) where
  abbrev number : ℕ → ℕ
  number row = length (primitives_before t row)

  same_row : (f g : ℕ → Tree) (row : ℕ) → row < row_count t → ((a : ℕ) → a < row → f a ≡ g a) → row_tree (number row) f (row_at t row) ≡ row_tree (number row) g (row_at t row)
  same_row f g row l h =
      let s = S.rows row l in
      ap (row_tree (number row) f) s.is ∙ row_tree_same (number row) f g row s.reads s.right h ∙ sym (ap (row_tree (number row) g) s.is)

  trees_length : (n : ℕ) → length (trees t n) ≡ n
  unfolding trees
  trees_length zero = refl
  trees_length (suc n) = omega (arith, trees_length n, length-append (trees t n) (row_tree (number n) (tree_in (trees t n)) (row_at t n) ∷ []))

  -- a row's tree is the same among those of any more rows
  among : (n row : ℕ) → row < n → tree_in (trees t n) row ≡ tree_at t row
  unfolding trees
  among zero row l = absurd (omega arith)
  among (suc n) row l = go (dec_lt row n) (among n row)
    where
      go : Dec (row < n) → (row < n → tree_in (trees t n) row ≡ tree_at t row) → tree_in (trees t (suc n)) row ≡ tree_at t row
      go (yes h) earlier = get_or-append (trees t n) _ (solid 0 nowhere) row (omega (arith, trees_length n)) ∙ earlier h
      go (no h) earlier = let last : row ≡ n = omega arith in ap (λ (m : ℕ). tree_in (trees t (suc m)) row) (sym last)

  pub tree_row : (row : ℕ) → row < row_count t → tree_at t row ≡ row_tree (number row) (tree_at t) (row_at t row)
  unfolding trees
  tree_row row k =
      get_or_at (trees t row) (row_tree (number row) (tree_in (trees t row)) (row_at t row)) [] (solid 0 nowhere) row (trees_length row)
      ∙ same_row (tree_in (trees t row)) (tree_at t) row k (λ a l. among row a l)

some_once : {A : Type 0} {a b : A} → some a ≡ some b → a ≡ b
some_once e = cc

-- a row that was read as r
module _ {t : List ℤ} (S : Sound t) {row : ℕ} (l : row < row_count t) {x r : Row} (e : some x ≡ row_at t row) (g : x ≡ r) where
  pub read_right : RowRight row r
  read_right =
      let s = S.rows row l in
      let same : s.reads ≡ r = some_once (sym s.is ∙ sym e ∙ ap some g) in
      subst (RowRight row) same s.right

  pub read_tree : tree_at t row ≡ row_tree (length (primitives_before t row)) (tree_at t) (some r)
  read_tree = tree_row t S row l ∙ ap (row_tree (length (primitives_before t row)) (tree_at t)) (sym e ∙ ap some g)
