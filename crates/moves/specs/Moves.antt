-- What the moves leave of a run of words, where its parts have names: x, y and z are the words of the trees X, Y and Z.
use Rattle.std.specs.Prelude.{ℕ, ◌+◌, ◌*◌, ◌<◌, List, ◌∷◌, ◌++◌, ◌≡◌, ℤ, pos, length, drop, slice_index}
use Rattle.moves.specs.declared.Operation.{Operation}
use Rattle.moves.specs.declared.Operation.TheVariants.{Union, Inter, Diff}

-- no tree has more words: 4,096 leaves, and the operations on them
abbrev pub most_words : ℕ
most_words = 8191

-- 16 and the kind of the row that tells of an operation
abbrev pub operation_number : Operation → ℕ
operation_number Union = 19
operation_number Inter = 20
operation_number Diff = 21

-- the word of an operation whose left part has n words
abbrev pub node : ℕ → ℕ → ℤ
node operation n = pos (operation + 32 * n)

-- an operation and the words of its left part, or less
abbrev pub IsWord : ℕ → Type 0
IsWord x = x < 32 + 32 * most_words

-- .. each of them
abbrev pub AreWords : List ℕ → Type 0
AreWords xs = (i : ℕ) → i < length xs → IsWord (slice_index xs i)

-- b has moved up by k; what stands before it now is of no account
abbrev pub Opened : List ℤ → List ℤ → ℕ → ℕ → ℕ → Type 0
Opened w v at k end =
    (p b c : List ℤ) → w ≡ p ++ (b ++ c) → length p ≡ at → at + length b ≡ end
    → (j : List ℤ) × (v ≡ p ++ (j ++ (b ++ drop k c))) × (length j ≡ k)

-- x stands a second time, in the place of j
abbrev pub Copied : List ℤ → List ℤ → ℕ → ℕ → ℕ → Type 0
Copied w v from to n =
    (p x b j c : List ℤ) → w ≡ p ++ (x ++ (b ++ (j ++ c))) → length p ≡ from → length x ≡ n → length j ≡ n → from + n + length b ≡ to
    → v ≡ p ++ (x ++ (b ++ (x ++ c)))

-- 1, 4, 6: k X (q Y Z) becomes p (r X Y) Z, where b is Y, Z and what follows
abbrev pub LeanTo : List ℤ → List ℤ → ℕ → ℕ → ℕ → ℕ → ℕ → Type 0
LeanTo w v at right middle p r =
    (a x b : List ℤ) (k q : ℤ) → w ≡ a ++ (k ∷ (x ++ (q ∷ b))) → length a ≡ at → at + 1 + length x ≡ right
    → v ≡ a ++ (node p (1 + length x + middle) ∷ (node r (length x) ∷ (x ++ b)))

-- 2, 3, 5: k X (q Y Z) becomes the union of r X Y and s X Z, where c is Z and what else is in use, and d is not
abbrev pub SplitTo : List ℤ → List ℤ → ℕ → ℕ → ℕ → ℕ → ℕ → ℕ → ℕ → Type 0
SplitTo w v at right middle used r s n =
    (a x y c d : List ℤ) (k q : ℤ) → w ≡ a ++ (k ∷ (x ++ (q ∷ (y ++ (c ++ d))))) → length a ≡ at → at + 1 + length x ≡ right → length y ≡ middle
    → right + 1 + middle + length c ≡ used
    → (n ≡ used + length x + 1)
    × (v ≡ a ++ (node 19 (1 + length x + middle) ∷ (node r (length x) ∷ (x ++ (y ++ (node s (length x) ∷ (x ++ (c ++ drop (length x + 1) d))))))))

-- 6.5: the intersection of X - Y and z becomes that of X and z, less Y
abbrev pub SwapTo : List ℤ → List ℤ → ℕ → ℕ → ℕ → ℤ → Type 0
SwapTo w v at first right z =
    (a x y c : List ℤ) (k q : ℤ) → w ≡ a ++ (k ∷ (q ∷ (x ++ (y ++ (z ∷ c))))) → length a ≡ at → length x ≡ first → at + 2 + first + length y ≡ right
    → v ≡ a ++ (node 21 (first + 2) ∷ (node 20 first ∷ (x ++ (z ∷ (y ++ c)))))

-- 7, 8: k (X ∪ Y) z becomes the union of k X z and k Y z, where c is what else is in use, and d is not
abbrev pub ShareTo : List ℤ → List ℤ → ℕ → ℕ → ℕ → ℕ → ℤ → ℕ → ℕ → Type 0
ShareTo w v at first right k z used n =
    (a x y c d : List ℤ) (h q : ℤ) → w ≡ a ++ (h ∷ (q ∷ (x ++ (y ++ (z ∷ (c ++ d)))))) → length a ≡ at → length x ≡ first
    → at + 2 + first + length y ≡ right → right + 1 + length c ≡ used
    → (n ≡ used + 2) × (v ≡ a ++ (node 19 (first + 2) ∷ (node k first ∷ (x ++ (z ∷ (node k (length y) ∷ (y ++ (z ∷ (c ++ drop 2 d)))))))))
