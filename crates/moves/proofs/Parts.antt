-- The moves one after the other, as the rewrites have them: what they leave of the parts of a run. Assumes nothing.
use Prim.Native.Nat.{ℕ, ◌+◌, ◌-◌}
use mathlib.Core.List.{List, [], ◌∷◌, ◌++◌, append_assoc}
use mathlib.Core.Path.{◌≡◌, refl, sym, ap, ap₂, ◌∙◌}
use native.Mathlib.Omega.{arith}
use lib.IntN.{ℤ, pos}
use lib.ListN.{length, length-append, drop}
use lib.Seq.{sets, append_snoc}
use Rattle.moves.specs.Moves.{node, Opened, Copied, LeanTo}
use Rattle.moves.proofs.Moving.{one_put, two_put}

-- a run of one word, and of two
one_word : (j : List ℤ) → length j ≡ 1 → (x : ℤ) × (j ≡ x ∷ [])
one_word [] e = absurd (omega arith)
one_word (x ∷ []) e = (x, refl)
one_word (x ∷ y ∷ l) e = absurd (omega arith)

two_words : (j : List ℤ) → length j ≡ 2 → (x : ℤ) × (y : ℤ) × (j ≡ x ∷ y ∷ [])
two_words [] e = absurd (omega arith)
two_words (x ∷ []) e = absurd (omega arith)
two_words (x ∷ y ∷ []) e = (x, y, refl)
two_words (x ∷ y ∷ z ∷ l) e = absurd (omega arith)

more_words : (j : List ℤ) (n : ℕ) → length j ≡ n + 1 → (x : ℤ) × (l : List ℤ) × (j ≡ x ∷ l) × (length l ≡ n)
more_words [] n e = absurd (omega arith)
more_words (x ∷ l) n e = (x, l, refl, omega arith)

-- two words, known by what they come to
pub put_as : (u : List ℤ) {v : List ℤ} (at : ℕ) {x y : ℕ} (x' y' : ℕ) → x ≡ x' → y ≡ y' → v ≡ sets u at (pos x ∷ pos y ∷ []) → v ≡ sets u at (pos x' ∷ pos y' ∷ [])
put_as u {v} at x' y' e f g = g ∙ ap₂ (λ (m n : ℕ). sets u at (pos m ∷ pos n ∷ [])) e f

-- two words written where the run has two words
put_over : {u v : List ℤ} (at : ℕ) (x y : ℤ) (a l : List ℤ) (i j : ℤ) → u ≡ a ++ (i ∷ (j ∷ l)) → length a ≡ at → v ≡ sets u at (x ∷ y ∷ []) → v ≡ a ++ (x ∷ (y ∷ l))
put_over at x y a l i j e h g = g ∙ ap (λ (w : List ℤ). sets w at (x ∷ y ∷ [])) e ∙ two_put a i j l x y at h

-- ---- 1, 4, 6
pub leaned : {w u v : List ℤ} {at right : ℕ} (middle p r : ℕ) → Opened w u (at + 1) 1 right
    → v ≡ sets u at (node p (right - at - 1 + middle + 1) ∷ node r (right - at - 1) ∷ []) → LeanTo w v at right middle p r
leaned {w} {u} {v} {at} {right} middle p r o t a x b k q e ha hr =
    let m = o (a ++ (k ∷ [])) x (q ∷ b) (e ∙ sym (append_snoc a k (x ++ (q ∷ b)))) (length-append a (k ∷ []) ∙ ap (λ (n : ℕ). n + 1) ha) hr in
    let i = one_word m.0 m.2 in
    let f : u ≡ a ++ (k ∷ (i.0 ∷ (x ++ b))) =
    m.1 ∙ ap (λ (j : List ℤ). (a ++ (k ∷ [])) ++ (j ++ (x ++ b))) i.1 ∙ append_snoc a k (i.0 ∷ (x ++ b)) in
    let n : right - at - 1 ≡ length x = omega arith in
    let l : right - at - 1 + middle + 1 ≡ 1 + length x + middle = omega arith in
    put_over at (node p (right - at - 1 + middle + 1)) (node r (right - at - 1)) a (x ++ b) k i.0 f ha t ∙ ap₂ (λ (y z : ℕ). a ++ (node p y ∷ (node r z ∷ (x ++ b)))) l n

-- ---- two words before x, and what follows it
module _ (a x : List ℤ) (k q : ℤ) where
  abbrev front : List ℤ
  front = a ++ (k ∷ (q ∷ x))

  front_on : (l : List ℤ) → front ++ l ≡ a ++ (k ∷ (q ∷ (x ++ l)))
  front_on l = append_assoc a (k ∷ (q ∷ x)) l

  front_length : {at n : ℕ} → length a ≡ at → length x ≡ n → length front ≡ at + 2 + n
  front_length h g = omega (arith, length-append a (k ∷ (q ∷ x)))

-- ---- 6.5
module _ {w : List ℤ} {at first right : ℕ} (a x y c : List ℤ) (k q z : ℤ) (e : w ≡ a ++ (k ∷ (q ∷ (x ++ (y ++ (z ∷ c))))))
    (ha : length a ≡ at) (hx : length x ≡ first) (hy : at + 2 + first + length y ≡ right) where
  in_front : w ≡ front a x k q ++ (y ++ (z ∷ c))
  in_front = e ∙ sym (front_on a x k q (y ++ (z ∷ c)))

  pub swapped : {u v : List ℤ} → Opened w u (at + 2 + first) 1 right → v ≡ sets (sets u (at + 2 + first) (z ∷ [])) at (node 21 (first + 2) ∷ node 20 first ∷ [])
      → v ≡ a ++ (node 21 (first + 2) ∷ (node 20 first ∷ (x ++ (z ∷ (y ++ c)))))
  swapped {u} {v} o t =
      let m = o (front a x k q) y (z ∷ c) in_front (front_length a x k q ha hx) hy in
      let i = one_word m.0 m.2 in
      let f : sets u (at + 2 + first) (z ∷ []) ≡ a ++ (k ∷ (q ∷ (x ++ (z ∷ (y ++ c))))) =
      ap (λ (l : List ℤ). sets l (at + 2 + first) (z ∷ [])) (m.1 ∙ ap (λ (j : List ℤ). front a x k q ++ (j ++ (y ++ c))) i.1)
      ∙ one_put (front a x k q) i.0 (y ++ c) z (at + 2 + first) (front_length a x k q ha hx) ∙ front_on a x k q (z ∷ (y ++ c)) in
      put_over at (node 21 (first + 2)) (node 20 first) a (x ++ (z ∷ (y ++ c))) k q f ha t

-- ---- 7, 8
pub shared : {w u s v : List ℤ} {at first right used : ℕ} (k : ℕ) (a x y c d : List ℤ) (h q z : ℤ) → w ≡ a ++ (h ∷ (q ∷ (x ++ (y ++ (z ∷ (c ++ d))))))
    → length a ≡ at → length x ≡ first → at + 2 + first + length y ≡ right → right + 1 + length c ≡ used
    → Opened w u (at + 2 + first) 2 used → s ≡ sets u (at + 2 + first) (z ∷ node k (right - (at + 2 + first)) ∷ []) → v ≡ sets s at (node 19 (first + 2) ∷ node k first ∷ [])
    → v ≡ a ++ (node 19 (first + 2) ∷ (node k first ∷ (x ++ (z ∷ (node k (length y) ∷ (y ++ (z ∷ (c ++ drop 2 d))))))))
shared {w} {u} {s} {v} {at} {first} {right} {used} k a x y c d h q z e ha hx hy hu o t₁ t₂ =
    let b : List ℤ = y ++ (z ∷ c) in
    let n : length b ≡ length y + (1 + length c) = omega (arith, length-append y (z ∷ c)) in
    let m = o (front a x h q) b d (e ∙ sym (front_on a x h q (y ++ (z ∷ (c ++ d)))) ∙ ap (λ (l : List ℤ). front a x h q ++ l) (sym (append_assoc y (z ∷ c) d)))
    (front_length a x h q ha hx) (omega arith) in
    let i = two_words m.0 m.2 in
    let g : right - (at + 2 + first) ≡ length y = omega arith in
    let f : s ≡ front a x h q ++ (z ∷ (node k (right - (at + 2 + first)) ∷ (b ++ drop 2 d))) =
    put_over (at + 2 + first) z (node k (right - (at + 2 + first))) (front a x h q) (b ++ drop 2 d) i.0 i.1 (m.1 ∙ ap (λ (j : List ℤ). front a x h q ++ (j ++ (b ++ drop 2 d))) i.2) (front_length a x h q ha hx) t₁ in
    let r : s ≡ a ++ (h ∷ (q ∷ (x ++ (z ∷ (node k (length y) ∷ (y ++ (z ∷ (c ++ drop 2 d)))))))) =
    f ∙ ap₂ (λ (j : ℕ) (l : List ℤ). front a x h q ++ (z ∷ (node k j ∷ l))) g (append_assoc y (z ∷ c) (drop 2 d))
    ∙ front_on a x h q (z ∷ (node k (length y) ∷ (y ++ (z ∷ (c ++ drop 2 d))))) in
    put_over at (node 19 (first + 2)) (node k first) a (x ++ (z ∷ (node k (length y) ∷ (y ++ (z ∷ (c ++ drop 2 d)))))) h q r ha t₂

-- ---- 2, 3, 5
pub split_up : {u s v : List ℤ} {at n place used : ℕ} (p r t : ℤ) (a x y c d : List ℤ) → u ≡ a ++ (p ∷ (r ∷ (x ++ (y ++ (c ++ d)))))
    → length a ≡ at → length x ≡ n → at + 2 + n + length y ≡ place → place + length c ≡ used
    → Opened u s place (n + 1) used → Copied (sets s place (t ∷ [])) v (at + 2) (place + 1) n
    → v ≡ a ++ (p ∷ (r ∷ (x ++ (y ++ (t ∷ (x ++ (c ++ drop (n + 1) d)))))))
split_up {u} {s} {v} {at} {n} {place} {used} p r t a x y c d e ha hx hp hu o k =
    let D : List ℤ = c ++ drop (n + 1) d in
    let F : List ℤ = front a (x ++ y) p r in
    let lxy : length (x ++ y) ≡ n + length y = length-append x y ∙ ap (λ (i : ℕ). i + length y) hx in
    let fl : length F ≡ place = front_length a (x ++ y) p r ha lxy ∙ omega arith in
    let m = o F c d (e ∙ ap (λ (l : List ℤ). a ++ (p ∷ (r ∷ l))) (sym (append_assoc x y (c ++ d))) ∙ sym (front_on a (x ++ y) p r (c ++ d))) fl hu in
    let i = more_words m.0 n m.2 in
    let f : sets s place (t ∷ []) ≡ F ++ (t ∷ (i.1 ++ D)) =
    ap (λ (l : List ℤ). sets l place (t ∷ [])) (m.1 ∙ ap (λ (j : List ℤ). F ++ (j ++ D)) i.2) ∙ one_put F i.0 (i.1 ++ D) t place fl in
    let g : F ++ (t ∷ (i.1 ++ D)) ≡ (a ++ (p ∷ (r ∷ []))) ++ (x ++ ((y ++ (t ∷ [])) ++ (i.1 ++ D))) = simp append_assoc in
    let h : v ≡ (a ++ (p ∷ (r ∷ []))) ++ (x ++ ((y ++ (t ∷ [])) ++ (x ++ D))) =
    k (a ++ (p ∷ (r ∷ []))) x (y ++ (t ∷ [])) i.1 D (f ∙ g)
    (omega (arith, length-append a (p ∷ (r ∷ [])))) hx i.3 (omega (arith, length-append y (t ∷ []))) in
    h ∙ simp append_assoc
