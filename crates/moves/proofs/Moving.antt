-- Runs of words: some moved up, some copied, some written, word by word and where the parts of the run have names. Assumes nothing.
use Prim.Native.Nat.{ℕ, suc, ◌+◌, ◌-◌, ◌≤◌, ◌<◌}
use mathlib.Core.List.{List, [], ◌∷◌, ◌++◌, append_assoc, map, map-append}
use mathlib.Core.Path.{◌≡◌, sym, ap, ap₂, ◌∙◌}
use native.Mathlib.Nat.{add-zero}
use native.Mathlib.Omega.{arith}
use lib.IntN.{ℤ, pos}
use lib.ListN.{length, length-append, length-drop, take, drop, get_or, set, get_or-append}
use lib.Seq.{take-append-add, drop-append-add, drop_at, take_at, sets, set_at, length-take-le, append_snoc, take-suc, drop-cons, get_or-take, get_or-drop, paste, paste-zero}
use Rattle.std.specs.List.{copy_within}
use Rattle.std.proofs.lemmas.List.{take_more, length-map}
use Rattle.std.proofs.lemmas.List.Edits.{paste_more}
use Rattle.moves.specs.Moves.{Opened, Copied}

-- ---- one word more of those that move up, the last first, and of those that are copied
pub moved_none : (w : List ℤ) (k e : ℕ) → w ≡ copy_within w e e (e + k)
moved_none w k e = let none : 0 ≡ e - e = omega arith in paste-zero w (e + k) (drop e w) ∙ ap (paste w (e + k) (drop e w)) none

pub moved_more : (w : List ℤ) (i k e : ℕ) → i < e → 1 ≤ k → e + k ≤ length w
    → set (copy_within w (i + 1) e (i + 1 + k)) (i + k) (get_or (copy_within w (i + 1) e (i + 1 + k)) i (pos 0)) ≡ copy_within w i e (i + k)
moved_more w i k e hi hk he =
    let t : List ℤ = take (i + 1 + k) w in
    let a : List ℤ = take (i + k) w in
    let m : List ℤ = take (e - (i + 1)) (drop (i + 1) w) in
    let r : List ℤ = drop (e + k) w in
    let x : ℤ = get_or w i (pos 0) in
    let y : ℤ = get_or w (i + k) (pos 0) in
    let lt : length t ≡ i + 1 + k = length-take-le (i + 1 + k) w (omega arith) in
    let on : i + 1 + k ≡ suc (i + k) = omega arith in
    let next : suc i ≡ i + 1 = omega arith in
    let past : i + 1 + k + (e - (i + 1)) ≡ e + k = omega arith in
    let end : i + k + (e - i) ≡ e + k = omega arith in
    let many : e - i ≡ suc (e - (i + 1)) = omega arith in
    let read : get_or (copy_within w (i + 1) e (i + 1 + k)) i (pos 0) ≡ x =
    get_or-append (t ++ m) (drop (i + 1 + k + (e - (i + 1))) w) (pos 0) i (omega (arith, lt, length-append t m))
    ∙ get_or-append t m (pos 0) i (omega (arith, lt)) ∙ get_or-take (i + 1 + k) w i (pos 0) (omega arith) in
    let cut : copy_within w (i + 1) e (i + 1 + k) ≡ a ++ (y ∷ (m ++ r)) =
    ap₂ (λ (l : List ℤ) (j : ℕ). (l ++ m) ++ drop j w) (ap (λ (j : ℕ). take j w) on ∙ take-suc w (i + k) (pos 0) (omega arith)) past
    ∙ ap (λ (l : List ℤ). l ++ r) (append_snoc a y m) ∙ append_assoc a (y ∷ m) r in
    let more : take (e - i) (drop i w) ≡ x ∷ m =
    ap₂ (λ (j : ℕ) (l : List ℤ). take j l) many (drop-cons w i (pos 0) (omega arith) ∙ ap (λ (j : ℕ). x ∷ drop j w) next) in
    ap₂ (λ (l : List ℤ) (z : ℤ). set l (i + k) z) cut read
    ∙ set_at a y (m ++ r) x (i + k) (length-take-le (i + k) w (omega arith))
    ∙ sym (ap₂ (λ (l : List ℤ) (j : ℕ). (a ++ l) ++ drop j w) more end ∙ append_assoc a (x ∷ m) r)

pub copied_more : (w : List ℤ) (from to i : ℕ) → from + i < to → to + i < length w
    → set (paste w to (drop from w) i) (to + i) (get_or (paste w to (drop from w) i) (from + i) (pos 0)) ≡ paste w to (drop from w) (i + 1)
copied_more w from to i hf ht =
    let t : List ℤ = take to w in
    let s : List ℤ = take i (drop from w) in
    let lt : length t ≡ to = length-take-le to w (omega arith) in
    let read : get_or (paste w to (drop from w) i) (from + i) (pos 0) ≡ get_or (drop from w) i (pos 0) =
    get_or-append (t ++ s) (drop (to + i) w) (pos 0) (from + i) (omega (arith, lt, length-append t s))
    ∙ get_or-append t s (pos 0) (from + i) (omega (arith, lt)) ∙ get_or-take to w (from + i) (pos 0) hf ∙ sym (get_or-drop from w i (pos 0)) in
    ap (set (paste w to (drop from w) i) (to + i)) read ∙ paste_more w to (drop from w) i (pos 0) ht (omega (arith, length-drop from w))

-- ---- all of them, where the parts of the run have names
pub opened : {w u : List ℤ} (at k end : ℕ) → u ≡ copy_within w at end (at + k) → end + k ≤ length w → Opened w u at k end
opened {w} {u} at k end e h p b c f hp hb =
    let g : w ≡ (p ++ b) ++ c = f ∙ sym (append_assoc p b c) in
    let l : length (p ++ b) ≡ end = length-append p b ∙ omega arith in
    let n : end - at ≡ length b = omega arith in
    let m : at + k + (end - at) ≡ end + k = omega arith in
    let t : take (at + k) w ≡ p ++ take k (b ++ c) = ap₂ (λ (i : ℕ) (y : List ℤ). take (i + k) y) (sym hp) f ∙ take-append-add p (b ++ c) k in
    let s : take (end - at) (drop at w) ≡ b =
    ap (λ (y : List ℤ). take (end - at) (drop at y)) f ∙ ap (λ (y : List ℤ). take (end - at) y) (drop_at p (b ++ c) at hp) ∙ take_at b c (end - at) (sym n) in
    let r : drop (at + k + (end - at)) w ≡ drop k c =
    ap₂ (λ (i : ℕ) (y : List ℤ). drop i y) m g ∙ ap (λ (i : ℕ). drop (i + k) ((p ++ b) ++ c)) (sym l) ∙ drop-append-add (p ++ b) c k in
    let o : length w ≡ length p + (length b + length c) = ap length f ∙ length-append p (b ++ c) ∙ ap (λ (i : ℕ). length p + i) (length-append b c) in (
      take k (b ++ c),
      e ∙ ap₂ (λ (x y : List ℤ). x ++ y) (ap₂ (λ (x y : List ℤ). x ++ y) t s) r ∙ simp append_assoc,
      length-take-le k (b ++ c) (omega (arith, length-append b c)),
    )

pub copies : {w v : List ℤ} (from to n : ℕ) → v ≡ paste w to (drop from w) n → Copied w v from to n
copies {w} {v} from to n g p x b j c f hp hx hj hb =
    let y : List ℤ = p ++ (x ++ b) in
    let e : w ≡ y ++ (j ++ c) = f ∙ simp append_assoc in
    let l : length y ≡ to = omega (arith, length-append p (x ++ b), length-append x b) in
    let lj : length (y ++ j) ≡ to + n = length-append y j ∙ omega arith in
    let t : take to w ≡ y = ap (λ (z : List ℤ). take to z) e ∙ take_at y (j ++ c) to l in
    let s : take n (drop from w) ≡ x =
    ap (λ (z : List ℤ). take n (drop from z)) f ∙ ap (λ (z : List ℤ). take n z) (drop_at p (x ++ (b ++ (j ++ c))) from hp)
    ∙ take_at x (b ++ (j ++ c)) n hx in
    let r : drop (to + n) w ≡ c = ap (λ (z : List ℤ). drop (to + n) z) (e ∙ sym (append_assoc y j c)) ∙ drop_at (y ++ j) c (to + n) lj in
    g ∙ ap₂ (λ (z z' : List ℤ). z ++ z') (ap₂ (λ (z z' : List ℤ). z ++ z') t s) r ∙ simp append_assoc

-- ---- words written
-- one more
sets_snoc : (l : List ℤ) (at : ℕ) (xs : List ℤ) (x : ℤ) → set (sets l at xs) (at + length xs) x ≡ sets l at (xs ++ (x ∷ []))
sets_snoc l at [] x = ap (λ (i : ℕ). set l i x) (add-zero at)
sets_snoc l at (y ∷ xs) x =
    let e : at + suc (length xs) ≡ suc at + length xs = omega arith in
    ap (λ (i : ℕ). set (sets (set l at y) (suc at) xs) i x) e ∙ sets_snoc (set l at y) (suc at) xs x

pub put_more : (l : List ℤ) (at i : ℕ) (xs : List ℕ) → i < length xs
    → set (sets l at (map pos (take i xs))) (at + i) (pos (get_or xs i 0)) ≡ sets l at (map pos (take (i + 1) xs))
put_more l at i xs h =
    let n : length (map pos (take i xs)) ≡ i = length-map (take i xs) pos ∙ length-take-le i xs (omega arith) in
    ap (λ (j : ℕ). set (sets l at (map pos (take i xs))) (at + j) (pos (get_or xs i 0))) (sym n)
    ∙ sets_snoc l at (map pos (take i xs)) (pos (get_or xs i 0))
    ∙ ap (sets l at) (sym (ap (map pos) (take_more xs i 0 h) ∙ map-append pos (take i xs) (get_or xs i 0 ∷ [])))

pub one_put : (a : List ℤ) (i : ℤ) (l : List ℤ) (x : ℤ) (at : ℕ) → length a ≡ at → sets (a ++ (i ∷ l)) at (x ∷ []) ≡ a ++ (x ∷ l)
one_put a i l x at h = set_at a i l x at h

pub two_put : (a : List ℤ) (i j : ℤ) (l : List ℤ) (x y : ℤ) (at : ℕ) → length a ≡ at → sets (a ++ (i ∷ (j ∷ l))) at (x ∷ y ∷ []) ≡ a ++ (x ∷ (y ∷ l))
two_put a i j l x y at h =
    ap (λ (v : List ℤ). set v (suc at) y) (set_at a i (j ∷ l) x at h ∙ sym (append_snoc a x (j ∷ l)))
    ∙ set_at (a ++ (x ∷ [])) j l y (suc at) (omega (arith, length-append a (x ∷ []))) ∙ append_snoc a x (y ∷ l)
