-- The zones and windows of the numbered cases, as tables of words. Assumes nothing.
use Prim.Native.Nat.{ℕ}
use mathlib.Core.List.{List, [], ◌∷◌, ◌++◌}
use lib.IntN.{ℤ, pos, negsuc}
use Rattle.rules.specs.declared.Point.{Point}
use Rattle.rules.specs.declared.Window.{Window}
use Rattle.rules.specs.Ranges.{codes, frames}

abbrev pub nought : ℤ
nought = pos 0

-- a box of columns lo..hi, codes 0..0 and frames 0..last
abbrev box_to : ℤ → ℤ → ℤ → List ℤ
box_to last lo hi = nought ∷ lo ∷ hi ∷ nought ∷ nought ∷ nought ∷ last ∷ nought ∷ nought ∷ nought ∷ nought ∷ nought ∷ []

-- its frames are 0..0
abbrev pub box : ℤ → ℤ → List ℤ
box lo hi = box_to nought lo hi

abbrev operation : ℕ → ℕ → ℕ → List ℤ
operation kind left right = pos kind ∷ pos left ∷ pos right ∷ nought ∷ nought ∷ nought ∷ nought ∷ nought ∷ nought ∷ nought ∷ nought ∷ nought ∷ []

abbrev pub union : ℕ → ℕ → List ℤ
union left right = operation 3 left right

abbrev pub inter : ℕ → ℕ → List ℤ
inter left right = operation 4 left right

abbrev pub diff : ℕ → ℕ → List ℤ
diff left right = operation 5 left right

-- Q = ((A - B) ∪ C) ∩ D, B from a given column on
abbrev q_from : ℤ → List ℤ
q_from b = box nought (pos 9) ++ (box b (pos 12) ++ (diff 0 1 ++ (box (pos 20) (pos 29) ++ (union 2 3 ++ (box (pos 8) (pos 25) ++ inter 4 5)))))

abbrev pub q : List ℤ
q = q_from (pos 9)

abbrev pub q_apart : List ℤ
q_apart = q_from (pos 10)

-- A - (B ∩ C), three boxes apart
abbrev pub far_cuts : List ℤ
far_cuts = box nought (pos 9) ++ (box (pos 20) (pos 29) ++ (box (pos 40) (pos 49) ++ (inter 1 2 ++ diff 0 3)))

abbrev nine : List ℤ
nine = box nought (pos 9)

-- (A ∪ B) ∩ (C ∪ D), A - (B - C), and B - A, all 0..9
abbrev pub crossing : List ℤ
crossing = nine ++ (nine ++ (union 0 1 ++ (nine ++ (nine ++ (union 3 4 ++ inter 2 5)))))

abbrev pub cut_of_cut : List ℤ
cut_of_cut = nine ++ (nine ++ (nine ++ (diff 1 2 ++ diff 0 3)))

abbrev pub swapped : List ℤ
swapped = nine ++ (nine ++ diff 1 0)

-- 2x - 3y + cz <= 1 in x, y 0..10 and frame 0
abbrev pub wedge : ℕ → List ℤ
wedge c = pos 1 ∷ nought ∷ pos 10 ∷ nought ∷ pos 10 ∷ nought ∷ nought ∷ pos 2 ∷ negsuc 2 ∷ pos c ∷ pos 1 ∷ nought ∷ []

-- at 0, 0, radii 5 and 3
abbrev pub drum : List ℤ
drum = pos 2 ∷ nought ∷ nought ∷ pos 5 ∷ pos 3 ∷ nought ∷ nought ∷ nought ∷ nought ∷ nought ∷ nought ∷ nought ∷ []

-- three corners, in frame 0
abbrev corners : ℕ → ℕ → ℕ → ℕ → ℕ → ℕ → List ℤ
corners x1 y1 x2 y2 x3 y3 = pos 6 ∷ pos x1 ∷ pos y1 ∷ pos x2 ∷ pos y2 ∷ pos x3 ∷ pos y3 ∷ nought ∷ nought ∷ nought ∷ nought ∷ nought ∷ []

-- one way round, and the other
abbrev pub triangle : List ℤ
triangle = corners 0 0 10 0 0 10

abbrev pub turned_round : List ℤ
turned_round = corners 0 0 0 10 10 0

abbrev pub flat : List ℤ
flat = corners 0 0 5 5 10 10

-- a triangle less a box that meets its box in one place, the corner that the triangle leaves out
abbrev pub corner_cut : List ℤ
corner_cut = corners 0 0 9 0 0 9 ++ ((nought ∷ pos 9 ∷ pos 12 ∷ pos 9 ∷ pos 9 ∷ nought ∷ nought ∷ nought ∷ nought ∷ nought ∷ nought ∷ nought ∷ []) ++ diff 0 1)

abbrev pub two_boxes : List ℤ
two_boxes = nine ++ nine

-- frames 0..last
abbrev pub deep_box : ℕ → List ℤ
deep_box last = box_to (pos last) nought (pos 9)

-- columns 0..9 at code 0, in frames lo..hi
abbrev pub layer : ℤ → ℤ → List ℤ
layer lo hi = nought ∷ nought ∷ pos 9 ∷ nought ∷ nought ∷ lo ∷ hi ∷ nought ∷ nought ∷ nought ∷ nought ∷ nought ∷ []

-- frames -10..0, less frames lo..hi
abbrev pub layers_less : ℤ → ℤ → List ℤ
layers_less lo hi = layer (negsuc 9) nought ++ (layer lo hi ++ diff 0 1)

-- x + y + z <= 5 in x, y 0..10 and frames -20..3
abbrev pub slope : List ℤ
slope = pos 1 ∷ nought ∷ pos 10 ∷ nought ∷ pos 10 ∷ negsuc 19 ∷ pos 3 ∷ pos 1 ∷ pos 1 ∷ pos 1 ∷ pos 5 ∷ nought ∷ []

-- a window of columns; its codes and frames are full
abbrev pub columns_of : ℤ → ℤ → Window
columns_of lo hi = record { xlo = lo; xhi = hi; ylo = codes.lo; yhi = codes.hi; zlo = frames.lo; zhi = frames.hi }

abbrev pub spot : ℤ → ℤ → Point
spot x y = record { x = x; y = y; z = nought }

abbrev pub at : ℕ → ℕ → Point
at x y = spot (pos x) (pos y)

-- columns 0..9 and codes 0..100, less codes 40..60
abbrev band : ℕ → ℕ → List ℤ
band lo hi = nought ∷ nought ∷ pos 9 ∷ pos lo ∷ pos hi ∷ nought ∷ nought ∷ nought ∷ nought ∷ nought ∷ nought ∷ nought ∷ []

abbrev pub banded : List ℤ
banded = band 0 100 ++ (band 40 60 ++ diff 0 1)

-- (A ∩ (B - C)) ∩ D, all 0..9
abbrev pub still_fits : List ℤ
still_fits = nine ++ (nine ++ (nine ++ (diff 1 2 ++ (inter 0 3 ++ (nine ++ inter 4 5)))))

-- A - (B ∪ C), all 0..9
abbrev pub cut_union : List ℤ
cut_union = nine ++ (nine ++ (nine ++ (union 1 2 ++ diff 0 3)))
