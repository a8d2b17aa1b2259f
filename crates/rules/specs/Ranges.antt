-- Section 1 of docs/RULES.md: points, and the range of each axis.
use Rattle.std.specs.Prelude.{ℕ, suc, Bool, ◌&&◌, List, map, ℤ, pos, negsuc, nat_abs, ◌+ℤ◌, ◌-ℤ◌, if◌then◌else◌}
use Rattle.std.specs.Int.Signed.{le_z}
use Rattle.ground.specs.Lists.{below}
use Rattle.rules.specs.declared.Axis.{Axis}
use Rattle.rules.specs.declared.Axis.TheVariants.{Column, Code, Frame}

-- the whole numbers from lo to hi, both among them
pub record Span : Type 0 where
  pub lo : ℤ
  pub hi : ℤ

abbrev pub within : Span → ℤ → Bool
within s v = le_z s.lo v && le_z v s.hi

-- how many numbers a span has whose hi is not below its lo; the numbers themselves, from lo up; and from hi down
abbrev pub size_of : Span → ℕ
size_of s = suc (nat_abs (s.hi -ℤ s.lo))

abbrev pub upwards : Span → List ℤ
upwards s = map (λ i. s.lo +ℤ pos i) (below (size_of s))

abbrev pub downwards : Span → List ℤ
downwards s = map (λ i. s.hi -ℤ pos i) (below (size_of s))

abbrev pub lesser : ℤ → ℤ → ℤ
lesser a b = if le_z a b then a else b

abbrev pub greater : ℤ → ℤ → ℤ
greater a b = if le_z a b then b else a

-- from the least of three numbers to the greatest
abbrev pub around : ℤ → ℤ → ℤ → Span
around a b c = record { lo = lesser (lesser a b) c; hi = greater (greater a b) c }

-- the greatest value of an axis
abbrev pub greatest : Axis → ℕ
greatest Column = 32767
greatest Code = 32767
greatest Frame = 1048575

-- its range has as many values below 0 as from 0 on (`negsuc n` is -(n + 1))
abbrev pub range : Axis → Span
range axis = record { lo = negsuc (greatest axis); hi = pos (greatest axis) }

abbrev pub columns : Span
columns = range Column

abbrev pub codes : Span
codes = range Code

abbrev pub frames : Span
frames = range Frame
