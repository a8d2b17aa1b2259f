-- Section 1 of docs/RULES.md: closed boxes of columns, codes and frames; the range of all points; windows.
use Rattle.std.specs.Prelude.{Bool, ◌&&◌, ◌||◌, not}
use Rattle.std.specs.Int.Signed.{lt_z}
use Rattle.rules.specs.declared.Point.{Point}
use Rattle.rules.specs.declared.Window.{Window}
use Rattle.rules.specs.Ranges.{Span, within, lesser, greater, columns, codes, frames}

pub record Box : Type 0 where
  pub x : Span
  pub y : Span
  pub z : Span

abbrev pub holds : Box → Point → Bool
holds b p = within b.x p.x && (within b.y p.y && within b.z p.z)

abbrev pub everywhere : Box
everywhere = record { x = columns; y = codes; z = frames }

abbrev pub window_box : Window → Box
window_box w = record {
  x = record { lo = w.xlo; hi = w.xhi };
  y = record { lo = w.ylo; hi = w.yhi };
  z = record { lo = w.zlo; hi = w.zhi };
}

-- the range of all points as a window
abbrev pub full_range : Window
full_range = record { xlo = columns.lo; xhi = columns.hi; ylo = codes.lo; yhi = codes.hi; zlo = frames.lo; zhi = frames.hi }

-- what two spans have in common, and what two boxes have
abbrev pub common : Span → Span → Span
common a b = record {
  lo = greater a.lo b.lo;
  hi = lesser a.hi b.hi;
}

abbrev pub common_box : Box → Box → Box
common_box a b = record { x = common a.x b.x; y = common a.y b.y; z = common a.z b.z }

-- a box is empty when some lo exceeds its hi
abbrev pub empty : Box → Bool
empty b = lt_z b.x.hi b.x.lo || (lt_z b.y.hi b.y.lo || lt_z b.z.hi b.z.lo)

-- two boxes share a point
abbrev pub share : Box → Box → Bool
share a b = not (empty (common_box a b))
