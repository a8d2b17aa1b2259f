-- A window's ends and a point's coordinates, as code reads them back. Assumes nothing.
use mathlib.Core.Bool.{Bool}
use mathlib.Core.Path.{◌≡◌, ◌∙◌}
use lib.IntN.{ℤ}
use mir.Syntax.{w32}
use mir.Val.{SFits, to_z, of_z}
use mir.ValLaws.{to_z-of_z}
use Rattle.rules.specs.declared.Point.{Point}
use Rattle.rules.specs.declared.Window.{Window}
use Rattle.rules.specs.Boxes.{window_box}
use Rattle.rules.specs.Ranges.{within}

pub record Ends (w : Window) : Type 0 where
  pub xlo : SFits w32 w.xlo
  pub xhi : SFits w32 w.xhi
  pub ylo : SFits w32 w.ylo
  pub yhi : SFits w32 w.yhi
  pub zlo : SFits w32 w.zlo
  pub zhi : SFits w32 w.zhi

pub record Coordinates (p : Point) : Type 0 where
  pub x : SFits w32 p.x
  pub y : SFits w32 p.y
  pub z : SFits w32 p.z

-- a coordinate between two ends, all three as they are read back
abbrev pub between : ℤ → ℤ → ℤ → Bool
between lo v hi = within (record { lo = to_z w32 (of_z w32 lo); hi = to_z w32 (of_z w32 hi) }) (to_z w32 (of_z w32 v))

-- is what it is of the numbers themselves
pub axis : {lo v hi : ℤ} → SFits w32 lo → SFits w32 v → SFits w32 hi → between lo v hi ≡ within (record { lo = lo; hi = hi }) v
axis {lo} {v} {hi} e f g = λ i. within (record { lo = to_z-of_z w32 lo e i; hi = to_z-of_z w32 hi g i }) (to_z-of_z w32 v f i)

-- what comes of the answers for the three axes
pub by_axes : {w : Window} {p : Point} → Ends w → Coordinates p → {x y z : Bool}
    → x ≡ between w.xlo p.x w.xhi → y ≡ between w.ylo p.y w.yhi → z ≡ between w.zlo p.z w.zhi
    → {A : Type 0} (f : Bool → Bool → Bool → A)
    → f x y z ≡ f (within (window_box w).x p.x) (within (window_box w).y p.y) (within (window_box w).z p.z)
by_axes E F hx hy hz f =
    let x = hx ∙ axis E.xlo F.x E.xhi in
    let y = hy ∙ axis E.ylo F.y E.yhi in
    let z = hz ∙ axis E.zlo F.z E.zhi in
    λ i. f (x i) (y i) (z i)
