-- The primitives that hold a point, and a rectangle around it, from its own column on, on which each of them says one thing.
use Rattle.std.specs.Prelude.{Bool, List}
use Rattle.ground.specs.Lists.{All}
use Rattle.rules.specs.declared.Axis.TheVariants.{Frame}
use Rattle.rules.specs.declared.Point.{Point}
use Rattle.rules.specs.declared.Primitive.{Primitive}
use Rattle.rules.specs.Inside.{inside_solid}
use Rattle.rules.specs.ListWords.{raised}
use Rattle.reach.specs.Gathering.{Gathers}
use Rattle.margin.specs.Margins.{spot}
use Rattle.calm.specs.declared.Rect.{Rect}
use Rattle.calm.specs.Calms.{In, Same}
use Rattle.holding.specs.declared.Held.{Held}

-- a primitive holds the point
abbrev pub holding : Point → Primitive → Bool
holding p s = inside_solid s p

-- on the rectangle a primitive says what it says of the point
abbrev pub SaysOne : Point → Rect → Primitive → Type 0
SaysOne p r s = Same (λ a b. inside_solid s (spot p.z a b)) (raised Frame p.x) (raised Frame p.y) r

pub record Holding (solids : List Primitive) (p : Point) (h : Held) : Type 0 where
  pub found : Gathers solids (holding p) h.found
  pub here : In (raised Frame p.x) (raised Frame p.y) h.rect
  pub each : All (SaysOne p h.rect) solids
