-- A rectangle of columns and codes on which a test says one thing. Columns and codes are places.
use Rattle.std.specs.Prelude.{ℕ, ◌≤◌, ◌<◌, Bool, true, false, ◌≡◌}
use Rattle.rules.specs.declared.Axis.TheVariants.{Frame}
use Rattle.rules.specs.declared.BoxShape.{BoxShape}
use Rattle.rules.specs.declared.Point.{Point}
use Rattle.rules.specs.declared.Primitive.{Primitive}
use Rattle.rules.specs.Boxes.{Box}
use Rattle.rules.specs.Inside.{inside_solid}
use Rattle.rules.specs.ListWords.{raised}
use Rattle.rules.specs.Ranges.{within, frames}
use Rattle.margin.specs.Margins.{spot, Close}
use Rattle.calm.specs.declared.Edges.{Edges}
use Rattle.calm.specs.declared.Rect.{Rect}

-- a column and a code between the edges
pub record Boxed (e : Edges) (a b : ℕ) : Type 0 where
  pub left : e.columns.lo ≤ a
  pub right : a ≤ e.columns.hi
  pub under : e.codes.lo ≤ b
  pub over : b ≤ e.codes.hi

-- a test that holds only between the edges; there it says at a place what it says at any other that is no further off than the margin
pub record Bounded (test : ℕ → ℕ → Bool) (e : Edges) (x v : ℕ) : Type 0 where
  pub left : (a b : ℕ) → a < e.columns.lo → test a b ≡ false
  pub right : (a b : ℕ) → e.columns.hi < a → test a b ≡ false
  pub under : (a b : ℕ) → b < e.codes.lo → test a b ≡ false
  pub over : (a b : ℕ) → e.codes.hi < b → test a b ≡ false
  pub near : (a b : ℕ) → Boxed e x v → Boxed e a b → Close e.margin x v a b → test a b ≡ test x v

-- a primitive's test in a frame: it holds nowhere if its box has not the frame, and else the edges bound it
pub record BoundedIn (framed : Bool) (test : ℕ → ℕ → Bool) (e : Edges) (x v : ℕ) : Type 0 where
  pub off : framed ≡ false → (a b : ℕ) → test a b ≡ false
  pub on : framed ≡ true → Bounded test e x v

-- a place of the rectangle, whose columns begin with the point's own
pub record In (a b : ℕ) (r : Rect) : Type 0 where
  pub on : a ≤ r.until
  pub low : r.floor ≤ b
  pub up : b ≤ r.roof

-- from column x on, the rectangle has one answer
pub record Same (test : ℕ → ℕ → Bool) (x v : ℕ) (r : Rect) : Type 0 where
  pub each : (a b : ℕ) → x ≤ a → In a b r → test a b ≡ test x v

-- a part of a rectangle that still has the place, and in which every test with these edges says one thing
pub record Narrowed (e : Edges) (x v : ℕ) (r s : Rect) : Type 0 where
  pub here : In x v s
  pub part : (a b : ℕ) → In a b s → In a b r
  pub same : (test : ℕ → ℕ → Bool) → Bounded test e x v → Same test x v s

-- the ends of a box's columns and codes have places
pub record Ranged (b : Box) : Type 0 where
  pub xlo : within frames b.x.lo ≡ true
  pub xhi : within frames b.x.hi ≡ true
  pub ylo : within frames b.y.lo ≡ true
  pub yhi : within frames b.y.hi ≡ true

-- the edges of a box
abbrev pub edges_of : BoxShape → ℕ → Edges
edges_of b margin = record {
  columns = record { lo = raised Frame b.xlo; hi = raised Frame b.xhi };
  codes = record { lo = raised Frame b.ylo; hi = raised Frame b.yhi };
  margin = margin;
}

-- the part of a rectangle on which a primitive says one thing
pub record NarrowedBy (s : Primitive) (p : Point) (r q : Rect) : Type 0 where
  pub here : In (raised Frame p.x) (raised Frame p.y) q
  pub part : (a b : ℕ) → In a b q → In a b r
  pub same : Same (λ a b. inside_solid s (spot p.z a b)) (raised Frame p.x) (raised Frame p.y) q
