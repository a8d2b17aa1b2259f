-- What a column holds, in places; and a rectangle of columns and codes of a frame on which the answer is known.
use Rattle.std.specs.Prelude.{ℕ, ◌+◌, ◌-◌, ◌≤◌, Bool, ◌&&◌, ◌≡◌, leb, ltb, ℤ, if◌then◌else◌}
use Rattle.rules.specs.declared.Point.{Point}
use Rattle.span.specs.declared.Stretch.{Stretch}
use Rattle.margin.specs.Margins.{spot}
use Rattle.sweep.specs.declared.Patch.{Patch}

-- what is filled from one code to the next, in places
abbrev pub fill_places : ℕ → ℕ → Stretch
fill_places before own =
    if ltb before own then record { lo = before + 1; hi = own }
    else (if ltb own before then record { lo = own; hi = before - 1 } else record { lo = own; hi = own })

-- on the patch the answer is known, and it has some code
pub record Known (is_inside : Point → Bool) (z : ℤ) (q : Patch) : Type 0 where
  pub some_code : q.floor ≤ q.roof
  pub each : (a b : ℕ) → q.from ≤ a → a ≤ q.until → q.floor ≤ b → b ≤ q.roof → is_inside (spot z a b) ≡ q.inside

-- a patch tells of a stretch of a column: inside by any place that they share, outside by having all of it
abbrev pub telling : Patch → ℕ → Stretch → Bool
telling q x s =
    (leb q.from x && leb x q.until)
    && (if q.inside then leb q.floor s.hi && leb s.lo q.roof else leb q.floor s.lo && leb s.hi q.roof)

abbrev pub with_hit : Patch → Bool → Patch
with_hit q hit = record { from = q.from; until = q.until; floor = q.floor; roof = q.roof; inside = q.inside; hit = hit }
