use mathlib.Core.Bool.{◌&&◌}
use lib.IntN.{ℤ, pos}
use lib.Signed.{le_z}
use mir.Syntax.{w32, w64}
use mir.Val.{SFits, to_z, of_z}
use mir.ValLaws.{to_z-of_z}
use Rattle.ground.proofs.Num.{Num, widens, wide, add_fits, add_num, sub_fits, sub_num, le_num}
use Rattle.table.proofs.fields.reach_right.Goals as goal

-- a parameter in 64 bits
in64 : {z : ℤ} → SFits w32 z → Num w64 (of_z w64 (to_z w32 (of_z w32 z))) z 2147483648
in64 f = wide f f.sfits tt

pub overflow_cast-low : goal.overflow_cast-low
overflow_cast-low c = widens c.ranges.least c.ranges.least.sfits tt

pub overflow_cast-high : goal.overflow_cast-high
overflow_cast-high c = widens c.ranges.greatest c.ranges.greatest.sfits tt

pub overflow_cast-at : goal.overflow_cast-at
overflow_cast-at c = widens c.ranges.centre c.ranges.centre.sfits tt

pub overflow_cast-by : goal.overflow_cast-by
overflow_cast-by c = widens c.ranges.radius c.ranges.radius.sfits tt

pub overflow_sub-start : goal.overflow_sub-start
overflow_sub-start c = sub_fits (in64 c.ranges.centre) (in64 c.ranges.radius) tt

pub overflow_add-end : goal.overflow_add-end
overflow_add-end c = add_fits (in64 c.ranges.centre) (in64 c.ranges.radius) tt

pub returns : goal.returns
returns c =
    let f = c.ranges in
    let start = sub_num (in64 f.centre) (in64 f.radius) tt in
    let end = add_num (in64 f.centre) (in64 f.radius) tt in
    let radius = to_z-of_z w32 c.args.radius f.radius in
    λ i. (le_z (pos 1) (radius i) && le_z (radius i) (pos 4096))
    && ((le_num (in64 f.least) start i && le_num start (in64 f.greatest) i) && (le_num (in64 f.least) end i && le_num end (in64 f.greatest) i))
