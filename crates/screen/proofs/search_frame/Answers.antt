use Prim.Native.Nat.{◌-◌, ◌*◌}
use native.Mathlib.Omega.{arith}
use mathlib.Core.Path.{◌≡◌}
use lib.ListN.{take, drop}
use Rattle.screen.proofs.Places.{by_part, by_place}
use Rattle.screen.proofs.search_frame.Goals as goal

pub returns : goal.returns
returns c =
    let at-later = c.before.before.before in
    let at_end = at-later.before in
    let at-start = at_end.before in
    let s = at-start.before.before in
    let t = s.args.table.now in
    let list = s.args.list.now in
    let codes = s.args.codes.now in
    let size = s.args.size in
    let start : at-start.start_of-start.result ≡ s.args.j * size = omega (arith, at-start.start_of-start.ensures) in
    let long : at_end.start_of-end.result - at-start.start_of-start.result ≡ size = omega (arith, start, at_end.start_of-end.ensures) in
    by_place t list (take size (drop (s.args.j * size) codes)) at-later.later-place.ensures
    (by_part t list codes at-later.later-place.result c.search_by.ensures long start)
