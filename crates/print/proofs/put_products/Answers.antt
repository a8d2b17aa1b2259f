use native.Mathlib.Omega.{arith}
use mathlib.Core.List.{flat_map}
use mathlib.Core.Path.{sym, ap}
use Rattle.ground.specs.Lists.{from}
use Rattle.rules.specs.Listing.{product_line}
use Rattle.number.proofs.Writing.{put_same, put_none, put_join, put_size}
use Rattle.print.proofs.Lines.{lines_next, lines_room}
use Rattle.print.proofs.put_products.Goals as goal

pub loop-k-init : goal.loop-k-init
unfolding from flat_map
loop-k-init c = put_none c.args.out.now c.args.at

pub put_pair-next-requires : goal.put_pair-next-requires
put_pair-next-requires c =
    let l = c.loop-k in
    omega (arith, c.requires.room, l.invariant.end, put_size l.invariant, lines_room c.args.list.now l.k)

pub loop-k-preserved : goal.loop-k-preserved
loop-k-preserved c =
    let line = put_same (ap product_line (sym c.product_at-c.ensures)) c.put_pair-next.ensures in
    put_same (lines_next c.args.list.now c.loop-k.k) (put_join c.loop-k.invariant line)
