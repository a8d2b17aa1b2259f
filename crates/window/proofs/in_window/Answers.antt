use mathlib.Core.Bool.{◌&&◌}
use borrow.Author.Rules.{rules}
use Rattle.window.proofs.Reread.{Ends, Coordinates, by_axes}
use Rattle.window.proofs.in_window.Lts as lts
use Rattle.window.proofs.in_window.Tie as tie
use Rattle.window.proofs.in_window.Reads as reads
use Rattle.window.proofs.in_window.Goals as goal

abbrev Start : Type 0
Start = lts.Start tie.the-claims reads.Pre reads.Post

ends : (s : Start) → Ends s.args.w
ends s = record { xlo = search rules; xhi = search rules; ylo = search rules; yhi = search rules; zlo = search rules; zhi = search rules }

coordinates : (s : Start) → Coordinates s.args.p
coordinates s = record { x = search rules; y = search rules; z = search rules }

pub returns : goal.returns
returns c =
    let d = c.before.before.before.before in
    let e = d.before.before.before.before in
    let s = e.before.before.before.before in
    by_axes (ends s) (coordinates s) e.between.ensures d.between-2.ensures c.between-3.ensures (λ x y z. x && (y && z))
