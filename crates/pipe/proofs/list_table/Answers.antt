use Prim.Native.Nat.{ℕ}
use lib.ListN.{replicate, length-replicate}
use Rattle.number.proofs.Writing.{put_same}
use Rattle.pipe.proofs.Made.{made_as, refused_listing, made_listing, made_whole}
use mathlib.Core.Path.{refl, sym}
use Rattle.pipe.proofs.list_table.Goals as goal

pub put_list-requires-clause-list_in_bounds : goal.put_list-requires-clause-list_in_bounds
put_list-requires-clause-list_in_bounds c =
    made_whole c.args.table.now (replicate 8192 0) c.make_list.new.list (length-replicate {A = ℕ} 8192 0) (made_as c.everywhere.ensures refl c.in-Ok.ensures)

pub returns-in-Err : goal.returns-in-Err
returns-in-Err c =
    put_same (refused_listing c.args.table.now (replicate 8192 0) c.make_list.new.list (length-replicate {A = ℕ} 8192 0) (made_as c.everywhere.ensures refl c.in-Err.ensures))
    c.put_refusal.ensures

pub returns-in-Ok : goal.returns-in-Ok
returns-in-Ok c =
    put_same (made_listing c.args.table.now (replicate 8192 0) c.make_list.new.list (length-replicate {A = ℕ} 8192 0) (made_as c.everywhere.ensures refl c.in-Ok.ensures))
    c.put_list.ensures
