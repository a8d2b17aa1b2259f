use lib.IntN.{ℤ, pos}
use lib.ListN.{length-replicate}
use Rattle.laws.proofs.Texts.{read_fits}
use Rattle.pipe.proofs.Read.{text_refused, text_listed}
use Rattle.pipe.proofs.list_zone.Goals as goal

pub slice_bounds-table-end : goal.slice_bounds-table-end
slice_bounds-table-end c = read_fits c.in-Ok.ensures

pub returns-in-Err : goal.returns-in-Err
returns-in-Err c =
    let told = text_refused (length-replicate {A = ℤ} 1524 (pos 0)) c.in-Err.ensures c.requires c.put_refusal.ensures in record { zone_listed = told.0; upper_bound = told.1 }

pub returns-in-Ok : goal.returns-in-Ok
returns-in-Ok c = let told = text_listed c.in-Ok.ensures c.requires c.list_table.ensures in record { zone_listed = told.0; upper_bound = told.1 }
