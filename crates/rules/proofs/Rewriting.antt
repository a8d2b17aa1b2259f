-- Cases 33 to 35 of docs/RULES.md, section 14, and one of rule 1: the rows to which the procedure of document 000 comes. Assumes nothing.
use mathlib.Core.Path.{◌≡◌, refl}
use mathlib.Core.List.{List, [], ◌∷◌, flat_map}
use lib.IntN.{ℤ, pos}
use Rattle.ground.specs.Lists.{from, find_if}
use Rattle.rules.specs.Tree.{trees}
use Rattle.rules.specs.Form.{form_of, leaves}
use Rattle.rules.specs.Procedure.{is_primitive, is_union, lowest, ended, left_done, right_done, until, turn, within, normalize}
use Rattle.rules.specs.TreeRows.{rows_in, rows_from}
use Rattle.rules.specs.RewriteCall.{finished_rows}
use Rattle.rules.proofs.Zones.{q, swapped, still_fits, cut_union}

-- ((A ∩ D) - B) ∪ (C ∩ D)
abbrev pub q_rows : List ℤ
q_rows =
    pos 0 ∷ pos 0 ∷ pos 0 ∷ pos 0 ∷ pos 3 ∷ pos 0 ∷ pos 4 ∷ pos 0 ∷ pos 1 ∷ pos 0 ∷ pos 1 ∷ pos 0 ∷ pos 5 ∷ pos 2 ∷ pos 3
    ∷ pos 0 ∷ pos 2 ∷ pos 0 ∷ pos 0 ∷ pos 3 ∷ pos 0 ∷ pos 4 ∷ pos 5 ∷ pos 6 ∷ pos 3 ∷ pos 4 ∷ pos 7 ∷ []

-- from ((A - B) ∪ C) ∩ D, by 8 and 6.5
pub rows_of_q : finished_rows q ≡ q_rows
unfolding finished_rows rows_from rows_in form_of leaves trees from flat_map find_if normalize within turn until ended left_done right_done is_primitive is_union lowest
rows_of_q = refl

-- it ends by its own test, and 6.5 would still fit
pub still_fits_finished : finished_rows still_fits
    ≡ pos 0 ∷ pos 0 ∷ pos 0 ∷ pos 0 ∷ pos 1 ∷ pos 0 ∷ pos 4 ∷ pos 0 ∷ pos 1 ∷ pos 0 ∷ pos 2 ∷ pos 0 ∷ pos 5 ∷ pos 2 ∷ pos 3
    ∷ pos 0 ∷ pos 3 ∷ pos 0 ∷ pos 4 ∷ pos 4 ∷ pos 5 ∷ []
unfolding finished_rows rows_from rows_in form_of leaves trees from flat_map find_if normalize within turn until ended left_done right_done is_primitive is_union lowest
still_fits_finished = refl

-- the numbers are the primitives' places in the table
pub rows_of_swapped : finished_rows swapped ≡ pos 0 ∷ pos 1 ∷ pos 0 ∷ pos 0 ∷ pos 0 ∷ pos 0 ∷ pos 5 ∷ pos 0 ∷ pos 1 ∷ []
unfolding finished_rows rows_from rows_in form_of leaves trees from flat_map find_if normalize within turn until ended left_done right_done is_primitive is_union lowest
rows_of_swapped = refl

-- A - (B ∪ C) comes to (A - B) - C, by 1
pub rows_of_cut_union : finished_rows cut_union
    ≡ pos 0 ∷ pos 0 ∷ pos 0 ∷ pos 0 ∷ pos 1 ∷ pos 0 ∷ pos 5 ∷ pos 0 ∷ pos 1 ∷ pos 0 ∷ pos 2 ∷ pos 0 ∷ pos 5 ∷ pos 2 ∷ pos 3 ∷ []
unfolding finished_rows rows_from rows_in form_of leaves trees from flat_map find_if normalize within turn until ended left_done right_done is_primitive is_union lowest
rows_of_cut_union = refl
