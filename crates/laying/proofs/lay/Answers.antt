-- The rows of a zone: the root's rows are all. Assumes nothing.
use Rattle.std.proofs.Common.{◌≡◌, true, ap, refl, subst, arith}
use Rattle.rows.specs.declared.Links.{Links}
use Rattle.rows.specs.declared.Part.{Part}
use Rattle.rows.specs.Rows.{with_links}
use Rattle.laying.specs.Laying.{Laying}
use Rattle.laying.proofs.Whole.{laying_none, root_rows, links_sound, laid}
use Rattle.laying.proofs.lay.Goals as goal

pub loop-at-init : goal.loop-at-init
loop-at-init c =
    let root : Part = record { row = c.root.result; within = true } in
    let all = root_rows c.args.table.now c.requires.sound c.sizes_of-sizes.ensures c.root.ensures refl in
    laying_none c.args.table.now c.requires.sound c.args.seen c.args.rows.now c.told-rows root c.root.ensures refl all (ap (λ (links : Links). with_links c.args.rows.now 0 links) c.links.ensures)

pub fill-requires : goal.fill-requires
fill-requires c =
    let all = root_rows c.args.table.now c.requires.sound c.sizes_of-sizes.ensures c.root.ensures c.from-end.ensures in
    let done : c.loop-at.at ≡ c.from-end.result = omega (arith, c.loop-at-test.false, c.loop-at.auto.at-end) in
    links_sound c.args.table.now c.requires.sound all (subst (Laying c.args.table.now c.args.seen c.loop-at.rows) done c.loop-at.invariant)

pub returns : goal.returns
returns c =
    let all = root_rows c.args.table.now c.requires.sound c.sizes_of-sizes.ensures c.root.ensures c.from-end.ensures in
    let done : c.loop-at.at ≡ c.from-end.result = omega (arith, c.loop-at-test.false, c.loop-at.auto.at-end) in
    laid c.args.table.now c.requires.sound all (subst (Laying c.args.table.now c.args.seen c.loop-at.rows) done c.loop-at.invariant) c.fill.ensures
