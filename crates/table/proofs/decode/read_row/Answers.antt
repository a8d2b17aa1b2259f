use Prim.Native.Nat.{ℕ}
use mathlib.Core.Bool.{◌&&◌}
use mathlib.Core.Option.{some}
use mathlib.Core.Path.{◌≡◌, sym, ap, ◌∙◌, subst}
use lib.IntN.{pos}
use lib.Signed.{le_z}
use mir.Syntax.{w32}
use mir.Val.{to_z, of_z}
use Rattle.ground.proofs.Signed.{read, from_bits}
use Rattle.rules.specs.declared.BoxShape.{BoxShape}
use Rattle.rules.specs.declared.DrumShape.{DrumShape}
use Rattle.rules.specs.declared.Kind.TheVariants as kind
use Rattle.rules.specs.declared.Primitive.TheVariants as primitive
use Rattle.rules.specs.declared.Row.TheVariants.{Solid}
use Rattle.rules.specs.declared.TriangleShape.{TriangleShape}
use Rattle.rules.specs.declared.WedgeShape.{WedgeShape}
use Rattle.rules.specs.Table.{word_at}
use Rattle.table.proofs.Rows.{is_operation, row_of_kind, operates, last_solid}
use Rattle.table.specs.Reading.{IsOperation}
use Rattle.table.proofs.decode.read_row.Lts as lts
use Rattle.table.proofs.decode.read_row.Tie as tie
use Rattle.table.proofs.decode.read_row.Reads as reads
use Rattle.table.proofs.decode.read_row.Goals as goal

abbrev After-word : Type 0
After-word = lts.After-word tie.the-claims reads.Pre reads.Post tie.handed_clauses

-- word 0 as the test has read it
tested : (c : After-word) → let z = to_z w32 (of_z w32 c.word-kind.result) in
    (le_z (pos 3) z && le_z z (pos 5)) ≡ is_operation (word_at c.args.table.now c.args.row 0)
tested c = ap is_operation (read w32 c.word-kind.type_inv c.word-kind.ensures)

pub operation_at-requires : goal.operation_at-requires
operation_at-requires c =
    let w = c.word-kind in
    let s = c.before.before in
    let t = s.args.table.now in
    let row = s.args.row in record {
      in_table = s.requires.in_table;
      operation = subst (IsOperation t row) (sym (read w32 w.type_inv w.ensures)) (operates t row s.requires.sound_row (sym (tested c.before) ∙ c.if-kind.true));
    }

pub returns-then-kind : goal.returns-then-kind
returns-then-kind c = c.operation_at.ensures

pub returns-in-0 : goal.returns-in-0
returns-in-0 c =
    let d = c.before.before.before in
    let s = d.before in
    let w = d.word-kind in
    ap (λ (b : BoxShape). some (Solid (primitive.Box b))) c.box_at.ensures ∙ row_of_kind s.args.table.now s.args.row kind.Box (sym w.ensures ∙ from_bits w32 (record { sfits = w.type_inv }) c.in-0.in-0-own.keys1)

pub returns-in-1 : goal.returns-in-1
returns-in-1 c =
    let d = c.before.before.before in
    let s = d.before in
    let w = d.word-kind in
    ap (λ (b : WedgeShape). some (Solid (primitive.Wedge b))) c.wedge_at.ensures ∙ row_of_kind s.args.table.now s.args.row kind.Wedge (sym w.ensures ∙ from_bits w32 (record { sfits = w.type_inv }) c.in-1.in-1-own.keys2)

pub returns-in-2 : goal.returns-in-2
returns-in-2 c =
    let d = c.before.before.before in
    let s = d.before in
    let w = d.word-kind in
    ap (λ (b : DrumShape). some (Solid (primitive.Drum b))) c.drum_at.ensures ∙ row_of_kind s.args.table.now s.args.row kind.Drum (sym w.ensures ∙ from_bits w32 (record { sfits = w.type_inv }) c.in-2.in-2-own.keys3)

-- no operation, and no box, wedge or drum
pub returns-in_default : goal.returns-in_default
returns-in_default c =
    let e = c.before.before in
    let d = e.before in
    let s = d.before in
    let t = s.args.table.now in
    let row = s.args.row in
    let h = c.in_default.in_default-own.rest in
    let ne : (n : ℕ) → (of_z w32 d.word-kind.result ≡ n → ⊥) → of_z w32 (word_at t row 0) ≡ n → ⊥ = λ n f g. f (ap (of_z w32) d.word-kind.ensures ∙ g) in
    ap (λ (b : TriangleShape). some (Solid (primitive.Triangle b))) c.triangle_at.ensures
    ∙ row_of_kind t row kind.Triangle (last_solid t row s.requires.sound_row (sym (tested d) ∙ e.if-kind.false) (ne 0 h.0.0.1) (ne 1 h.0.1) (ne 2 h.1))
