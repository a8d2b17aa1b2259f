-- The sign of twice the area tells which way round the corners run.
use mathlib.Core.Bool.{true}
use mathlib.Core.Path.{◌≡◌, sym, ◌∙◌}
use mir.Syntax.{w64}
use Rattle.ground.proofs.Branches.{and_right}
use Rattle.ground.proofs.Signed.{read}
use Rattle.rules.specs.declared.Primitive.TheVariants as primitive
use Rattle.rules.specs.declared.TriangleShape.{TriangleShape}
use Rattle.rules.specs.Fields.{corner_right, triangle_right}
use Rattle.rules.specs.Products.{box_of}
use Rattle.rules.specs.Ranges.{within}
use Rattle.rules.specs.Sides.{side}
use Rattle.laws.proofs.Ranges.{first_right, second_right, third_right, triangle_corners_right, corner_x_in, corner_y_in}
use Rattle.solid.proofs.Numbers.{corner_x, corner_y}
use Rattle.span.proofs.Shapes.{out_of_reach, triangle_ahead, triangle_back}
use Rattle.span.proofs.triangle_codes.Goals as goal

module _ (t : TriangleShape) (h : triangle_right t ≡ true) where
  third : corner_right t.third ≡ true
  third = third_right t (triangle_corners_right t h)

pub returns-then-not-beside_triangle : goal.returns-then-not-beside_triangle
returns-then-not-beside_triangle c =
    out_of_reach (primitive.Triangle c.args.t) c.args.p c.requires.t_value (sym c.beside_triangle.ensures ∙ c.if-not-beside_triangle.true) c.nothing.ensures

pub side-requires : goal.side-requires
side-requires c =
    let t = c.args.t in
    let h = c.requires.t_value in
    let corners = triangle_corners_right t h in record {
      a_value = (first_right t corners, second_right t corners);
      x_value = (rw (corner_x t.third (third t h)).reads (corner_x_in t.third (third t h)), rw (corner_y t.third (third t h)).reads (corner_y_in t.third (third t h)));
    }

pub edges-requires-clause-t_value : goal.edges-requires-clause-t_value
edges-requires-clause-t_value c = triangle_corners_right c.args.t c.requires.t_value

pub returns-then-side-gt0 : goal.returns-then-side-gt0
returns-then-side-gt0 c =
    let t = c.args.t in
    let p = c.args.p in
    let d = third t c.requires.t_value in
    let b = box_of (primitive.Triangle t) in
    let framed = and_right (within b.x p.x) (within b.z p.z) (sym c.beside_triangle.ensures ∙ c.if-not-beside_triangle.false) in
    let area = read w64 c.side.type_inv c.side.ensures ∙ λ i. side t.first t.second ((corner_x t.third d).reads i) ((corner_y t.third d).reads i) in
    triangle_ahead t p framed (rw area at c.if-side-gt0.true) c.edges.ensures

pub edges-requires-2-clause-t_value : goal.edges-requires-2-clause-t_value
edges-requires-2-clause-t_value c =
    let t = c.args.t in
    let corners = triangle_corners_right t c.requires.t_value in
    rw (second_right t corners, first_right t corners) (third_right t corners)

pub returns : goal.returns
returns c =
    let t = c.args.t in
    let p = c.args.p in
    let d = third t c.requires.t_value in
    let b = box_of (primitive.Triangle t) in
    let framed = and_right (within b.x p.x) (within b.z p.z) (sym c.beside_triangle.ensures ∙ c.if-not-beside_triangle.false) in
    let area = read w64 c.side.type_inv c.side.ensures ∙ λ i. side t.first t.second ((corner_x t.third d).reads i) ((corner_y t.third d).reads i) in
    triangle_back t p c.requires.t_value framed (rw area at c.if-side-gt0.false) c.edges-2.ensures
