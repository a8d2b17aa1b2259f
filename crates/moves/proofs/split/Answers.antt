use Prim.Native.Nat.{ℕ, ◌+◌, ◌-◌}
use mathlib.Core.List.{List, [], ◌∷◌, ◌++◌}
use mathlib.Core.Path.{◌≡◌, sym, ap, subst, ◌∙◌}
use native.Mathlib.Omega.{arith}
use lib.IntN.{ℤ, pos}
use lib.ListN.{length, drop}
use lib.Seq.{sets}
use Rattle.moves.specs.Moves.{node, operation_number, Copied}
use Rattle.moves.proofs.Parts.{split_up}
use Rattle.moves.proofs.split.Goals as goal

pub returns : goal.returns
returns c =
    let at = c.args.at in
    let n = c.args.right - at - 1 in
    let place = c.args.right + 1 + c.args.middle in
    λ a x y e d k q is ha hx hy hu.
    let l : n ≡ length x = omega arith in
    let p : ℤ = node 19 (1 + length x + c.args.middle) in
    let r : ℤ = node (operation_number c.args.r) (length x) in
    let t : ℕ → ℤ = node (operation_number c.args.s) in
    let g : c.put.new.w ≡ sets c.make_room.new.w place (t n ∷ []) =
    c.put.ensures ∙ ap (λ (z : ℕ). sets c.make_room.new.w place (pos z ∷ [])) c.word.ensures.value in (
      omega arith,
      split_up p r (t n) a x y e d (c.lean.ensures a x (y ++ (e ++ d)) k q is ha hx) ha (sym l) (omega arith) (omega arith)
          c.make_room.ensures (subst (λ (u : List ℤ). Copied u c.copy.new.w (at + 2) (place + 1) n) g c.copy.ensures)
          ∙ ap (λ (j : ℕ). a ++ (p ∷ (r ∷ (x ++ (y ++ (t j ∷ (x ++ (e ++ drop (j + 1) d)))))))) l,
    )
