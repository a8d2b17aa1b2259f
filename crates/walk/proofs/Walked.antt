-- A walk from stop to stop: what is written and what is still aside make up the whole. Assumes nothing.
use Prim.Native.Nat.{ℕ, ◌+◌, ◌-◌, ◌≤◌, ◌<◌}
use native.Mathlib.Omega.{arith}
use mathlib.Core.Bool.{Bool, false}
use mathlib.Core.List.{List, [], ◌∷◌, ◌++◌, flat_map, append_assoc, append-nil}
use mathlib.Core.Path.{◌≡◌, refl, sym, ap, subst, ◌∙◌}
use lib.ListN.{length, length-append}
use lib.Pow.{pow_pos}
use Rattle.rules.specs.declared.Product.{Product}
use Rattle.rows.specs.declared.PlanRow.{PlanRow}
use Rattle.rows.specs.Rows.{SoundLinks}
use Rattle.places.specs.declared.Place.{Place}
use Rattle.walk.specs.Tracks.{open_at, end_of, walk_at, Held, steps_left, Goes, Put}
use Rattle.walk.proofs.Tracks.{walk_shut, put_none, put_then}

pub record Walked (rows : List PlanRow) (end : ℕ) (all : List Product) (keeps : Bool) (before now : List ℕ) (aside : List Place) (n : ℕ) : Type 0 where
  pub products : List Product
  pub whole : products ++ flat_map (walk_at rows end) aside ≡ all
  pub held : Held end aside
  pub put : Put keeps before now 0 n products

-- where one place is aside, the walk begins
pub walked_none : (rows : List PlanRow) (end : ℕ) (at : Place) (keeps : Bool) (list : List ℕ) → at.row ≤ end → Walked rows end (walk_at rows end at) keeps list list (at ∷ []) 0
unfolding flat_map Held
walked_none rows end at keeps list l = record {
  products = [];
  whole = append-nil (walk_at rows end at);
  held = (omega arith, (l, tt));
  put = put_none keeps list 0 refl;
}

module _ {rows : List PlanRow} {end : ℕ} {all : List Product} {keeps : Bool} {before now : List ℕ} {n : ℕ} where
  -- where nothing is aside, the whole is written
  pub walked_all : {aside : List Place} → Walked rows end all keeps before now aside n → aside ≡ [] → Put keeps before now 0 n all
  unfolding flat_map
  walked_all w e =
      subst (Put keeps before now 0 n)
      (sym (append-nil w.products) ∙ ap (λ (ps : List Place). w.products ++ flat_map (walk_at rows end) ps) (sym e) ∙ w.whole) w.put

  module _ (s : SoundLinks rows end) {was aside : List Place} (w : Walked rows end all keeps before now was n) {from : Place} (top : was ≡ from ∷ aside) where
    pub held_top : Held end (from ∷ aside)
    held_top = subst (Held end) top w.held

    -- a run from the place that was put aside last, to a stop
    module _ {at : Place} {more : List Place} (g : Goes rows end (from ∷ aside) (at ∷ more)) (shut : open_at rows end at ≡ false) where
      at_end : walk_at rows end at ≡ end_of rows end at
      unfolding Held
      at_end = walk_shut s at g.held.1.0 shut

      still_whole : (w.products ++ end_of rows end at) ++ flat_map (walk_at rows end) more ≡ all
      unfolding flat_map
      still_whole =
          append_assoc w.products (end_of rows end at) (flat_map (walk_at rows end) more)
          ∙ ap (λ (ps : List Product). w.products ++ (ps ++ flat_map (walk_at rows end) more)) (sym at_end)
          ∙ ap (λ (ps : List Product). w.products ++ ps) g.lists
          ∙ ap (λ (ps : List Place). w.products ++ flat_map (walk_at rows end) ps) (sym top)
          ∙ w.whole

      -- what is written there is among the whole
      pub end_fits : n + length (end_of rows end at) ≤ length all
      end_fits =
          omega (arith, w.put.count, sym (ap length still_whole), length-append (w.products ++ end_of rows end at) (flat_map (walk_at rows end) more), length-append w.products (end_of rows end at))

      pub fewer : steps_left end more < steps_left end was
      unfolding steps_left
      fewer = omega (arith, g.less, ap (steps_left end) top, pow_pos (end + 1 - at.row))

      pub walked_more : {after : List ℕ} {r : ℕ} → Put keeps now after n r (end_of rows end at) → Walked rows end all keeps before after more r
      unfolding Held
      walked_more p = record {
        products = w.products ++ end_of rows end at;
        whole = still_whole;
        held = g.held.1.1;
        put = put_then keeps w.products (end_of rows end at) w.put p;
      }
