-- A product that stays is kept as what is left of it after its cuts, and any other is dropped. Assumes nothing.
use mathlib.Core.Bool.{Bool, true, false, not, ◌||◌}
use mathlib.Core.List.{List}
use mathlib.Core.Path.{◌≡◌, refl, sym, ap, ◌∙◌}
use lib.Signed.{lt_z}
use Rattle.std.specs.Prelude.{Ok, Err, if◌then◌else◌}
use Rattle.ground.proofs.Branches.{false_true}
use Rattle.rules.specs.declared.Axis.{Axis}
use Rattle.rules.specs.declared.Axis.TheVariants.{Column, Code, Frame}
use Rattle.rules.specs.declared.Primitive.{Primitive}
use Rattle.rules.specs.declared.Product.{Product}
use Rattle.rules.specs.declared.Window.{Window}
use Rattle.rules.specs.Boxes.{Box}
use Rattle.rules.specs.Products.{product_box, stays, trimmed}
use Rattle.fate.specs.Fates.{Fate, fate_in}

kept_once : {p q : Product} → ◌≡◌ {A = Fate} (Ok p) (Ok q) → p ≡ q
kept_once e = cc

is_kept : Fate → Bool
is_kept (Err axis) = false
is_kept (Ok p) = true

not_both : {axis : Axis} {p : Product} → ◌≡◌ {A = Fate} (Err axis) (Ok p) → ⊥
unfolding is_kept
not_both e = false_true (ap is_kept e)

module _ (w : Window) (solids : List Primitive) (c : Product) where
  abbrev box : Box
  box = product_box w solids c

  abbrev by : Bool → Bool → Bool → Fate
  by x y z = if x then Err Column else (if y then Err Code else (if z then Err Frame else Ok (trimmed w solids c)))

  pub stays_kept : stays w solids c ≡ true → fate_in w solids c ≡ Ok (trimmed w solids c)
  stays_kept = go (lt_z box.x.hi box.x.lo) (lt_z box.y.hi box.y.lo) (lt_z box.z.hi box.z.lo)
    where
      go : (x y z : Bool) → not (x || (y || z)) ≡ true → by x y z ≡ Ok (trimmed w solids c)
      go true y z h = false_true h
      go false true z h = false_true h
      go false false true h = false_true h
      go false false false h = refl

  pub gone_dropped : stays w solids c ≡ false → (axis : Axis) × (fate_in w solids c ≡ Err axis)
  gone_dropped = go (lt_z box.x.hi box.x.lo) (lt_z box.y.hi box.y.lo) (lt_z box.z.hi box.z.lo)
    where
      go : (x y z : Bool) → not (x || (y || z)) ≡ false → (axis : Axis) × (by x y z ≡ Err axis)
      go true y z h = (Column, refl)
      go false true z h = (Code, refl)
      go false false true h = (Frame, refl)
      go false false false h = false_true (sym h)

  -- and the other way round
  pub kept_stays : {p : Product} → fate_in w solids c ≡ Ok p → (stays w solids c ≡ true) × (trimmed w solids c ≡ p)
  kept_stays {p} e = go (stays w solids c) refl
    where
      go : (b : Bool) → stays w solids c ≡ b → (stays w solids c ≡ true) × (trimmed w solids c ≡ p)
      go true h = (h, kept_once (sym (stays_kept h) ∙ e))
      go false h = let gone = gone_dropped h in absurd (not_both (sym gone.1 ∙ e))

  pub dropped_gone : {axis : Axis} → fate_in w solids c ≡ Err axis → stays w solids c ≡ false
  dropped_gone {axis} e = go (stays w solids c) refl
    where
      go : (b : Bool) → stays w solids c ≡ b → stays w solids c ≡ false
      go true h = absurd (not_both (sym e ∙ stays_kept h))
      go false h = h
