use native.Mathlib.Omega.{arith}
use mathlib.Core.Bool.{true}
use mathlib.Core.List.{List}
use mathlib.Core.Path.{◌≡◌, sym, ap, ◌∙◌}
use Prim.Native.Nat.{ℕ}
use lib.IntN.{ℤ}
use Rattle.std.specs.Prelude.{Ok}
use Rattle.rules.specs.declared.Product.{Product}
use Rattle.rules.specs.declared.Window.{Window}
use Rattle.rules.specs.Table.{primitives}
use Rattle.promises.specs.EachOnce.{choice, kept, made}
use Rattle.fate.specs.Fates.{Fate, fate_in}
use Rattle.fate.proofs.Fates.{kept_stays, dropped_gone}
use Rattle.fate.proofs.FirstWays.{told_dropped, again_first, told_again, new_first, in_firsts, told_new}
use Rattle.fate.proofs.told.tell_way.Goals as goal

-- the fate that was found is that of way k
module _ (t : List ℤ) (w : Window) (k : ℕ) {way : Product} (is_way : way ≡ choice t k) where
  found : {f : Fate} → f ≡ fate_in w (primitives t) way → fate_in w (primitives t) (choice t k) ≡ f
  found e = sym (ap (fate_in w (primitives t)) is_way) ∙ sym e

  -- and a way that comes to a product
  comes : {p : Product} → ◌≡◌ {A = Fate} (Ok p) (fate_in w (primitives t) way) → (kept t w k ≡ true) × (made t w k ≡ p)
  comes e = kept_stays w (primitives t) (choice t k) (found e)

pub returns-then-number-products : goal.returns-then-number-products
returns-then-number-products c =
    let way = c.way-chosen.ensures in
    let T = c.requires.told_so_far in
    let h = c.requires.k_bound in
    let N = c.number_in-number.ensures in
    let told = c.if-number-products.true in
    let p = comes c.args.table.now c.args.w c.args.k way.0 c.in-Ok.ensures in record {
      remembered = way.1;
      comes_to = (way.0, (found c.args.table.now c.args.w c.args.k way.0 c.in-Ok.ensures, again_first T h p.0 p.1 N told));
      told_to = told_again T h p.0 p.1 N told;
    }

pub bounds-firsts-number-in-Ok : goal.bounds-firsts-number-in-Ok
bounds-firsts-number-in-Ok c =
    let T = c.requires.told_so_far in
    let p = comes c.args.table.now c.args.w c.args.k c.way-chosen.ensures.0 c.in-Ok.ensures in
    omega (arith, in_firsts T c.requires.k_bound p.0 p.1 c.number_in-number.ensures c.if-number-products.false, T.size)

pub returns-in-Err : goal.returns-in-Err
returns-in-Err c =
    let way = c.way-chosen.ensures in
    let gone = found c.args.table.now c.args.w c.args.k way.0 c.in-Err.ensures in
    let dropped = dropped_gone c.args.w (primitives c.args.table.now) (choice c.args.table.now c.args.k) gone in record {
      remembered = way.1;
      comes_to = (way.0, gone);
      told_to = told_dropped c.requires.told_so_far dropped;
    }

pub returns-else-number-products : goal.returns-else-number-products
returns-else-number-products c =
    let way = c.way-chosen.ensures in
    let T = c.requires.told_so_far in
    let h = c.requires.k_bound in
    let N = c.number_in-number.ensures in
    let new = c.if-number-products.false in
    let p = comes c.args.table.now c.args.w c.args.k way.0 c.in-Ok.ensures in record {
      remembered = way.1;
      comes_to = (way.0, (found c.args.table.now c.args.w c.args.k way.0 c.in-Ok.ensures, new_first T h p.0 p.1 N new));
      told_to = told_new T h p.0 p.1 N new;
    }
