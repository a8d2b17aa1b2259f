use Prim.Native.Nat.{ℕ, ◌+◌, ◌<◌}
use native.Mathlib.Nat.{le_trans}
use native.Mathlib.Omega.{arith}
use mathlib.Core.Bool.{Bool}
use mathlib.Core.List.{List}
use mathlib.Core.Path.{◌≡◌, refl, sym, ap, ap₂, ◌∙◌}
use lib.Bits.{bit_or}
use lib.ListN.{length, get_or, take}
use Rattle.std.specs.Prelude.{if◌then◌else◌}
use Rattle.span.specs.Along.{between}
use Rattle.level.specs.declared.Entry.{Entry}
use Rattle.level.specs.Levels.{mark_at, set_at, Steady, Levels}
use Rattle.level.proofs.Sets.{set_more}
use Rattle.level.proofs.level.Goals as goal

-- one entry more
next : (es : List Entry) (i v from : ℕ) (d : Entry) {set floor up mark : ℕ} → i < length es → Levels (take i es) v from (record { set = set; floor = floor })
    → mark ≡ mark_at (get_or es i d) v → Steady (between (get_or es i d).stretch) v floor up → Levels (take (i + 1) es) v from (record { set = bit_or set mark; floor = up })
next es i v from d l L is S =
    let e = get_or es i d in record {
      set = ap₂ bit_or L.set is ∙ sym (set_more es v i d l);
      low = le_trans L.low S.low;
      under = S.under;
      same = λ w a b. set_more es w i d l ∙ ap₂ bit_or (L.same w (le_trans S.low a) b) (ap (λ (t : Bool). if t then e.mark else 0) (S.same w a b)) ∙ sym (set_more es v i d l);
    }

pub loop-entry-init : goal.loop-entry-init
unfolding set_at
loop-entry-init c = record { set = refl; low = omega arith; under = c.requires; same = λ w a b. refl }

pub loop-entry-preserved : goal.loop-entry-preserved
loop-entry-preserved c =
    next c.args.entries.now c.loop-entry.entry-index c.args.v c.args.from _ c.loop-entry-test.true c.loop-entry.invariant c.mark_at-set.ensures c.lift-floor.ensures
