use Prim.Native.Nat.{ℕ, ◌+◌, ◌≤◌, ◌<◌}
use native.Mathlib.Omega.{arith}
use mathlib.Core.Bool.{Bool, true}
use mathlib.Core.Path.{◌≡◌, sym, ap, subst, ◌∙◌}
use borrow.Author.Rules.{rules}
use mir.Syntax.{w32}
use mir.Val.{SFits}
use mir.ValLaws.{to_z-of_z}
use Rattle.ground.proofs.Signed.{reread}
use Rattle.ground.specs.Lists.{any_of, rest}
use Rattle.rules.specs.declared.Axis.TheVariants.{Frame}
use Rattle.rules.specs.ListWords.{raised}
use Rattle.rules.specs.Ranges.{within, frames}
use Rattle.laws.proofs.Ranges.{framed, x_in, y_in}
use Rattle.says.specs.Asking.{inside_by}
use Rattle.span.specs.declared.Stretch.{Stretch}
use Rattle.span.specs.Along.{places, code_point}
use Rattle.sweep.specs.declared.Patch.{Patch}
use Rattle.sweep.specs.Sweeps.{fill_places, telling}
use Rattle.sweep.proofs.Filled.{fill_rises, fill_below}
use Rattle.sweep.proofs.Patches.{told_any, known_hit}
use Rattle.sweep.proofs.look.Goals as goal

pub place_of-x-requires : goal.place_of-x-requires
place_of-x-requires c = let p = c.args.p in let f : SFits w32 p.x = search rules in reread w32 (within frames) f (framed p.x (x_in p c.requires.p_value))

pub place_of-requires : goal.place_of-requires
place_of-requires c = let p = c.args.p in let f : SFits w32 p.y = search rules in reread w32 (within frames) f (framed p.y (y_in p c.requires.p_value))

pub fill_places-s-requires : goal.fill_places-s-requires
fill_places-s-requires c = (c.requires.before_lt_places, c.place_of.ensures.bounded)

-- what the column holds, as it was found
module _ (before : ℕ) {own found : ℕ} {s : Stretch} (own_is : found ≡ own) (held_is : s ≡ fill_places before found) where
  held : s ≡ fill_places before own
  held = held_is ∙ ap (fill_places before) own_is

  rises : s.lo ≤ s.hi
  rises = subst (λ (r : Stretch). r.lo ≤ r.hi) (sym held) (fill_rises before own)

  ends : before < places → found < places → s.hi < places
  ends h k = subst (λ (r : Stretch). r.hi < places) (sym held) (fill_below before own places h (subst (λ (n : ℕ). n < places) own_is k))

  -- a patch was found to tell of it
  tells_is : {x column : ℕ} (q : Patch) {t : Bool} → x ≡ column → t ≡ telling q x s → t ≡ true → telling q column (fill_places before own) ≡ true
  tells_is q is e h = (λ i. telling q (sym is i) (sym held i)) ∙ sym e ∙ h

pub returns-then-tells : goal.returns-then-tells
returns-then-tells c =
    let p = c.args.p in
    let K = c.requires.known in
    let x = c.place_of-x.ensures.value ∙ ap (raised Frame) (to_z-of_z w32 p.x (search rules)) in
    let own = c.place_of.ensures.value ∙ ap (raised Frame) (to_z-of_z w32 p.y (search rules)) in
    let told = tells_is c.args.before own c.fill_places-s.ensures c.args.q x c.tells.ensures c.if-tells.true in record {
      known = known_hit c.with_hit.ensures K;
      told = ap (λ (r : Patch). r.hit) c.with_hit.ensures
          ∙ told_any (inside_by c.args.asked c.args.table.now c.args.list.now) p c.args.before c.requires.p_value c.args.q K told;
    }

pub fresh-n-requires : goal.fresh-n-requires
fresh-n-requires c =
    let own = c.place_of.ensures.value ∙ ap (raised Frame) (to_z-of_z w32 c.args.p.y (search rules)) in
    let rise = rises c.args.before own c.fill_places-s.ensures in
    let end = ends c.args.before own c.fill_places-s.ensures c.requires.before_lt_places c.place_of.ensures.bounded in record {
      ready = c.requires.ready;
      p_value = c.requires.p_value;
      lo_lt_places = omega (arith, rise, end);
      known = c.requires.known;
    }

pub returns-then-tells-2 : goal.returns-then-tells-2
returns-then-tells-2 c =
    let p = c.args.p in
    let K = c.fresh-n.ensures in
    let x = c.place_of-x.ensures.value ∙ ap (raised Frame) (to_z-of_z w32 p.x (search rules)) in
    let own = c.place_of.ensures.value ∙ ap (raised Frame) (to_z-of_z w32 p.y (search rules)) in
    let told = tells_is c.args.before own c.fill_places-s.ensures c.fresh-n.result x c.tells-2.ensures c.if-tells-2.true in record {
      known = known_hit c.with_hit-then-tells-2.ensures K;
      told = ap (λ (r : Patch). r.hit) c.with_hit-then-tells-2.ensures
          ∙ told_any (inside_by c.args.asked c.args.table.now c.args.list.now) p c.args.before c.requires.p_value c.fresh-n.result K told;
    }

pub overflow_add-s : goal.overflow_add-s
overflow_add-s c =
    let own = c.place_of.ensures.value ∙ ap (raised Frame) (to_z-of_z w32 c.args.p.y (search rules)) in
    let end = ends c.args.before own c.fill_places-s.ensures c.requires.before_lt_places c.place_of.ensures.bounded in
    omega (arith, end)

pub some_inside-hit-requires : goal.some_inside-hit-requires
some_inside-hit-requires c =
    let own = c.place_of.ensures.value ∙ ap (raised Frame) (to_z-of_z w32 c.args.p.y (search rules)) in
    let rise = rises c.args.before own c.fill_places-s.ensures in
    let end = ends c.args.before own c.fill_places-s.ensures c.requires.before_lt_places c.place_of.ensures.bounded in
    record { ready = c.requires.ready; p_value = c.requires.p_value; from_le_to = (omega (arith, rise), omega (arith, end)) }

pub returns : goal.returns
returns c =
    let p = c.args.p in
    let is_inside = inside_by c.args.asked c.args.table.now c.args.list.now in
    let test : ℕ → Bool = λ v. is_inside (code_point p v) in
    let own = c.place_of.ensures.value ∙ ap (raised Frame) (to_z-of_z w32 p.y (search rules)) in
    let is = held c.args.before own c.fill_places-s.ensures in record {
      known = known_hit c.with_hit-2.ensures c.fresh-n.ensures;
      told = ap (λ (r : Patch). r.hit) c.with_hit-2.ensures ∙ c.some_inside-hit.ensures ∙ ap (λ (r : Stretch). any_of test (rest r.lo (r.hi + 1))) is;
    }
