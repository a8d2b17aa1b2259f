use Prim.Native.Nat.{ℕ, ◌*◌}
use native.Mathlib.Omega.{arith}
use mathlib.Core.List.{flat_map}
use mathlib.Core.Path.{◌≡◌, refl, sym, ap, subst, ◌∙◌}
use lib.ListN.{length}
use lib.Seq.{sets, length-sets}
use Rattle.ground.specs.Lists.{from}
use Rattle.rules.specs.Screen.{frame_at, later, triple_words, triple_of}
use Rattle.screen.specs.Triples.{Small}
use Rattle.screen.proofs.Frames.{frames_right, frame_fits, triples_to, triples_all, one_more}
use Rattle.screen.proofs.Triples.{search_small}
use Rattle.screen.proofs.put_triples.Goals as goal

pub nonzero_div-size : goal.nonzero_div-size
nonzero_div-size c = (frames_right c.args.codes.now c.args.frames c.requires.frames_value).some_frame

pub loop-j-init : goal.loop-j-init
unfolding from flat_map
loop-j-init c = refl

pub search_frame-searched-requires : goal.search_frame-searched-requires
search_frame-searched-requires c =
    let right = frames_right c.args.codes.now c.args.frames c.requires.frames_value in record {
      accepted = c.requires.accepted;
      j_lt_most_frames = (omega (arith, c.loop-j-test.true, right.not_over), frame_fits c.args.codes.now c.args.frames right c.loop-j.j c.loop-j-test.true);
    }

pub overflow_mul-j : goal.overflow_mul-j
overflow_mul-j c = record { fits = omega (arith, c.loop-j-test.true, (frames_right c.args.codes.now c.args.frames c.requires.frames_value).not_over) }

pub put_triple-requires : goal.put_triple-requires
put_triple-requires c =
    let j = c.loop-j.j in
    let words = triples_to c.args.table.now c.args.list.now c.args.codes.now c.args.frames c.args.place j in
    let as_long = ap length c.loop-j.invariant ∙ length-sets c.args.triples.now 0 words in
    let small = search_small c.args.table.now c.args.list.now c.requires.accepted (frame_at c.args.codes.now c.args.frames j) (later c.args.place j) in record {
      triple_words_in_bounds = omega (arith, as_long, c.requires.frames_in_bounds, c.loop-j-test.true);
      small = subst Small (sym c.search_frame-searched.ensures.answer) small;
    }

pub loop-j-preserved : goal.loop-j-preserved
loop-j-preserved c =
    let j = c.loop-j.j in
    c.put_triple.ensures
    ∙ (λ i. sets (c.loop-j.invariant i) (triple_words * j) (triple_of (c.search_frame-searched.ensures.answer i)))
    ∙ one_more c.args.table.now c.args.list.now c.args.codes.now c.args.frames c.args.place c.args.triples.now j

pub returns : goal.returns
returns c =
    let done : c.loop-j.j ≡ c.args.frames = omega arith in
    c.loop-j.invariant ∙ ap (λ (j : ℕ). sets c.args.triples.now 0 (triples_to c.args.table.now c.args.list.now c.args.codes.now c.args.frames c.args.place j)) done
    ∙ ap (sets c.args.triples.now 0) (sym (triples_all c.args.table.now c.args.list.now c.args.codes.now c.args.frames c.args.place))
