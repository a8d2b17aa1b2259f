-- What the search of a screenful tells: of each frame what the search of it alone answers. Assumes nothing.
use Prim.Native.Nat.{ℕ, ◌*◌, ◌<◌}
use mathlib.Core.List.{List, ◌++◌}
use mathlib.Core.Option.{Option, none}
use mathlib.Core.Path.{◌≡◌, sym, ap, ◌∙◌}
use lib.IntN.{ℤ}
use lib.ListN.{length, take, drop}
use Rattle.ground.proofs.Pieces.{piece_below}
use Rattle.rules.specs.declared.Place.{Place}
use Rattle.rules.specs.declared.Refusal.{Refusal}
use Rattle.rules.specs.declared.Searched.{Searched}
use Rattle.rules.specs.ListCalls.{ListSearched, frame_triple, screen_triples, screen_refusal, ScreenSearched}
use Rattle.rules.specs.Outcome.{leave}
use Rattle.rules.specs.Screen.{frame_at, later, triple_words, triple_of}
use Rattle.rules.specs.Told.{Written, fine, wrote, tell, told_searched, told_written}
use Rattle.rules.proofs.Told.{wrote_none}
use Rattle.laws.proofs.Screens.{triple_length}

pub screen_writes : {t : List ℤ} {list : List ℕ} {codes : List ℤ} {frames : ℕ} {place : Place} {before after : List ℕ} {w : Written}
    → ScreenSearched t list codes frames place before after w → screen_refusal t list codes frames (length before) ≡ none
    → told_written w ≡ fine (wrote (triple_words * frames))
screen_writes {frames = frames} met kept = met.answer ∙ ap (λ (x : Option Refusal). tell x (wrote (triple_words * frames))) kept

-- the words of frame j, whatever follows those of the last
words_at : (t : List ℤ) (list : List ℕ) (codes : List ℤ) (frames : ℕ) (place : Place) (more : List ℕ) (j : ℕ) → j < frames
    → take triple_words (drop (triple_words * j) (screen_triples t list codes frames place ++ more)) ≡ frame_triple t list codes frames place j
unfolding screen_triples
words_at t list codes frames place more j l =
    piece_below (frame_triple t list codes frames place) triple_words (triple_length t list codes frames place) frames more j l

pub screen_tells : {t : List ℤ} {list : List ℕ} {codes : List ℤ} {frames : ℕ} {place : Place} {before after : List ℕ} {w : Written} {n : ℕ}
    → ScreenSearched t list codes frames place before after w → told_written w ≡ fine (wrote n)
    → (j : ℕ) → j < frames → {r : Searched} → ListSearched t list (frame_at codes frames j) (later place j) r
    → take triple_words (drop (triple_words * j) after) ≡ triple_of (told_searched r)
screen_tells {t} {list} {codes} {frames} {place} {before} {n = n} met wrote_it j l single =
    let rule = screen_refusal t list codes frames (length before) in
    let words = screen_triples t list codes frames place in
    let kept = (wrote_none rule (triple_words * frames) n (sym wrote_it ∙ met.answer)).0 in
    let whole = met.buffer ∙ ap (λ (x : Option Refusal). leave x words before) kept in
    ap (λ (buffer : List ℕ). take triple_words (drop (triple_words * j) buffer)) whole
    ∙ words_at t list codes frames place (drop (length words) before) j l
    ∙ ap triple_of (sym single.answer)
