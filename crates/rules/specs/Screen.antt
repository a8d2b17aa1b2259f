-- Section 10 of docs/RULES.md: a screenful of frames, and the three words that tell what the search of a frame answers.
use Rattle.std.specs.Prelude.{ℕ, ◌+◌, ◌*◌, ◌/◌, ◌%◌, not, ◌||◌, List, [], ◌∷◌, eqb, ltb, ℤ, pos, ◌+ℤ◌, length, take, drop}
use Rattle.std.proofs.Math.Option.{Option}
use Rattle.rules.specs.declared.Place.{Place}
use Rattle.rules.specs.declared.Refusal.{Refusal}
use Rattle.rules.specs.declared.Rule.TheVariants as rule
use Rattle.rules.specs.Refusals.{refuse_if}
use Rattle.rules.specs.Told.{Tale, sound, inside, outside, clear, hit, wrote, refusal, Told}

abbrev pub most_frames : ℕ
most_frames = 500

-- no frame, too many, or codes that do not divide evenly (12)
abbrev pub frames_refusal : List ℤ → ℕ → Option Refusal
frames_refusal codes frames = refuse_if (eqb frames 0 || (ltb most_frames frames || not (eqb (length codes % frames) 0))) rule.Frame 0

-- how many samples each frame has
abbrev pub frame_length : List ℤ → ℕ → ℕ
frame_length codes frames = length codes / frames

-- the codes of frame j: the frames lie end to end
abbrev pub frame_at : List ℤ → ℕ → ℕ → List ℤ
frame_at codes frames j = take (frame_length codes frames) (drop (j * frame_length codes frames) codes)

-- the place of the frame that comes j later: the same first column, and a number greater by j
abbrev pub later : Place → ℕ → Place
later place j = record { first = place.first; frame = place.frame +ℤ pos j }

abbrev pub triple_words : ℕ
triple_words = 3

-- 0 for clear, 1 for a hit, or 100 and a refusal's number; then the first position, or the refusal's value; then the number of inside samples
abbrev pub triple_by : ℕ → Tale → List ℕ
triple_by number clear = 0 ∷ 0 ∷ 0 ∷ []
triple_by number (hit first count) = 1 ∷ first ∷ count ∷ []
triple_by number (refusal value) = (100 + number) ∷ value ∷ 0 ∷ []
-- no search tells one of these
triple_by number sound = []
triple_by number inside = []
triple_by number outside = []
triple_by number (wrote n) = []

abbrev pub triple_of : Told → List ℕ
triple_of told = triple_by told.number told.tale
