-- Pieces of a text, one after the other: what is read of each tells what is read of the whole. Assumes nothing.
use Prim.Native.Nat.{ℕ, suc, ◌+◌, ◌-◌, ◌≤◌, ◌<◌}
use native.Mathlib.Numerals.{add-one}
use native.Mathlib.Omega.{arith}
use mathlib.Core.Bool.{Bool, true, false}
use mathlib.Core.List.{List, [], ◌∷◌, ◌++◌, flat_map, append-nil, append_assoc}
use mathlib.Core.Path.{◌≡◌, refl, sym, ap, subst, ◌∙◌}
use lib.Dec.{eqb}
use lib.IntN.{ℤ, pos, negsuc, nat_abs}
use lib.ListN.{length, get_or, take, drop, set, length-append, length-drop, take-append-drop, length-set}
use lib.Seq.{drop-drop, drop-cons, drop-append_seam, take-suc, take-suc-set, take_all, take-append_seam, sets}
use borrow.Rule.Slice.PartMut.{put_mid}
use mir.Syntax.{w32}
use mir.Val.{to_z, of_z}
use Rattle.std.specs.Bool.{Decides, then_some}
use Rattle.std.specs.Cmp.Lexicographic.{pointwise}
use Rattle.std.specs.Int.{FitsUnsignedBits}
use Rattle.std.specs.Prelude.{Option, None, Some, Result, Ok, Err, OkIff}
use Rattle.std.specs.Result.{result_ok}
use Rattle.std.proofs.lemmas.Bool.Decides.{Decides-eqb}
use Rattle.std.proofs.lemmas.Slice.Eq.{slice_eq-Decides}
use Rattle.ground.specs.Lists.{All}
use Rattle.ground.proofs.Branches.{false_true}
use Rattle.ground.proofs.Lists.{all_append, all_at, flat_map_append}
use Rattle.rules.specs.declared.Kind.{Kind}
use Rattle.rules.specs.declared.Kind.TheVariants.{Box, Wedge, Drum, Union, Inter, Diff, Triangle}
use Rattle.rules.specs.Kinds.{kind_number, named_words}
use Rattle.rules.specs.Text.{tab, line_feed, number_text, zone_name, kind_name, header_line, field_text, line_of}
use Rattle.rules.specs.TextForm.{Word32, RightRow}
use Rattle.number.specs.declared.Found.{Found}
use Rattle.number.specs.Reading.{Ended, found, ReadsNumber}
use Rattle.number.proofs.Writing.{part_written}
use Rattle.piece.specs.Pieces.{Stood, Missing, There, Any, ReadsBytes, TriesName, ReadsField, Fields, ReadsLine, RightCount}

-- a line: something that begins it, something after that, and the line feed
module _ {A B : Type 0} where
  abbrev Both : (A → Type 0) → (A → B → Type 0) → A × B → Type 0
  Both First Second x = First x.0 × Second x.0 x.1

  abbrev closed : (A → List ℕ) → (B → List ℕ) → A × B → List ℕ
  closed first second x = first x.0 ++ (second x.1 ++ (line_feed ∷ []))

pub flat_map_last : {A B : Type 0} (f : A → List B) (xs : List A) (x : A) → flat_map f (xs ++ (x ∷ [])) ≡ flat_map f xs ++ f x
unfolding flat_map
flat_map_last {B = B} f xs x = flat_map_append f xs (x ∷ []) ∙ ap (λ (ys : List B). flat_map f xs ++ ys) (append-nil (f x))

-- ---- pieces

-- one after another
pub stood_on : {text xs ys : List ℕ} {at middle next : ℕ} → Stood text at xs middle → Stood text middle ys next → Stood text at (xs ++ ys) next
stood_on {text} {xs} {ys} {next = next} s t = record {
  inside = t.inside;
  split = s.split ∙ ap (λ (bytes : List ℕ). xs ++ bytes) t.split ∙ sym (append_assoc xs ys (drop next text));
}

-- what follows one
past : (text : List ℕ) (at : ℕ) (xs : List ℕ) {rest : List ℕ} {next : ℕ} → drop at text ≡ xs ++ rest → next ≡ at + length xs
    → drop next text ≡ rest
past text at xs {rest} e h =
    ap (λ (i : ℕ). drop i text) h ∙ sym (drop-drop (length xs) at text) ∙ ap (drop (length xs)) e ∙ drop-append_seam xs rest

after_it : {A : Type 0} {Proper : A → Type 0} {spelling : A → List ℕ} {Follows : List ℕ → Type 0} {text : List ℕ} {at : ℕ} {value : A} {next : ℕ}
    → There Proper spelling Follows text at value next → (v : A) (rest : List ℕ) → Proper v → Follows rest → drop at text ≡ spelling v ++ rest
    → drop next text ≡ rest
after_it {spelling = spelling} {text = text} {at = at} t v rest p f e = past text at (spelling v) e (t.only v rest p f e).1

-- bytes that are given stand there, or do not
abbrev pub NoBytes : List ℕ → List ℕ → ℕ → Type 0
NoBytes bytes text at = Missing {A = Unit {0}} Any (λ u. bytes) Any text at

abbrev pub Bytes : List ℕ → List ℕ → ℕ → ℕ → Type 0
Bytes bytes text at next = There {A = Unit {0}} Any (λ u. bytes) Any text at tt next

-- ---- the words of a row

-- a kind's number as it is read back
pub word_0 : (k : Kind) {n : ℤ} → n ≡ pos (kind_number k) → to_z w32 (of_z w32 n) ≡ pos (kind_number k)
word_0 k e = ap (λ (z : ℤ). to_z w32 (of_z w32 z)) e ∙ back k
  where
    back : (k : Kind) → to_z w32 (of_z w32 (pos (kind_number k))) ≡ pos (kind_number k)
    back Box = refl
    back Wedge = refl
    back Drum = refl
    back Union = refl
    back Inter = refl
    back Diff = refl
    back Triangle = refl

-- word 0, and the others after it
pub row_put : {n m : ℤ} (table : List ℤ) {words part : List ℤ} {size : ℕ} → n ≡ m → 1 + length words ≤ length table → part ≡ words → size ≡ length words
    → put_mid 1 size (set table 0 n) part ≡ sets table 0 (m ∷ words)
row_put {n} {m} table {words} same room is size =
    part_written (set table 0 n) 1 (simp length-set room) is size ∙ ap (λ (z : ℤ). sets (set table 0 z) 1 words) same

-- ---- a number that is a row count

pub size_refused : {E P : Type 0} (n : ℕ) (r : Result ℕ E) → None ≡ result_ok r → OkIff r P n → P → ⊥
size_refused n (Ok m) e h p = cc
size_refused n (Err x) e h p = h p

pub size_read : {E P : Type 0} {n : ℕ} (r : Result ℕ E) {m : ℕ} → Some m ≡ result_ok r → OkIff r P n → P × (m ≡ n)
size_read (Ok k) {m} e h = let same : m ≡ k = cc in (h.0, same ∙ h.1)
size_read (Err x) e h = cc

pub is_size : (v : ℤ) → FitsUnsignedBits 64 v → v ≡ pos (nat_abs v)
is_size (pos n) h = refl
is_size (negsuc n) h = absurd h

module _ (text : List ℕ) (at : ℕ) where
  -- ---- bytes that are given

  pub no_room : {bytes : List ℕ} → at ≤ length text → length text - at < length bytes → NoBytes bytes text at
  no_room {bytes} l h = record { none = λ u rest p f e. omega (arith, ap length e, length-append bytes rest, length-drop at text) }

  pub bytes_read : (bytes : List ℕ) {right : Bool} {o : Option ℕ} → at + length bytes ≤ length text
      → right ≡ pointwise eqb (take (at + length bytes - at) (drop at text)) bytes → o ≡ then_some right (at + length bytes) → ReadsBytes bytes text at o
  bytes_read bytes {right} {o} inside says answer = go right (slice_eq-Decides Decides-eqb (take (at + length bytes - at) (drop at text)) bytes right says) answer
    where
      size : at + length bytes - at ≡ length bytes
      size = omega arith

      go : (b : Bool) → Decides b (take (at + length bytes - at) (drop at text) ≡ bytes) → o ≡ then_some b (at + length bytes) → ReadsBytes bytes text at o
      go false same is = rw is (record {
        none = λ u rest p f e. false_true (same.1 (ap (λ (n : ℕ). take n (drop at text)) size ∙ ap (take (length bytes)) e ∙ take-append_seam bytes rest));
      })
      go true same is =
          let rest = drop-drop (length bytes) at text in
          let split = sym (take-append-drop (length bytes) (drop at text))
          ∙ (λ i. (ap (λ (n : ℕ). take n (drop at text)) (sym size) ∙ same.0 refl) i ++ rest i) in
          rw is (record { proper = tt; stood = record { inside = inside; split = split }; only = λ u rest p f e. (refl, refl) })

  -- ---- a kind's name

  pub not_named : (kind : Kind) → NoBytes (kind_name kind) text at → TriesName text at kind None
  not_named kind m = record { none = λ k rest p f e. m.none tt rest tt tt (e ∙ ap (λ (j : Kind). kind_name j ++ rest) p) }

  pub is_named : (kind : Kind) {next : ℕ} → Bytes (kind_name kind) text at next → TriesName text at kind (Some (found kind next))
  is_named kind t = record {
    proper = refl;
    stood = t.stood;
    only = λ k rest p f e.
        let same : kind ≡ k = sym p in
        let end = (t.only tt rest tt tt (e ∙ ap (λ (j : Kind). kind_name j ++ rest) p)).1 in
        (same, end ∙ ap (λ (j : Kind). at + length (kind_name j)) same);
  }

  -- ---- a tab and a number

  pub no_tab : NoBytes (tab ∷ []) text at → Missing Word32 field_text Ended text at
  no_tab m = record { none = λ v rest p f e. m.none tt (number_text v ++ rest) tt tt e }

  module _ {middle : ℕ} (t : Bytes (tab ∷ []) text at middle) where
    pub field_read : {o : Option (Found ℤ)} → ReadsNumber text middle o → ReadsField text at o
    field_read {o = None} m = record {
      none = λ v rest p f e.
          let there = m.complete v rest (record { fits = p; split = after_it t tt (number_text v ++ rest) tt tt e; ends = f }) in
          cc;
    }
    field_read {o = Some n} m =
        let s = m.sound n refl in
        record {
          proper = s.2.fits;
          stood = stood_on t.stood (record { inside = s.1; split = s.2.split });
          only = λ v rest p f e.
              let there = m.complete v rest (record { fits = p; split = after_it t tt (number_text v ++ rest) tt tt e; ends = f }) in
              let same : n ≡ found v (middle + length (number_text v)) = cc in
              let end = (t.only tt (number_text v ++ rest) tt tt e).1 in
              (ap (λ (x : Found ℤ). x.value) same, omega (arith, end, ap (λ (x : Found ℤ). x.next) same));
        }

  -- ---- so many of them

  ended_fields : (vs : List ℤ) (rest : List ℕ) → Ended rest → Ended (flat_map field_text vs ++ rest)
  unfolding flat_map
  ended_fields [] rest f = f
  ended_fields (v ∷ vs) rest f = refl

  -- the first i fields stand there, and the first i places have their numbers
  pub record FieldsBegun (places : List ℤ) (i next : ℕ) : Type 0 where
    pub fit : All Word32 (take i places)
    pub stood : Stood text at (flat_map field_text (take i places)) next
    pub on : (vs : List ℤ) (rest : List ℕ) → Fields (length places) vs → Ended rest → drop at text ≡ flat_map field_text vs ++ rest
        → (take i vs ≡ take i places) × (drop next text ≡ flat_map field_text (drop i vs) ++ rest)

  pub none_begun : (places : List ℤ) → at ≤ length text → FieldsBegun places 0 at
  unfolding flat_map
  none_begun places l = record { fit = tt; stood = record { inside = l; split = refl }; on = λ vs rest p f e. (refl, e) }

  module _ {places : List ℤ} {i next : ℕ} (b : FieldsBegun places i next) where
    module _ (l : i < length places) (vs : List ℤ) (rest : List ℕ) (p : Fields (length places) vs) (f : Ended rest)
        (e : drop at text ≡ flat_map field_text vs ++ rest) where
      -- the next of some fields, before the others
      abbrev its : ℤ
      its = get_or vs i (pos 0)

      fits : Word32 its
      fits = all_at Word32 (pos 0) vs p.fit i (omega (arith, p.counted))

      abbrev others : List ℕ
      others = flat_map field_text (drop (suc i) vs) ++ rest

      next_field : drop next text ≡ field_text its ++ others
      unfolding flat_map
      next_field =
          (b.on vs rest p f e).1 ∙ ap (λ (ws : List ℤ). flat_map field_text ws ++ rest) (drop-cons vs i (pos 0) (omega (arith, p.counted)))
          ∙ append_assoc (field_text its) (flat_map field_text (drop (suc i) vs)) rest

    pub no_field : i < length places → Missing Word32 field_text Ended text next → Missing (Fields (length places)) (flat_map field_text) Ended text at
    no_field l m = record {
      none = λ vs rest p f e. m.none (its l vs rest p f e) (others l vs rest p f e) (fits l vs rest p f e) (ended_fields (drop (suc i) vs) rest f)
          (next_field l vs rest p f e);
    }

    pub one_begun : i < length places → {value : ℤ} {end : ℕ} → There Word32 field_text Ended text next value end
        → FieldsBegun (set places i value) (i + 1) end
    one_begun l {value} {end} t =
        let more : take (i + 1) (set places i value) ≡ take i places ++ (value ∷ [])
        = ap (λ (k : ℕ). take k (set places i value)) (add-one i) ∙ take-suc-set places i value l in
        record {
          fit = subst (All Word32) (sym more) (all_append Word32 (take i places) (value ∷ []) b.fit (t.proper, tt));
          stood =
              let bytes = flat_map_last field_text (take i places) value in
              subst (λ (bs : List ℕ). Stood text at bs end) (sym (ap (flat_map field_text) more ∙ bytes)) (stood_on b.stood t.stood);
          on = λ vs rest p f e.
              let q : Fields (length places) vs = record { counted = p.counted ∙ length-set places i value; fit = p.fit } in
              let stands = next_field l vs rest q f e in
              let same = (t.only (its l vs rest q f e) (others l vs rest q f e) (fits l vs rest q f e) (ended_fields (drop (suc i) vs) rest f) stands).0 in
              let begun = (b.on vs rest q f e).0 in
              let first : take (suc i) vs ≡ take i places ++ (value ∷ [])
              = take-suc vs i (pos 0) (omega (arith, q.counted)) ∙ (λ j. begun j ++ (sym same j ∷ [])) in
              let left = after_it t (its l vs rest q f e) (others l vs rest q f e) (fits l vs rest q f e) (ended_fields (drop (suc i) vs) rest f) stands in
              (ap (λ (k : ℕ). take k vs) (add-one i) ∙ first ∙ sym more, left ∙ ap (λ (k : ℕ). flat_map field_text (drop k vs) ++ rest) (sym (add-one i)));
        }

    pub all_begun : at ≤ length text → length places ≤ i → There (Fields (length places)) (flat_map field_text) Ended text at places next
    unfolding flat_map
    all_begun inside l =
        let all = take_all i places l in
        let stood : Stood text at (flat_map field_text places) next = subst (λ (ws : List ℤ). Stood text at (flat_map field_text ws) next) all b.stood in
        record {
          proper = record { counted = refl; fit = subst (All Word32) all b.fit };
          stood = stood;
          only = λ vs rest p f e.
              let same : places ≡ vs = sym all ∙ sym (b.on vs rest p f e).0 ∙ take_all i vs (omega (arith, p.counted)) in
              let end : next ≡ at + length (flat_map field_text places) = omega (
                arith,
                inside,
                stood.inside,
                ap length stood.split,
                length-append (flat_map field_text places) (drop next text),
                length-drop at text,
                length-drop next text,
              ) in
              (same, end ∙ ap (λ (ws : List ℤ). at + length (flat_map field_text ws)) same);
        }

  -- ---- a line

  parted : {A B : Type 0} (begins : A → List ℕ) (goes_on : B → List ℕ) (x : A × B) (rest : List ℕ) → drop at text ≡ closed begins goes_on x ++ rest
      → drop at text ≡ begins x.0 ++ (goes_on x.1 ++ (line_feed ∷ rest))
  parted begins goes_on x rest e =
      e ∙ append_assoc (begins x.0) (goes_on x.1 ++ (line_feed ∷ [])) rest
      ∙ ap (λ (bytes : List ℕ). begins x.0 ++ bytes) (append_assoc (goes_on x.1) (line_feed ∷ []) rest)

  module _ {A B : Type 0} {First : A → Type 0} {begins : A → List ℕ} (Second : A → B → Type 0) (goes_on : B → List ℕ) where
    wrong_start : Missing First begins Any text at → Missing (Both First Second) (closed begins goes_on) Any text at
    wrong_start m = record { none = λ x rest p f e. m.none x.0 (goes_on x.1 ++ (line_feed ∷ rest)) p.0 tt (parted begins goes_on x rest e) }

    module _ {a : A} {middle : ℕ} (first : There First begins Any text at a middle) where
      -- what a line that stands there tells of its second piece
      record Told (x : A × B) (rest : List ℕ) : Type 0 where
        same : a ≡ x.0
        start : middle ≡ at + length (begins x.0)
        proper : Second a x.1
        on : drop middle text ≡ goes_on x.1 ++ (line_feed ∷ rest)

      told : (x : A × B) (rest : List ℕ) → Both First Second x → drop at text ≡ closed begins goes_on x ++ rest → Told x rest
      told x rest p e =
          let split = parted begins goes_on x rest e in
          let one = first.only x.0 (goes_on x.1 ++ (line_feed ∷ rest)) p.0 tt split in
          record {
            same = one.0;
            start = one.1;
            proper = subst (λ (v : A). Second v x.1) (sym one.0) p.1;
            on = after_it first x.0 (goes_on x.1 ++ (line_feed ∷ rest)) p.0 tt split;
          }

      wrong_rest : Missing (Second a) goes_on Ended text middle → Missing (Both First Second) (closed begins goes_on) Any text at
      wrong_rest m = record { none = λ x rest p f e. let t = told x rest p e in m.none x.1 (line_feed ∷ rest) t.proper refl t.on }

      module _ {b : B} {end : ℕ} (second : There (Second a) goes_on Ended text middle b end) where
        wrong_end : NoBytes (line_feed ∷ []) text end → Missing (Both First Second) (closed begins goes_on) Any text at
        wrong_end m = record {
          none = λ x rest p f e. let t = told x rest p e in m.none tt rest tt tt (after_it second x.1 (line_feed ∷ rest) t.proper refl t.on);
        }

        line_closed : {next : ℕ} → Bytes (line_feed ∷ []) text end next → There (Both First Second) (closed begins goes_on) Any text at (a, b) next
        line_closed last = record {
          proper = (first.proper, second.proper);
          stood = stood_on first.stood (stood_on second.stood last.stood);
          only = λ x rest p f e.
              let t = told x rest p e in
              let two = second.only x.1 (line_feed ∷ rest) t.proper refl t.on in
              let three = (last.only tt rest tt tt (after_it second x.1 (line_feed ∷ rest) t.proper refl t.on)).1 in
              let size = length-append (begins x.0) (goes_on x.1 ++ (line_feed ∷ [])) in
              let last_size = length-append (goes_on x.1) (line_feed ∷ []) in
              ((λ i. (t.same i, two.0 i)), omega (arith, t.start, two.1, three, size, last_size));
        }

  -- ---- the line of a row

  missing_row : Missing (Both Any (λ k. Fields (named_words k))) (closed kind_name (flat_map field_text)) Any text at → Missing RightRow line_of Any text at
  missing_row m = record { none = λ row rest p f e. m.none (row.kind, row.words) rest (tt, record { counted = p.named; fit = p.fit }) f e }

  module _ {kind : Kind} {middle : ℕ} (name : There Any kind_name Any text at kind middle) (words : List ℤ) (named : length words ≡ named_words kind) where
    module _ {end : ℕ} (fields : There (Fields (length words)) (flat_map field_text) Ended text middle words end) where
      own : There (Fields (named_words kind)) (flat_map field_text) Ended text middle words end
      own = subst (λ (n : ℕ). There (Fields n) (flat_map field_text) Ended text middle words end) named fields

      pub line_read : (before after : List ℤ) (o : Option ℕ) → ReadsBytes (line_feed ∷ []) text end o
          → after ≡ sets before 0 (pos (kind_number kind) ∷ words) → ReadsLine text at before after o
      line_read before after None last written = missing_row (wrong_end (λ k. Fields (named_words k)) (flat_map field_text) name own last)
      line_read before after (Some next) last written =
          let line = line_closed (λ k. Fields (named_words k)) (flat_map field_text) name own last in
          record {
            row = record { kind = kind; words = words };
            there = record {
              proper = record { named = named; fit = line.proper.1.fit };
              stood = line.stood;
              only = λ row rest p f e.
                  let g = line.only (row.kind, row.words) rest (tt, record { counted = p.named; fit = p.fit }) f e in
                  ((λ i. record { kind = (g.0 i).0; words = (g.0 i).1 }), g.1);
            };
            written = written;
          }

  -- ---- a tab and a row count

  pub no_count_field : Missing Word32 field_text Ended text at → Missing RightCount (λ n. field_text (pos n)) Ended text at
  no_count_field m = record { none = λ n rest p f e. m.none (pos n) rest (record { fits = omega (arith, p.not_over) }) f e }

  module _ {value : ℤ} {next : ℕ} (field : There Word32 field_text Ended text at value next) where
    pub no_count : ((n : ℕ) → RightCount n → value ≡ pos n → ⊥) → Missing RightCount (λ n. field_text (pos n)) Ended text at
    no_count wrong = record {
      none = λ n rest p f e. wrong n p (field.only (pos n) rest (record { fits = omega (arith, p.not_over) }) f e).0;
    }

    pub count_read : {rows : ℕ} → value ≡ pos rows → RightCount rows → There RightCount (λ n. field_text (pos n)) Ended text at rows next
    count_read {rows} is right = record {
      proper = right;
      stood = subst (λ (v : ℤ). Stood text at (field_text v) next) is field.stood;
      only = λ n rest p f e.
          let g = field.only (pos n) rest (record { fits = omega (arith, p.not_over) }) f e in
          (cc (is, g.0), g.1);
    }

  -- ---- the header

  missing_header : Missing {A = Unit {0} × ℕ} (Both Any (λ u. RightCount)) (closed (λ u. zone_name) (λ n. field_text (pos n))) Any text at
      → Missing RightCount header_line Any text at
  missing_header m = record { none = λ n rest p f e. m.none (tt, n) rest (tt, p) f e }

  pub no_zone : NoBytes zone_name text at → Missing RightCount header_line Any text at
  no_zone m = missing_header (wrong_start (λ u. RightCount) (λ n. field_text (pos n)) m)

  module _ {middle : ℕ} (zone : Bytes zone_name text at middle) where
    pub wrong_count : Missing RightCount (λ n. field_text (pos n)) Ended text middle → Missing RightCount header_line Any text at
    wrong_count m = missing_header (wrong_rest (λ u. RightCount) (λ n. field_text (pos n)) zone m)

    module _ {rows end : ℕ} (count : There RightCount (λ n. field_text (pos n)) Ended text middle rows end) where
      pub no_end : NoBytes (line_feed ∷ []) text end → Missing RightCount header_line Any text at
      no_end m = missing_header (wrong_end (λ u. RightCount) (λ n. field_text (pos n)) zone count m)
