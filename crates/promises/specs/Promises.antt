-- The three promises of the library, sentence by sentence, of whatever meets the records of the public calls (crates/rules/specs).
-- proofs/Promises.antt proves them; docs/PROMISES.md walks through them and says how to read this. Answers speak by what they tell (section 12 of
-- docs/RULES.md): `fine tale` has the number 0, `refused q` the number and the value of the refusal q.
use Rattle.std.specs.Prelude.{ℕ, ◌+◌, ◌*◌, ◌≤◌, ◌<◌, Bool, true, false, List, map, ◌⊎◌, ◌≡◌, ℤ, pos, ◌+ℤ◌, ◌-ℤ◌, length, get_or, take, drop, replicate}
use Rattle.std.proofs.Math.Option.{Option, none, some}
use Rattle.std.specs.Int.Signed.{le_z}
use Rattle.ground.specs.Lists.{All, Some, keep_if}
use Rattle.rules.specs.declared.Place.{Place}
use Rattle.rules.specs.declared.Point.{Point}
use Rattle.rules.specs.declared.Product.{Product}
use Rattle.rules.specs.declared.Rectangle.{Rectangle}
use Rattle.rules.specs.declared.Refusal.{Refusal}
use Rattle.rules.specs.declared.Searched.{Searched}
use Rattle.rules.specs.declared.Rule.TheVariants as rule
use Rattle.rules.specs.declared.Window.{Window}
use Rattle.rules.specs.Boxes.{holds, everywhere, window_box}
use Rattle.rules.specs.Choices.{choices, in_of, expansion}
use Rattle.rules.specs.Form.{Form, holds_at, leaves, Rule}
use Rattle.rules.specs.Frame.{code_at, held_codes, point_of, frame_refusal}
use Rattle.rules.specs.ListCalls.{most_choices, window_refusal, make_refusal, ListMade, list_point_refusal, ListLocated, list_search_refusal, ListSearched}
use Rattle.rules.specs.ListCalls.{screen_refusal, ScreenSearched, waterfall_refusal, PictureDrawn}
use Rattle.rules.specs.ListInside.{inside_list}
use Rattle.rules.specs.ListWords.{header_words, product_words, list_of, word, list_window}
use Rattle.rules.specs.NormalForm.{products_of}
use Rattle.rules.specs.Products.{stays, trimmed, firsts}
use Rattle.rules.specs.Ranges.{Span, within, size_of}
use Rattle.rules.specs.Refusals.{refuse}
use Rattle.rules.specs.RewriteCall.{rewrite_words, finished_rows, rewrite_refusal, TreeRewritten}
use Rattle.rules.specs.Screen.{frame_at, later, triple_words, triple_of}
use Rattle.rules.specs.Table.{primitives}
use Rattle.rules.specs.TextCalls.{table_read, form_refusal, read_refusal, TextRead, table_text, write_refusal, TextWritten}
use Rattle.rules.specs.TextForm.{Word32, TextForm}
use Rattle.rules.specs.Told.{Located, Written, Told, inside, outside, clear, hit, wrote, fine, refused, told_checked, told_located, told_searched, told_written, refused_by}
use Rattle.rules.specs.Tree.{tree_of}
use Rattle.rules.specs.TreeCalls.{point_refusal, TableChecked, tree_point_refusal, TreeLocated, tree_search_refusal, TreeSearched}
use Rattle.rules.specs.TreeRows.{form_in}
use Rattle.rules.specs.Verdict.{table_refusal}
use Rattle.rules.specs.Waterfall.{no_frame, columns_of, codes_of, picture_words}
use Rattle.promises.specs.EachOnce.{EachOnce}
use Rattle.promises.specs.Rewriting.{Rewrite, Rewritten, pruned}
use Rattle.promises.specs.Sets.{InSet}

-- ==== Promise 1
-- Every public call takes all inputs, ends, and reads nothing outside what it is lent. Malformed trees, windows, lists, texts and frames get the
-- numbered refusal of the rules, and a refusal changes no byte of a lent buffer.
--
-- The first sentence is what the prover checks of each public function: it has the call's record as its contract and no precondition, it ends, and
-- every index is within what is lent. The other is said below of the records, call by call. What is lent for reading only cannot be written.

-- A call that only answers, at one input. `Meets r` says that the answer r meets the call's record, and `told r` is what it tells. `rule` is what the
-- rules refuse there, if anything: the first broken rule in their order, with its number and value.
pub record OnlyAnswers {A : Type 0} (told : A → Told) (Meets : A → Type 0) (rule : Option Refusal) : Type 0 where
  -- two answers that meet the record are the same
  pub settled : {r s : A} → Meets r → Meets s → r ≡ s
  -- what the rules refuse gets the refusal of the rules
  pub refuses : {r : A} {q : Refusal} → Meets r → rule ≡ some q → told r ≡ refused q
  -- and nothing else is refused
  pub no_other : {r : A} {q : Refusal} → Meets r → told r ≡ refused q → rule ≡ some q

-- A call that writes into what it is lent, which is one buffer, or two as a pair: `Meets after r` says that it left `after` there, and answered r.
pub record Writes {Lent : Type 0} (Meets : Lent → Written → Type 0) (before : Lent) (rule : Option Refusal) : Type 0 where
  -- two outcomes that meet the record are the same, in the answer and in every buffer
  pub settled : {a b : Lent} {r s : Written} → Meets a r → Meets b s → (r ≡ s) × (a ≡ b)
  -- what the rules refuse gets the refusal of the rules
  pub refuses : {after : Lent} {r : Written} {q : Refusal} → Meets after r → rule ≡ some q → told_written r ≡ refused q
  -- and nothing else is refused
  pub no_other : {after : Lent} {r : Written} {q : Refusal} → Meets after r → told_written r ≡ refused q → rule ≡ some q
  -- a refusal leaves every buffer as it was
  pub unchanged : {after : Lent} {r : Written} (q : Refusal) → Meets after r → told_written r ≡ refused q → after ≡ before

-- the eleven public calls, at every input
pub record Promise1 : Type 0 where
  pub check_table : (t : List ℤ) → OnlyAnswers told_checked (TableChecked t) (table_refusal t)
  pub tree_point : (t : List ℤ) (p : Point) → OnlyAnswers told_located (TreeLocated t p) (tree_point_refusal t p)
  pub tree_search : (t samples : List ℤ) (place : Place)
      → OnlyAnswers told_searched (TreeSearched t samples place) (tree_search_refusal t samples place)
  pub make_list : (t : List ℤ) (w : Window) (before : List ℕ) → Writes (ListMade t w before) before (make_refusal t w (length before))
  pub list_point : (t : List ℤ) (list : List ℕ) (p : Point) → OnlyAnswers told_located (ListLocated t list p) (list_point_refusal t list p)
  pub list_search : (t : List ℤ) (list : List ℕ) (samples : List ℤ) (place : Place)
      → OnlyAnswers told_searched (ListSearched t list samples place) (list_search_refusal t list samples place)
  pub list_search_frames : (t : List ℤ) (list : List ℕ) (codes : List ℤ) (frames : ℕ) (place : Place) (before : List ℕ)
      → Writes (ScreenSearched t list codes frames place before) before (screen_refusal t list codes frames (length before))
  pub list_waterfall : (t : List ℤ) (list : List ℕ) (q : Rectangle) (before : List ℤ)
      → Writes (PictureDrawn t list q before) before (waterfall_refusal t list q (length before))
  -- the tree's area, and the work area
  pub rewrite_tree : (t before work : List ℤ)
      → Writes (λ (areas : List ℤ × List ℤ). TreeRewritten t before areas.0 work areas.1) (before, work)
      (rewrite_refusal t (length before) (length work))
  -- `form` is how the text stands: too long, with a first faulty line, or right
  pub read_text : (text : List ℕ) (form : TextForm text) (before : List ℤ) → Writes (TextRead text before) before (read_refusal form (length before))
  pub write_text : (t : List ℤ) (before : List ℕ) → Writes (TextWritten t before) before (write_refusal t (length before))

-- ==== Promise 2
-- At every integer point in range the tree's answer is that of the set operations. A list made from the tree gives the same answer at every point
-- of its window and refuses every other. A search gives the first inside sample and how many there are. Tree to text to tree is the same tree; an
-- accepted text comes back byte for byte.

abbrev pub InTree : List ℤ → Point → Type 0
InTree t p = InSet (tree_of t) p

abbrev pub InList : List ℤ → List ℕ → Point → Type 0
InList t list p = inside_list (primitives t) list p ≡ true

abbrev pub InWindow : Window → Point → Type 0
InWindow w p = holds (window_box w) p ≡ true

abbrev pub OutOfWindow : Window → Point → Type 0
OutOfWindow w p = holds (window_box w) p ≡ false

-- sample k of a frame is inside a set when some code that its column holds is, at that column and frame
abbrev pub SampleIn : (Point → Type 0) → List ℤ → Place → ℕ → Type 0
SampleIn Holds samples place k = Some (λ code. Holds (point_of place k code)) (held_codes samples k)

-- the sample itself, by its own code
abbrev pub SampleAt : (Point → Type 0) → List ℤ → Place → ℕ → Type 0
SampleAt Holds samples place k = Holds (point_of place k (code_at samples k))

-- the answer at a point: inside where the zone holds it, outside where it does not
pub record BySet (InZone : Type 0) (r : Located) : Type 0 where
  pub in_zone : InZone → told_located r ≡ fine inside
  pub out_of_zone : (InZone → ⊥) → told_located r ≡ fine outside

-- the word of column i in row j of a picture, rows counted from the highest code down; and the points of its place, frame by frame
abbrev pub picture_word : Rectangle → List ℤ → ℕ → ℕ → ℤ
picture_word q words j i = get_or words (j * size_of (columns_of q) + i) no_frame

abbrev pub point_in : Rectangle → ℕ → ℕ → ℤ → Point
point_in q j i z = record { x = q.xlo +ℤ pos i; y = q.yhi -ℤ pos j; z = z }

-- a word is the newest of some frames: the largest that is inside, and that there is none only where there is none
pub record Newest (frames : Span) (Inside : ℤ → Type 0) (word : ℤ) : Type 0 where
  pub if_some : (z : ℤ) → within frames z ≡ true → Inside z → (within frames word ≡ true) × Inside word × (le_z z word ≡ true)
  pub if_none : ((z : ℤ) → within frames z ≡ true → Inside z → ⊥) → word ≡ no_frame
  pub none_only : word ≡ no_frame → (z : ℤ) → within frames z ≡ true → Inside z → ⊥

-- every word of a picture is the newest of some frames, where `Holds p` says that the point p is inside
abbrev pub AllNewest : Rectangle → Span → (Point → Type 0) → List ℤ → Type 0
AllNewest q frames Holds words =
    (j i : ℕ) → j < size_of (codes_of q) → i < size_of (columns_of q) → Newest frames (λ z. Holds (point_in q j i z)) (picture_word q words j i)

-- a list made from the table for the window: the words that the call wrote, wherever they stand and whatever follows them
pub record Made (t : List ℤ) (w : Window) (list : List ℕ) : Type 0 where
  pub before : List ℕ
  pub after : List ℕ
  pub answer : Written
  pub by_call : ListMade t w before after answer
  pub words : ℕ
  pub wrote_words : told_written answer ≡ fine (wrote words)
  pub copied : take words list ≡ take words after

-- what such a list answers, in its window and out of it
pub record Faithful (t : List ℤ) (w : Window) (list : List ℕ) : Type 0 where
  -- at every point of the window the list's answer is that of the set operations, and that of the tree
  pub answers : (p : Point) → InWindow w p → {r : Located} → ListLocated t list p r → BySet (InTree t p) r
  pub as_tree : (p : Point) → InWindow w p → {r s : Located} → ListLocated t list p r → TreeLocated t p s → r ≡ s
  -- every other point it refuses: 10, with the first axis on which the point is out of the window
  pub refuses : (p : Point) → OutOfWindow w p → {r : Located} → ListLocated t list p r
      → (axis : ℕ) × (point_refusal (window_box w) p ≡ refuse rule.Outside axis) × (told_located r ≡ refused_by 10 axis)
  -- so with frames: where all samples are in the window, a search gives the tree's answer
  pub frame_as_tree : (samples : List ℤ) (place : Place) → ((k : ℕ) → k < length samples → SampleAt (InWindow w) samples place k)
      → {r s : Searched} → ListSearched t list samples place r → TreeSearched t samples place s → r ≡ s
  -- every other frame that is right in itself it refuses: 10, with the first sample that is out of the window
  pub refuses_frame : (samples : List ℤ) (place : Place) → frame_refusal samples place ≡ none
      → (k : ℕ) → k < length samples → SampleAt (OutOfWindow w) samples place k → ((j : ℕ) → j < k → SampleAt (InWindow w) samples place j)
      → {r : Searched} → ListSearched t list samples place r → told_searched r ≡ refused_by 10 k
  -- so with a picture: each word is the newest frame of the window at which the tree has its place
  pub picture : (q : Rectangle) {before after : List ℤ} {r : Written} {n : ℕ} → PictureDrawn t list q before after r
      → told_written r ≡ fine (wrote n) → AllNewest q (window_box w).z (InTree t) after

-- exactly `count` of the positions below n are inside: `position` gives each of them once, rising
pub record Counted (Inside : ℕ → Type 0) (n count : ℕ) : Type 0 where
  pub position : ℕ → ℕ
  pub in_frame : (i : ℕ) → i < count → position i < n
  pub stands_inside : (i : ℕ) → i < count → Inside (position i)
  pub rising : (i j : ℕ) → i < j → j < count → position i < position j
  pub complete : (k : ℕ) → k < n → Inside k → (i : ℕ) × (i < count) × (position i ≡ k)

-- a hit in a frame of n samples
pub record Found (Inside : ℕ → Type 0) (n first count : ℕ) : Type 0 where
  -- it names a sample of the frame; that one is inside, and no earlier one is
  pub in_frame : first < n
  pub stands_inside : Inside first
  pub is_first : (k : ℕ) → k < first → Inside k → ⊥
  -- it gives the number of inside samples
  pub how_many : Counted Inside n count

-- what the answer r of a search says of the n samples of a frame, where `Meets r` says that r meets the call's record, and `rule` is what the rules
-- refuse there, if anything
pub record Search (Inside : ℕ → Type 0) (n : ℕ) (rule : Option Refusal) (Meets : Searched → Type 0) : Type 0 where
  -- where no rule is broken it says clear, or a hit
  pub answers : {r : Searched} → Meets r → rule ≡ none
      → (told_searched r ≡ fine clear) ⊎ ((first : ℕ) × (count : ℕ) × (told_searched r ≡ fine (hit first count)))
  pub if_hit : {r : Searched} {first count : ℕ} → Meets r → told_searched r ≡ fine (hit first count) → Found Inside n first count
  -- clear: no sample is inside
  pub if_clear : {r : Searched} → Meets r → told_searched r ≡ fine clear → (k : ℕ) → k < n → Inside k → ⊥

pub record Promise2 : Type 0 where
  -- At every integer point in range the tree's answer is that of the set operations.
  pub tree_answers : (t : List ℤ) → table_refusal t ≡ none → (p : Point) → holds everywhere p ≡ true → {r : Located} → TreeLocated t p r
      → BySet (InTree t p) r
  -- A list made from the tree gives the same answer at every point of its window and refuses every other.
  pub list_answers : (t : List ℤ) (w : Window) (list : List ℕ) → Made t w list → Faithful t w list
  -- A search gives the first inside sample and how many there are: over the tree, and over a list.
  pub tree_searches : (t samples : List ℤ) (place : Place)
      → Search (SampleIn (InTree t) samples place) (length samples) (tree_search_refusal t samples place) (TreeSearched t samples place)
  pub list_searches : (t : List ℤ) (list : List ℕ) (samples : List ℤ) (place : Place)
      → Search (SampleIn (InList t list) samples place) (length samples) (list_search_refusal t list samples place) (ListSearched t list samples place)
  -- So with a screenful: where no rule of the call is broken three words a frame are written, ..
  pub screen_writes : {t : List ℤ} {list : List ℕ} {codes : List ℤ} {frames : ℕ} {place : Place} {before after : List ℕ} {w : Written}
      → ScreenSearched t list codes frames place before after w → screen_refusal t list codes frames (length before) ≡ none
      → told_written w ≡ fine (wrote (triple_words * frames))
  -- .. those of frame j tell what the search of that frame alone answers, ..
  pub screen_tells : {t : List ℤ} {list : List ℕ} {codes : List ℤ} {frames : ℕ} {place : Place} {before after : List ℕ} {w : Written} {n : ℕ}
      → ScreenSearched t list codes frames place before after w → told_written w ≡ fine (wrote n)
      → (j : ℕ) → j < frames → {r : Searched} → ListSearched t list (frame_at codes frames j) (later place j) r
      → take triple_words (drop (triple_words * j) after) ≡ triple_of (told_searched r)
  -- .. and no two answers of a search have the same three words.
  pub triples_apart : (r s : Searched) → triple_of (told_searched r) ≡ triple_of (told_searched s) → r ≡ s
  -- So with the waterfall picture: where no rule of the call is broken a word for each place is written, ..
  pub picture_writes : {t : List ℤ} {list : List ℕ} {q : Rectangle} {before after : List ℤ} {r : Written}
      → PictureDrawn t list q before after r → waterfall_refusal t list q (length before) ≡ none → told_written r ≡ fine (wrote (picture_words q))
  -- .. and each is the newest frame of the list's window at which the list has its place.
  pub picture_tells : {t : List ℤ} {list : List ℕ} {q : Rectangle} {before after : List ℤ} {r : Written} {n : ℕ}
      → PictureDrawn t list q before after r → told_written r ≡ fine (wrote n) → AllNewest q (list_window list).z (InList t list) after
  -- A tree is rewritten into normal form: where no rule of the call is broken the rows of the finished tree are written, ..
  pub rewrite_writes : {t before after work cleared : List ℤ} {r : Written} → TreeRewritten t before after work cleared r
      → rewrite_refusal t (length before) (length work) ≡ none → told_written r ≡ fine (wrote (length (finished_rows t)))
  -- .. they fit, for 24,573 words are always enough, ..
  pub rewrite_fits : {t before after work cleared : List ℤ} {r : Written} {n : ℕ} → TreeRewritten t before after work cleared r
      → told_written r ≡ fine (wrote n) → (n ≤ rewrite_words) × (rewrite_words ≤ length before)
  -- .. the n words that were written, read back, are what the zone's tree is rewritten to, ..
  pub rewrite_tells : {t before after work cleared : List ℤ} {r : Written} {n : ℕ} → TreeRewritten t before after work cleared r
      → told_written r ≡ fine (wrote n) → Rewritten t (form_in after n)
  -- .. words after them stay, ..
  pub rewrite_rest_stays : {t before after work cleared : List ℤ} {r : Written} {n : ℕ} → TreeRewritten t before after work cleared r
      → told_written r ≡ fine (wrote n) → (i : ℕ) → n ≤ i → get_or after i (pos 0) ≡ get_or before i (pos 0)
  -- .. and the work area is 0 to its end.
  pub rewrite_clears : {t before after work cleared : List ℤ} {r : Written} {n : ℕ} → TreeRewritten t before after work cleared r
      → told_written r ≡ fine (wrote n) → cleared ≡ replicate (length work) (pos 0)
  -- Each of the nine rules, and so each rewrite, keeps every point, ..
  pub each_rule_keeps : {k : ℕ} {T U : Form} → Rule k T U → (holding : ℕ → Bool) → holds_at holding T ≡ holds_at holding U
  pub each_rewrite_keeps : {T U : Form} → Rewrite T U → (holding : ℕ → Bool) → holds_at holding T ≡ holds_at holding U
  -- .. and each rewrite loses no leaf.
  pub each_rewrite_loses_no_leaf : {T U : Form} → Rewrite T U → leaves T ≤ leaves U
  -- A list made from the same table is the products of the rewritten tree, pruned afterwards.
  pub list_from_rewriting : {t before after work cleared : List ℤ} {r : Written} {n : ℕ} → TreeRewritten t before after work cleared r
      → told_written r ≡ fine (wrote n)
      → {w : Window} {room list : List ℕ} {s : Written} {m : ℕ} → ListMade t w room list s → told_written s ≡ fine (wrote m)
      → take m list ≡ list_of w (length (primitives t)) (pruned w (primitives t) (products_of (form_in after n)))
  -- Tree to text to tree is the same tree: the text of a sound table is written, where there is room for it, ..
  pub writes_text : {t : List ℤ} {before text : List ℕ} {r : Written} → TextWritten t before text r → table_refusal t ≡ none
      → length (table_text t) ≤ length before → told_written r ≡ fine (wrote (length (table_text t)))
  -- .. and the n bytes that were written are read, where there is room, as that table. Its words are of 32 bits, as a table is lent.
  pub table_text_table : {t : List ℤ} {before text : List ℕ} {r : Written} {n : ℕ} → All Word32 t → TextWritten t before text r
      → told_written r ≡ fine (wrote n)
      → {room after : List ℤ} {s : Written} → TextRead (take n text) room after s → length t ≤ length room
      → (told_written s ≡ fine (wrote (length t))) × (take (length t) after ≡ t)
  -- An accepted text comes back byte for byte: a text of right form whose table is sound is read, where there is room for the table, ..
  pub reads_text : {text : List ℕ} (form : TextForm text) {room table : List ℤ} {r : Written} → TextRead text room table r
      → form_refusal form ≡ none → table_refusal (table_read form) ≡ none → length (table_read form) ≤ length room
      → told_written r ≡ fine (wrote (length (table_read form)))
  -- .. and the n words that were read are written, where there is room, as that text.
  pub text_table_text : {text : List ℕ} {room table : List ℤ} {r : Written} {n : ℕ} → TextRead text room table r → told_written r ≡ fine (wrote n)
      → {before after : List ℕ} {s : Written} → TextWritten (take n table) before after s → length text ≤ length before
      → (told_written s ≡ fine (wrote (length text))) × (take (length text) after ≡ text)

-- ==== Promise 3
-- For a sound tree and window with at most 65,536 unpruned choices and room, the list is exactly what remains when every way of choosing is written
-- out first and pruned afterwards: each distinct product once, in order, none besides. If it does not fit, the refusal names the room. The choices
-- are defined from the tree alone, with no word of rewriting or early pruning (`choices` in crates/rules/specs/Choices).

module _ (t : List ℤ) (w : Window) where
  -- every way of choosing, written out; then those that stay in the window, without the cuts that miss them; then, of equal ones, the first
  abbrev pub pruned_afterwards : List Product
  pruned_afterwards = firsts (map (trimmed w (primitives t)) (keep_if (stays w (primitives t)) (choices in_of (tree_of t))))

  -- the room that it takes, in words
  abbrev pub needed : ℕ
  needed = header_words + product_words * length pruned_afterwards

-- a sound tree and window, with at most 65,536 unpruned choices
pub record Listable (t : List ℤ) (w : Window) : Type 0 where
  pub sound : table_refusal t ≡ none
  pub window : window_refusal w ≡ none
  pub few : expansion (tree_of t) ≤ most_choices

-- of a call that meets its record, found `before` in the buffer, left `after` there and answered r
pub record Promise3 (t : List ℤ) (w : Window) (before after : List ℕ) (r : Written) : Type 0 where
  -- With room it writes the list; it writes one only under those conditions.
  pub writes : Listable t w → needed t w ≤ length before → told_written r ≡ fine (wrote (needed t w))
  pub only_then : {n : ℕ} → told_written r ≡ fine (wrote n) → Listable t w × (needed t w ≤ length before)
  -- The list is exactly what remains when every way of choosing is written out first and pruned afterwards, word for word, ..
  pub exactly : {n : ℕ} → told_written r ≡ fine (wrote n) → take n after ≡ list_of w (length (primitives t)) (pruned_afterwards t w)
  -- .. so that it has each distinct product once, in order, none besides (`EachOnce` says so, product by product).
  pub each_once : {n : ℕ} → told_written r ≡ fine (wrote n) → EachOnce t w after
  -- Words after it stay.
  pub rest_stays : {n : ℕ} → told_written r ≡ fine (wrote n) → (i : ℕ) → n ≤ i → word after i ≡ word before i
  -- If it does not fit, the refusal names the room, and the buffer is as it was.
  pub no_room : Listable t w → length before < needed t w → (told_written r ≡ refused_by 8 (needed t w)) × (after ≡ before)
