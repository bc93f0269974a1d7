-- What private functions promise each other; no public contract cites these.
use Rattle.std.specs.Prelude.{ℕ, suc, ◌+◌, ◌-◌, ◌*◌, ◌/◌, ◌<◌, ◌≤◌, ◌≡◌, Bool, true, cond, ◌&&◌, Result, Ok, Err, eqb, leb, ltb, length, take, drop}
use mathlib.Core.List.{List, [], ◌∷◌, ◌++◌, Memᴰ}
use Rattle.refusal.specs.declared.Refusal.{Refusal}
use Rattle.refusal.specs.declared.Refusal.TheVariants.{NoSuchLine, LineNumberOverflow}
use Rattle.runs.specs.Keys.{is_key, is_run, line_end}
use Rattle.runs.specs.Kept.{first_words, times}
use Rattle.book.specs.declared.item.Item.{Item}
use Rattle.book.specs.declared.item.Item.TheVariants.{Key, Call}
use Rattle.book.specs.Format.{repeated, Macro, well_formed}
use Rattle.book.specs.declared.item.Repeated.{Repeated}
use Rattle.book.specs.Expansion.{keys_of, expand, unrolled, expansion}
use Rattle.book.specs.Reading.{Reading, macros_in}
use Rattle.book.specs.Steps.{answer_by}
use Rattle.book.specs.Answer.{offsets_in}
use Rattle.letters.specs.declared.Case.{Case}
use Rattle.pattern.specs.Meaning.{Query, query}
use Rattle.pattern.specs.Reader as reader
use Rattle.pattern.specs.Form.{atom_count}
use Rattle.pattern.specs.Automata.{Automaton}
use Rattle.pattern.specs.declared.automaton.Tables.{Tables}
use Rattle.lines.specs.Lines.{lines, matching}
use Rattle.spans.specs.Spans.{closed_lines}
use Rattle.reports.specs.declared.span_count.SpanCount.{SpanCount}
use Rattle.reports.specs.Totals.{value_of}
use Rattle.reports.specs.Reports.{span_count, joined_counts}
use Rattle.counter.specs.declared.counting.Count.{Count}
use Rattle.counter.specs.Front.{front}
use Rattle.counter.specs.Counting.{macro_words}
use Rattle.extents.specs.declared.extent.Extent.{Extent}
use Rattle.extents.specs.Capped.{most, capped}
use Rattle.extents.specs.Extents.{end_count, extent_of}
use Rattle.extents.specs.Operations.{key_extent}
use Rattle.extents.specs.Words as extents
use Rattle.find.specs.declared.descent.Search.{Search}
use Rattle.find.specs.declared.descent.Place.{Place}
use Rattle.find.specs.declared.descent.Past.{Past}
use Rattle.find.specs.declared.descent.Stop.{Stop}
use Rattle.find.specs.declared.descent.Located.{Located}
use Rattle.find.specs.declared.finding.FoundLine.{FoundLine}
use Rattle.find.specs.declared.finding.LinePlace.{LinePlace}
use Rattle.find.specs.declared.passes.Skipped.{Skipped}
use Rattle.find.specs.declared.writing.Pen.{Pen}
use Rattle.find.specs.Lines.{Sought, missing, found, kth_line}
use Rattle.find.specs.Answer.{needed, base_of, extent_words_of, written, find_of, outcome, told}

-- Extents.

-- one item, where the words of called macros stand in front
unfoldable pub item_extent : List ℕ → Item → Extent
item_extent words (Key k) = key_extent k
item_extent words (Call j) = extents.loaded_at words (j * extents.width)

-- the words of the first n macros stand in front
unfoldable pub Extended : List Macro → ℕ → List ℕ → Type 0
Extended ms n words = (behind : List ℕ) × (words ≡ first_words (extent_words_of ms) n ++ behind)

-- macro i, whose calls go to macros whose words stand there
pub record MacroAt (b offsets : List ℕ) (i : ℕ) (words : List ℕ) : Type 0 where
  pub table : offsets ≡ offsets_in b
  pub inside : i < length (macros_in b)
  pub below : Extended (macros_in b) i words

-- macro m of a book, with room for the words of macros 0 to m
pub record WordsFit (b offsets : List ℕ) (m : ℕ) (words : List ℕ) : Type 0 where
  pub table : offsets ≡ offsets_in b
  pub inside : m < length (macros_in b)
  pub room : suc m * extents.width ≤ length words

-- Passes.

-- "matching lines" that an LF of w closes: with a line end in front every one of them is between two
abbrev pub closed_by : Query → List ℕ → ℕ
closed_by t w = closed_lines t (line_end ∷ w)

-- one part more, if there are so many passes and k lines are not closed then
unfoldable pub with_part : Skipped → SpanCount → ℕ → ℕ → ℕ → Skipped
with_part done part size bound k =
    cond (ltb (bound - done.passes) size) done
    (cond (leb k (value_of (joined_counts done.before part).closed)) done (record { before = joined_counts done.before part; passes = done.passes + size }))

-- passes of v behind w: k lines are not closed by so many of them, but by `size` more, if there are so many
pub record SkippedTo (t : Query) (k : ℕ) (w v : List ℕ) (size bound : ℕ) (r : Skipped) : Type 0 where
  pub within : r.passes ≤ bound
  pub kept : r.before ≡ span_count t (line_end ∷ (w ++ times r.passes v))
  pub few : closed_by t (w ++ times r.passes v) < k
  pub far : r.passes + size ≤ bound → k ≤ closed_by t (w ++ times (r.passes + size) v)

pub record Skips (a part : SpanCount) (size bound k : ℕ) (r : Skipped) : Type 0 where
  pub within : r.passes ≤ bound
  pub skips : (t : Query) → atom_count t.tree ≤ 29 → (w v : List ℕ) → is_run w ≡ true → is_run v ≡ true → a ≡ span_count t (line_end ∷ w) → part ≡ span_count t (times size v) → closed_by t w < k
      → SkippedTo t k w v size bound r

-- The walk down.

-- what the walk rests on: the tables of t, and the work words that hold the reports and the extents of macros 0 to m
pub record Ready (t : Query) (ms : List Macro) (search : Search) : Type 0 where
  pub tables : Automaton t search.tables.now.keys search.tables.now.enter search.tables.now.accepting
  pub well : well_formed ms ≡ true
  pub reports : search.reports.now ≡ first_words (macro_words t ms) (suc search.m)
  pub extents : Extended ms (suc search.m) search.extents.now

-- a place of a run, behind the keys w
pub record PlaceAt (t : Query) (w : List ℕ) (at : Place) : Type 0 where
  pub run : is_run w ≡ true
  pub kept : at.count ≡ span_count t (line_end ∷ w)
  pub sized : at.extent ≡ extent_of w

pub record Starts (tables : Tables) (at : Place) : Type 0 where
  pub place : (t : Query) → Automaton t tables.keys tables.enter tables.accepting → PlaceAt t [] at

-- an item of one of macros 0 to m: a key, or a call of one of them
unfoldable pub Known : ℕ → Item → Type 0
Known m (Key k) = is_key k ≡ true
Known m (Call j) = j ≤ m

-- the run of macro i
pub record RunOf (search : Search) (i : ℕ) (r : SpanCount) : Type 0 where
  pub run : (t : Query) (ms : List Macro) → Ready t ms search → i ≤ search.m → r ≡ span_count t (expansion ms i)

-- one pass of an item
pub record PassOf (search : Search) (item : Item) (r : SpanCount) : Type 0 where
  pub pass : (t : Query) (ms : List Macro) → Ready t ms search → Known search.m item → r ≡ span_count t (keys_of (λ j. expansion ms j) item)

-- passes of v behind w, n at the most: k lines are not closed by so many of them, but by one more, if there is one
pub record PassedTo (t : Query) (k : ℕ) (w v : List ℕ) (n : ℕ) (r : Past) : Type 0 where
  pub place : PlaceAt t (w ++ times r.passes v) r.at
  pub few : closed_by t (w ++ times r.passes v) < k
  pub far : r.passes < n → k ≤ closed_by t (w ++ times (r.passes + 1) v)

pub record PastItem (search : Search) (from : Place) (item : Item) (n : ℕ) (r : Past) : Type 0 where
  pub within : r.passes ≤ n
  pub passed : (t : Query) (ms : List Macro) → Ready t ms search → Known search.m item → (w : List ℕ) → PlaceAt t w from → closed_by t w < search.k
      → PassedTo t search.k w (keys_of (λ j. expansion ms j) item) n r

-- the item of a macro with such a run in which the line ends, and the place before the pass in which it does, behind u
pub record StoppedAt (t : Query) (k : ℕ) (ms : List Macro) (u run : List ℕ) (r : Stop) : Type 0 where
  pub before : List ℕ
  pub behind : List ℕ
  pub split : run ≡ before ++ (keys_of (λ j. expansion ms j) r.item ++ behind)
  pub place : PlaceAt t (u ++ before) r.at
  pub few : closed_by t (u ++ before) < k
  pub far : k ≤ closed_by t ((u ++ before) ++ keys_of (λ j. expansion ms j) r.item)

abbrev pub AllKnown : ℕ → Macro → Type 0
AllKnown m items = (i : Repeated) → Memᴰ i items → Known m i.item

pub record StopIn (search : Search) (from : Place) (items : Macro) (r : Stop) : Type 0 where
  pub among : (j : ℕ) → r.item ≡ Call j → (n : ℕ) × Memᴰ (repeated (Call j) n) items
  pub stops : (t : Query) (ms : List Macro) → Ready t ms search → AllKnown search.m items → (u : List ℕ) → PlaceAt t u from → closed_by t u < search.k
      → search.k ≤ closed_by t (u ++ expand (λ j. expansion ms j) (unrolled items)) → StoppedAt t search.k ms u (expand (λ j. expansion ms j) (unrolled items)) r

-- macro m of a book whose layout has these offsets
pub record SearchIn (b offsets : List ℕ) (search : Search) : Type 0 where
  pub table : offsets ≡ offsets_in b
  pub inside : search.m < length (macros_in b)

-- the place of the LF that closes the k-th matching line
pub record EndsAt (t : Query) (k : ℕ) (run : List ℕ) (at : Place) : Type 0 where
  pub before : List ℕ
  pub behind : List ℕ
  pub split : run ≡ before ++ (line_end ∷ behind)
  pub place : PlaceAt t before at
  pub few : closed_by t before < k
  pub far : k ≤ closed_by t (before ++ (line_end ∷ []))

pub record Descends (b : List ℕ) (search : Search) (at : Place) : Type 0 where
  pub ends : (t : Query) → Ready t (macros_in b) search → 1 ≤ search.k → search.k ≤ closed_by t (expansion (macros_in b) search.m) → EndsAt t search.k (expansion (macros_in b) search.m) at

-- where the k-th matching line is
pub record LineAt (t : Query) (k : ℕ) (run : List ℕ) (r : Located) : Type 0 where
  pub before : ℕ
  pub line : List ℕ
  pub is : kth_line t k run ≡ found (suc before) line
  pub ends : r.ends ≡ capped before
  pub size : r.length ≡ told (length line)

pub record Locates (b : List ℕ) (search : Search) (r : Located) : Type 0 where
  pub located : (t : Query) → Ready t (macros_in b) search → 1 ≤ search.k → search.k ≤ matching t (expansion (macros_in b) search.m) → LineAt t search.k (expansion (macros_in b) search.m) r

-- Writing.

-- the keys of w behind n line ends, none if there are fewer
unfoldable pub behind_ends : ℕ → List ℕ → List ℕ
behind_ends n [] = []
behind_ends n (c ∷ w) = cond (eqb n 0) (c ∷ w) (behind_ends (n - cond (eqb line_end c) 1 0) w)

-- the keys of w that a pen writes
abbrev pub writes : Pen → List ℕ → List ℕ
writes pen w = take pen.left (behind_ends pen.ends w)

-- the pen behind w; one that has nothing left to write is done
unfoldable pub pen_after : Pen → List ℕ → Pen
pen_after pen w =
    cond (eqb pen.left 0) pen
    (record { ends = pen.ends - end_count w; left = pen.left - length (writes pen w); at = pen.at + length (writes pen w) })

-- and the buffer
unfoldable pub buffer_after : Pen → List ℕ → List ℕ → List ℕ
buffer_after pen w buffer = take pen.at buffer ++ (writes pen w ++ drop (pen.at + length (writes pen w)) buffer)

-- of n passes with so many line ends each, those that lie before the place that some line ends lead to
unfoldable pub passes_before : ℕ → ℕ → ℕ → ℕ
passes_before n each ends = cond (eqb ends 0) 0 (cond (eqb each 0) n (cond (ltb ((ends - 1) / each) n) ((ends - 1) / each) n))

-- an item is a key, or calls a macro; the words of that one and of those below it stand in front
unfoldable pub Served : List Macro → List ℕ → Item → Type 0
Served ms words (Key k) = is_key k ≡ true
Served ms words (Call j) = (j < length ms) × Extended ms (suc j) words

-- an item, and a pen with room for what it is to write
pub record ItemFits (b offsets words : List ℕ) (item : Item) (pen : Pen) (buffer : List ℕ) : Type 0 where
  pub table : offsets ≡ offsets_in b
  pub served : Served (macros_in b) words item
  pub room : pen.at + pen.left ≤ length buffer

-- the same of macro i, where the words of those below it stand in front
pub record WriteFits (b offsets : List ℕ) (i : ℕ) (words : List ℕ) (pen : Pen) (buffer : List ℕ) : Type 0 where
  pub macro : MacroAt b offsets i words
  pub room : pen.at + pen.left ≤ length buffer

-- The answer.

-- so many lines match that there is a k-th
unfoldable pub has_line : Result Count Refusal → ℕ → Bool
has_line (Ok a) k = leb 1 k && leb k a.lines
has_line (Err r) k = leb 1 k

-- the number of a line behind so many others, or 16
unfoldable pub numbered_at : Located → Result FoundLine Refusal
numbered_at line = cond (eqb line.ends most) (Err LineNumberOverflow) (Ok (record { number = line.ends + 1; length = line.length }))

-- a line with its number and so many keys, and where the extents stand
abbrev pub line_at : ℕ → ℕ → ℕ → LinePlace
line_at n l base = record { line = record { number = n; length = l }; base = base }

-- what is answered for a line
unfoldable pub placed_for : ℕ → Sought → Result LinePlace Refusal
placed_for base missing = Err NoSuchLine
placed_for base (found n l) = cond (ltb most n) (Err LineNumberOverflow) (Ok (line_at n (told (length l)) base))

-- that and the work words, of any book and pattern
pub record Placing : Type 0 where
  pub answer : Result LinePlace Refusal
  pub work : List ℕ

abbrev pub placing : Result LinePlace Refusal → List ℕ → Placing
placing r work = record { answer = r; work = work }

unfoldable pub placing_of : Case → Reading (List Macro) → reader.Read → ℕ → ℕ → List ℕ → Placing
placing_of c book pattern m k work =
    answer_by (λ r. placing (Err r) work) (λ (ms, t). placing (placed_for (base_of (query c t) m) (kth_line (query c t) k (expansion ms m))) (written (query c t) ms m work))
    (front book pattern (λ t. needed (query c t) m) m (length work))

-- a line of a run: so many stand before it, and so many keys are told of
pub record LineOf (run : List ℕ) (line : FoundLine) (keys : List ℕ) : Type 0 where
  pub before : List (List ℕ)
  pub after : List (List ℕ)
  pub split : lines run ≡ before ++ (keys ∷ after)
  pub place : line.number ≡ suc (length before)
  pub size : line.length ≡ told (length keys)
  pub low : line.number ≤ most

-- a line of macro m's run, and the extents of macros 0 to m from a place on
pub record LineFits (b offsets : List ℕ) (m : ℕ) (place : LinePlace) (work : List ℕ) : Type 0 where
  pub table : offsets ≡ offsets_in b
  pub inside : m < length (macros_in b)
  pub keys : List ℕ
  pub is : LineOf (expansion (macros_in b) m) place.line keys
  pub room : place.base ≤ length work
  pub extents : Extended (macros_in b) (suc m) (drop place.base work)

pub record WritesLine (run : List ℕ) (line : FoundLine) (before after : List ℕ) (r : Result FoundLine Refusal) : Type 0 where
  pub writes : (keys : List ℕ) → LineOf run line keys → (work : List ℕ) → outcome r work after ≡ find_of (found line.number keys) work before
