-- From where a line is to what is answered.
use Prim.Native.Nat.{ℕ, suc, ◌+◌, ◌-◌, ◌*◌, ◌<◌, ◌≤◌}
use native.Mathlib.Omega.{arith}
use mathlib.Core.Path.{◌≡◌, refl, sym, ap, ◌∙◌}
use mathlib.Core.Bool.{Bool, true, false, cond}
use mathlib.Core.List.{List, [], ◌∷◌, ◌++◌}
use lib.Dec.{eqb, ltb}
use lib.ListN.{length, drop}
use borrow.Author.Tests.{ltb-false}
use Rattle.refusal.specs.declared.Refusal.{Refusal}
use Rattle.refusal.specs.declared.Refusal.TheVariants.{NoSuchLine, LineNumberOverflow}
use Rattle.runs.proofs.Tests.{clash}
use Rattle.book.specs.Format.{Macro}
use Rattle.book.specs.Expansion.{expansion}
use Rattle.book.specs.Reading.{Reading, read_book, macros_in}
use Rattle.book.specs.Answer.{opened_figures, check_result}
use Rattle.book.specs.Steps.{Settled, refused, settled, ◌>>=◌, answer_by, book_step, space_step, InBook}
use Rattle.std.specs.Prelude.{Result, Ok, Err}
use Rattle.book.proofs.StepLaws.{book-refuses, space-inside, space-room}
use Rattle.letters.specs.declared.Case.{Case}
use Rattle.pattern.specs.Meaning.{Query, query, matches}
use Rattle.pattern.specs.Form.{Pattern, atom_count}
use Rattle.pattern.specs.Reader as reader
use Rattle.pattern.proofs.Readings.{accepted-few}
use Rattle.lines.specs.Lines.{lines}
use Rattle.counter.specs.Front.{front, pattern_step}
use Rattle.counter.proofs.FrontLaws.{front-book}
use Rattle.extents.specs.Capped.{most}
use Rattle.extents.specs.Words.{width}
use Rattle.find.specs.declared.finding.LinePlace.{LinePlace}
use Rattle.find.specs.declared.finding.FoundLine.{FoundLine}
use Rattle.find.specs.Lines.{Sought, missing, found, kth_in, kth_line}
use Rattle.find.specs.Answer.{needed, base_of, written, told, Outcome, stopped, find_of, find_result, outcome, Location, nowhere, place_of, locate_result}
use Rattle.find.specs.Promises.{Extended, line_at, placed_for, Placing, placing, placing_of, LineOf, LineFits, WritesLine}
use Rattle.find.proofs.LineLaws.{kth-is}
use Rattle.find.proofs.FindLaws.{accepted-tree}
use Rattle.find.proofs.Readings.{written-room, written_behind}

-- A line that was found is one of the lines, behind as many as its number says.
module _ (X : List ℕ → Bool) where
  abbrev Standing : ℕ → ℕ → List (List ℕ) → List ℕ → Type 0
  Standing p n ls l = (before : List (List ℕ)) × (after : List (List ℕ)) × (ls ≡ before ++ (l ∷ after)) × (p ≡ n + length before)

  pub kth-stands : (k n : ℕ) (ls : List (List ℕ)) (p : ℕ) (l : List ℕ) → kth_in X k n ls ≡ found p l → Standing p n ls l
  unfolding kth_in
  kth-stands k n [] p l e = clash (cc)
  kth-stands k n (m ∷ ls) p l e = go (X m) (eqb k 1) (λ j f. kth-stands j (suc n) ls p l f) e
    where
      one_more : Standing p (suc n) ls l → Standing p n (m ∷ ls) l
      one_more (before, after, s, q) = (m ∷ before, after, ap (λ (r : List (List ℕ)). m ∷ r) s, omega (arith, q))

      go : (a b : Bool) → ((j : ℕ) → kth_in X j (suc n) ls ≡ found p l → Standing p (suc n) ls l) → cond a (cond b (found n m) (kth_in X (k - 1) (suc n) ls)) (kth_in X k (suc n) ls) ≡ found p l → Standing p n (m ∷ ls) l
      go true true f g = ([], ls, ap (λ (x : List ℕ). x ∷ ls) (let same : m ≡ l = cc in same), let same : p ≡ n = cc in omega (arith, same))
      go true false f g = one_more (f (k - 1) g)
      go false b f g = one_more (f k g)

-- What the steps before settled.
pub record Fronted (book : Reading (List Macro)) (pattern : reader.Read) (need : Pattern → ℕ) (m words : ℕ) (ms : List Macro) (u : Pattern) : Type 0 where
  pub read : book_step book ≡ settled ms
  pub tree : pattern_step pattern ≡ settled u
  pub inside : m < length ms
  pub enough : need u ≤ words

-- its two parts
abbrev macros_or : Settled (List Macro × Pattern) → List Macro
macros_or (refused r) = []
macros_or (settled (ms, u)) = ms

abbrev tree_or : Pattern → Settled (List Macro × Pattern) → Pattern
tree_or v (refused r) = v
tree_or v (settled (ms, u)) = u

module _ (book : Reading (List Macro)) (pattern : reader.Read) (need : Pattern → ℕ) (m words : ℕ) where
  fronted : (ms : List Macro) (u : Pattern) → front book pattern need m words ≡ settled (ms, u) → Fronted book pattern need m words ms u
  fronted ms u e = go (book_step book) (pattern_step pattern) refl refl e
    where
      space : (ns : List Macro) (v : Pattern) (z : Settled (Unit {0})) → space_step (length ns) m (need v) words ≡ z → book_step book ≡ settled ns → pattern_step pattern ≡ settled v → ◌>>=◌ {B = List Macro × Pattern} z (λ x. settled (ns, v)) ≡ settled (ms, u) → Fronted book pattern need m words ms u
      space ns v (refused r) f h i j = clash (cc)
      space ns v (settled tt) f h i j =
          let first : ns ≡ ms = ap macros_or j in
          let second : v ≡ u = ap (tree_or v) j in
          record {
            read = h ∙ ap settled first;
            tree = i ∙ ap settled second;
            inside = rw (← first) (space-inside (length ns) m (need v) words (Ok tt) (sym f) refl);
            enough = rw (← second) (space-room (length ns) m (need v) words (Ok tt) (sym f) refl);
          }

      go : (x : Settled (List Macro)) (y : Settled Pattern) → book_step book ≡ x → pattern_step pattern ≡ y → ◌>>=◌ {B = List Macro × Pattern} x (λ ns. ◌>>=◌ {B = List Macro × Pattern} y (λ v. ◌>>=◌ {B = List Macro × Pattern} (space_step (length ns) m (need v) words) (λ z. settled (ns, v)))) ≡ settled (ms, u) → Fronted book pattern need m words ms u
      go (refused r) y f g h = clash (cc)
      go (settled ns) (refused r) f g h = clash (cc)
      go (settled ns) (settled v) f g h = space ns v (space_step (length ns) m (need v) words) refl f g h

-- The parts of what is placed.
abbrev is_line : Result LinePlace Refusal → Bool
is_line (Err r) = false
is_line (Ok p) = true

abbrev place_in : Result LinePlace Refusal → LinePlace
place_in (Err r) = line_at 0 0 0
place_in (Ok p) = p

abbrev shown_as : Result LinePlace Refusal → List ℕ → Location
shown_as (Err r) work = nowhere r work
shown_as (Ok p) work = record { refusal = 0; number = p.line.number; length = p.line.length; work = work }

abbrev refused_as : List ℕ → Result LinePlace Refusal → List ℕ → Outcome
refused_as buffer (Err r) work = stopped r work buffer
refused_as buffer (Ok p) work = stopped NoSuchLine work buffer

-- What is answered, from where the line is.
module _ (c : Case) (book : Reading (List Macro)) (pattern : reader.Read) (m k : ℕ) (work : List ℕ) where
  abbrev asked : Settled (List Macro × Pattern)
  asked = front book pattern (λ t. needed (query c t) m) m (length work)

  abbrev placing_by : Settled (List Macro × Pattern) → Placing
  placing_by s = answer_by (λ r. placing (Err r) work) (λ (ms, t). placing (placed_for (base_of (query c t) m) (kth_line (query c t) k (expansion ms m))) (written (query c t) ms m work)) s

  -- where it is
  pub located-shown : {r : Result LinePlace Refusal} {after : List ℕ} → placing r after ≡ placing_of c book pattern m k work → shown_as r after ≡ locate_result c book pattern m k work
  unfolding placing_of locate_result placed_for place_of
  located-shown {r} {after} e = ap (λ (p : Placing). shown_as p.answer p.work) e ∙ go asked
    where
      by_number : (b : Bool) (n l base : ℕ) (w : List ℕ) → shown_as (cond b (Err LineNumberOverflow) (Ok (line_at n l base))) w ≡ cond b (nowhere LineNumberOverflow w) (record { refusal = 0; number = n; length = l; work = w })
      by_number true n l base w = refl
      by_number false n l base w = refl

      by-sought : (s : Sought) (base : ℕ) (w : List ℕ) → shown_as (placed_for base s) w ≡ place_of s w
      by-sought missing base w = refl
      by-sought (found n l) base w = by_number (ltb most n) n (told (length l)) base w

      go : (s : Settled (List Macro × Pattern)) → shown_as (placing_by s).answer (placing_by s).work ≡ answer_by (λ r. nowhere r work) (λ (ms, t). place_of (kth_line (query c t) k (expansion ms m)) (written (query c t) ms m work)) s
      go (refused r) = refl
      go (settled (ms, t)) = by-sought (kth_line (query c t) k (expansion ms m)) (base_of (query c t) m) (written (query c t) ms m work)

  -- a refusal
  pub find-refused : (buffer : List ℕ) {r : Refusal} {after : List ℕ} → placing (Err r) after ≡ placing_of c book pattern m k work → stopped r after buffer ≡ find_result c book pattern m k work buffer
  unfolding placing_of find_result placed_for find_of
  find-refused buffer {r} {after} e = ap (λ (p : Placing). refused_as buffer p.answer p.work) e ∙ go asked (ap (λ (p : Placing). is_line p.answer) (sym e))
    where
      by_number : (b : Bool) (n : ℕ) (l : List ℕ) (base : ℕ) (w : List ℕ) (o : Outcome) → is_line (cond b (Err LineNumberOverflow) (Ok (line_at n (told (length l)) base))) ≡ false
          → refused_as buffer (cond b (Err LineNumberOverflow) (Ok (line_at n (told (length l)) base))) w ≡ cond b (stopped LineNumberOverflow w buffer) o
      by_number true n l base w o f = refl
      by_number false n l base w o f = clash (cc)

      by-sought : (s : Sought) (base : ℕ) (w : List ℕ) → is_line (placed_for base s) ≡ false → refused_as buffer (placed_for base s) w ≡ find_of s w buffer
      by-sought missing base w f = refl
      by-sought (found n l) base w f = by_number (ltb most n) n l base w _ f

      go : (s : Settled (List Macro × Pattern)) → is_line (placing_by s).answer ≡ false → refused_as buffer (placing_by s).answer (placing_by s).work ≡ answer_by (λ r. stopped r work buffer) (λ (ms, t). find_of (kth_line (query c t) k (expansion ms m)) (written (query c t) ms m work) buffer) s
      go (refused r) f = refl
      go (settled (ms, t)) f = by-sought (kth_line (query c t) k (expansion ms m)) (base_of (query c t) m) (written (query c t) ms m work) f

  -- a line
  pub record LineFound (p : LinePlace) (after : List ℕ) : Type 0 where
    pub macros : List Macro
    pub tree : Pattern
    pub keys : List ℕ
    pub settles : asked ≡ settled (macros, tree)
    pub is : kth_line (query c tree) k (expansion macros m) ≡ found p.line.number keys
    pub low : p.line.number ≤ most
    pub size : p.line.length ≡ told (length keys)
    pub based : p.base ≡ base_of (query c tree) m
    pub stands : after ≡ written (query c tree) macros m work

  line-found : {p : LinePlace} {after : List ℕ} → placing (Ok p) after ≡ placing_of c book pattern m k work → LineFound p after
  unfolding placing_of placed_for
  line-found {p} {after} e = go asked refl e
    where
      by_number : (b : Bool) (ms : List Macro) (t : Pattern) (n : ℕ) (keys : List ℕ) → ltb most n ≡ b → asked ≡ settled (ms, t) → kth_line (query c t) k (expansion ms m) ≡ found n keys
          → placing (Ok p) after ≡ placing (cond b (Err LineNumberOverflow) (Ok (line_at n (told (length keys)) (base_of (query c t) m)))) (written (query c t) ms m work) → LineFound p after
      by_number true ms t n keys f a s g = let no_line : true ≡ false = ap (λ (x : Placing). is_line x.answer) g in clash (cc)
      by_number false ms t n keys f a s g =
          let same : p.line.number ≡ n = ap (λ (x : Placing). (place_in x.answer).line.number) g in
          record {
            macros = ms;
            tree = t;
            keys = keys;
            settles = a;
            is = rw same s;
            low = rw same (ltb-false most n f);
            size = ap (λ (x : Placing). (place_in x.answer).line.length) g;
            based = ap (λ (x : Placing). (place_in x.answer).base) g;
            stands = ap (λ (x : Placing). x.work) g;
          }

      by-sought : (s : Sought) (ms : List Macro) (t : Pattern) → asked ≡ settled (ms, t) → kth_line (query c t) k (expansion ms m) ≡ s → placing (Ok p) after ≡ placing (placed_for (base_of (query c t) m) s) (written (query c t) ms m work) → LineFound p after
      by-sought missing ms t a f g = let no_line : true ≡ false = ap (λ (x : Placing). is_line x.answer) g in clash (cc)
      by-sought (found n keys) ms t a f g = by_number (ltb most n) ms t n keys refl a f g

      go : (s : Settled (List Macro × Pattern)) → asked ≡ s → placing (Ok p) after ≡ placing_by s → LineFound p after
      go (refused r) a g = let no_line : true ≡ false = ap (λ (x : Placing). is_line x.answer) g in clash (cc)
      go (settled (ms, t)) a g = by-sought (kth_line (query c t) k (expansion ms m)) ms t a refl g

  -- its keys are one of the run's lines
  line_of : {p : LinePlace} {after : List ℕ} (x : LineFound p after) → LineOf (expansion x.macros m) p.line x.keys
  line_of {p} x =
      let t = query c x.tree in
      let (before, behind, s, q) = kth-stands (matches t) k 1 (lines (expansion x.macros m)) p.line.number x.keys (sym (kth-is t k (expansion x.macros m)) ∙ x.is) in
      record { before = before; after = behind; split = s; place = omega (arith, q); size = x.size; low = x.low }

  found-is : (buffer : List ℕ) {p : LinePlace} {after : List ℕ} (x : LineFound p after) → find_of (found p.line.number x.keys) after buffer ≡ find_result c book pattern m k work buffer
  unfolding find_result
  found-is buffer x = rw (x.settles, x.is, x.stands) refl

-- Of a sound book.
module _ {b offsets : List ℕ} {macros : ℕ} (i : InBook b offsets macros) (c : Case) (s : List ℕ) (m k : ℕ) (work : List ℕ) {p : LinePlace} {after : List ℕ} (f : placing (Ok p) after ≡ placing_of c (read_book b) (reader.read_pattern s) m k work) where
  abbrev found-line : LineFound c (read_book b) (reader.read_pattern s) m k work p after
  found-line = line-found c (read_book b) (reader.read_pattern s) m k work f

  steps-before : Fronted (read_book b) (reader.read_pattern s) (λ t. needed (query c t) m) m (length work) found-line.macros found-line.tree
  steps-before = fronted (read_book b) (reader.read_pattern s) (λ t. needed (query c t) m) m (length work) found-line.macros found-line.tree found-line.settles

  same-macros : found-line.macros ≡ macros_in b
  same-macros = settled_same (sym steps-before.read ∙ i.sound)
    where
      settled_same : {x y : List Macro} → settled x ≡ settled y → x ≡ y
      settled_same f = cc

  abbrev t : Query
  t = query c found-line.tree

  few : atom_count found-line.tree ≤ 29
  few = accepted-few s found-line.tree (accepted-tree (reader.read_pattern s) found-line.tree steps-before.tree)

  words-room : p.base ≤ length after
  words-room = written-room t found-line.macros m work few found-line.based found-line.stands

  words-behind : Extended found-line.macros (suc m) (drop p.base after)
  unfolding Extended
  words-behind = (drop (suc m * width) (drop (base_of t m) work), written_behind t found-line.macros m work few found-line.based found-line.stands)

  pub line-fits-in : LineFits b offsets m p after
  line-fits-in =
      record {
        table = i.table;
        inside = rw (← same-macros) steps-before.inside;
        keys = found-line.keys;
        is = rw same-macros at (line_of c (read_book b) (reader.read_pattern s) m k work found-line);
        room = words-room;
        extents = rw same-macros at words-behind;
      }

  pub line-outcome : (buffer : List ℕ) {r : Result FoundLine Refusal} {end : List ℕ} → WritesLine (expansion (macros_in b) m) p.line buffer end r → outcome r after end ≡ find_result c (read_book b) (reader.read_pattern s) m k work buffer
  line-outcome buffer {r} {end} w = w.writes found-line.keys (rw same-macros at (line_of c (read_book b) (reader.read_pattern s) m k work found-line)) after ∙ found-is c (read_book b) (reader.read_pattern s) m k work buffer found-line

-- A book that is refused.
module _ (b : List ℕ) (r : Refusal) (e : opened_figures (Err r) ≡ check_result (read_book b)) (c : Case) (p : reader.Read) (m k : ℕ) (work : List ℕ) where
  refuses : front (read_book b) p (λ t. needed (query c t) m) m (length work) ≡ refused r
  refuses = front-book (read_book b) p (λ t. needed (query c t) m) m (length work) (book-refuses b e)

  pub book-refused : (buffer : List ℕ) → stopped r work buffer ≡ find_result c (read_book b) p m k work buffer
  unfolding find_result
  book-refused buffer = rw refuses refl

  pub book-nowhere : nowhere r work ≡ locate_result c (read_book b) p m k work
  unfolding locate_result
  book-nowhere = rw refuses refl
