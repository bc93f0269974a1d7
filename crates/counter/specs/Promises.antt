-- What the private functions of the count over a book promise each other; no public contract cites these.
use Rattle.std.specs.Prelude.{ℕ, suc, ◌+◌, ◌*◌, ◌<◌, ◌≤◌, ◌≡◌, true, length}
use mathlib.Core.List.{List, ◌++◌, Memᴰ}
use Rattle.runs.specs.Keys.{is_key, is_run}
use Rattle.runs.specs.Kept.{times}
use Rattle.book.specs.declared.item.Item.{Item}
use Rattle.book.specs.declared.item.Item.TheVariants.{Key, Call}
use Rattle.book.specs.Format.{Macro}
use Rattle.book.specs.declared.item.Repeated.{Repeated}
use Rattle.book.specs.Expansion.{keys_of, expand, unrolled}
use Rattle.book.specs.Reading.{macros_in}
use Rattle.book.specs.Answer.{offsets_in}
use Rattle.pattern.specs.Meaning.{Query}
use Rattle.pattern.specs.Moves.{states}
use Rattle.pattern.specs.Automata.{Automaton}
use Rattle.pattern.specs.declared.automaton.Accepting.{Accepting}
use Rattle.reports.specs.declared.span_count.SpanCount.{SpanCount}
use Rattle.reports.specs.Reports.{span_count, report}
use Rattle.reports.specs.Words.{behind_rows, loaded_at}
use Rattle.std.specs.Prelude.{Result}
use Rattle.refusal.specs.declared.Refusal.{Refusal}
use Rattle.counter.specs.declared.counting.Count.{Count}
use Rattle.counter.specs.declared.items.MacroCount.{MacroCount}
use Rattle.counter.specs.Counting.{item_steps, steps, filled, count_of}
use Rattle.counter.specs.Answers.{outcome}

-- an item is a key, or a call whose run's report stands in the work words
abbrev pub Served : Query → (ℕ → List ℕ) → List ℕ → Item → Type 0
Served t called work (Key k) = is_key k ≡ true
Served t called work (Call j) = (loaded_at work (j * (states t + behind_rows)) (states t) ≡ report t (called j)) × (is_run (called j) ≡ true)

-- and so is each of some
abbrev pub AllServed : Query → (ℕ → List ℕ) → List ℕ → Macro → Type 0
AllServed t called work items = (i : Repeated) → Memᴰ i items → Served t called work i.item

-- what is kept of a run with some keys more, where the item is served
pub record After (keys enter : List ℕ) (p : Accepting) (work : List ℕ) (a : SpanCount) (item : Item) (more : (ℕ → List ℕ) → List ℕ) (b : SpanCount) : Type 0 where
  pub small : b.span.s ≤ 32
  pub extends : (t : Query) → Automaton t keys enter p → (called : ℕ → List ℕ) (w : List ℕ) → is_run w ≡ true → Served t called work item → a ≡ span_count t w
      → b ≡ span_count t (w ++ more called)

-- with the run of the item, and with n of them
abbrev pub AfterItem : List ℕ → List ℕ → Accepting → List ℕ → SpanCount → Item → SpanCount → Type 0
AfterItem keys enter p work a item b = After keys enter p work a item (λ called. keys_of called item) b

abbrev pub AfterPasses : List ℕ → List ℕ → Accepting → List ℕ → SpanCount → Item → ℕ → SpanCount → Type 0
AfterPasses keys enter p work a item n b = After keys enter p work a item (λ called. times n (keys_of called item)) b

-- items and states within the limits of the code
pub record ItemsFit (items : Macro) (p : Accepting) : Type 0 where
  pub few : length items ≤ 64
  pub small : p.states ≤ 32

-- the place of macro i's report in the work words
abbrev pub place_of : Accepting → ℕ → ℕ
place_of p i = i * (p.states + behind_rows)

-- the report of the run of some items, and their steps; each item has at most 32 × 32 pairs
pub record ItemsCounted (keys enter : List ℕ) (p : Accepting) (work : List ℕ) (items : Macro) (r : MacroCount) : Type 0 where
  pub few : r.steps ≤ 65536
  pub counts : (t : Query) → Automaton t keys enter p → (called : ℕ → List ℕ) → AllServed t called work items → (r.report ≡ report t (expand called (unrolled items))) × (r.steps ≡ item_steps t called items)

-- macro m of a sound book whose layout has these offsets, with room for the reports of macros 0 to m
pub record MacroFits (book offsets : List ℕ) (m : ℕ) (p : Accepting) (work : List ℕ) : Type 0 where
  pub table : offsets ≡ offsets_in book
  pub inside : m < length (macros_in book)
  pub small : p.states ≤ 32
  pub room : suc m * (p.states + behind_rows) ≤ length work

-- the reports of macros 0 to m stand in the work words, and their steps were counted
pub record Filled (keys enter : List ℕ) (p : Accepting) (ms : List Macro) (m : ℕ) (before after : List ℕ) (n : ℕ) : Type 0 where
  pub long : length after ≡ length before
  pub counts : (t : Query) → Automaton t keys enter p → (after ≡ filled t ms m before) × (n ≡ steps t ms m)

-- the count of macro m, where the work words suffice
unfoldable pub BookCounted : ℕ → List ℕ → List ℕ → Accepting → List Macro → ℕ → List ℕ → List ℕ → Result Count Refusal → Type 0
BookCounted version keys enter p ms m before after r = (t : Query) → Automaton t keys enter p → outcome r after ≡ count_of version t ms m before
