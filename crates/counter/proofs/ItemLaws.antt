-- Laws of the report of a macro's items, one after another.
use Prim.Native.Nat.{ℕ, ◌+◌, ◌*◌, ◌<◌, ◌≤◌}
use native.Mathlib.Omega.{arith}
use native.Mathlib.Nat.{mul-le-mul_left}
use mir.Val.{Fits}
use mir.Syntax.{w64}
use mathlib.Core.Path.{◌≡◌, sym, ap, ◌∙◌}
use mathlib.Core.Bool.{true}
use mathlib.Core.List.{List, [], ◌∷◌, ◌++◌, Memᴰ}
use lib.ListN.{length, get_or, take, length-append}
use lib.Seq.{take-append-le, take-append_seam, take_all}
use Rattle.runs.specs.Keys.{is_run}
use Rattle.runs.specs.Kept.{times}
use Rattle.runs.specs.Counts.{sum_below}
use Rattle.runs.proofs.KeyLaws.{run_none, run-cons, run-append}
use Rattle.runs.proofs.KeptLaws.{times-one, times-run}
use Rattle.runs.proofs.CountLaws.{sum-none, sum_more, sum-ext}
use Rattle.book.specs.declared.item.Item.{Item}
use Rattle.book.specs.declared.item.Item.TheVariants.{Key, Call}
use Rattle.book.specs.Format.{repeated, Macro}
use Rattle.book.specs.declared.item.Repeated.{Repeated}
use Rattle.book.specs.Expansion.{keys_of, expand, unrolled}
use Rattle.std.specs.Prelude.{Some, slice_get}
use Rattle.std.proofs.lemmas.Option.{slice_get-get_or}
use Rattle.book.proofs.MacroItems.{item-more, item-in}
use Rattle.book.proofs.Expansion.{expand-none, expand-more, unrolled-none}
use Rattle.pattern.specs.Meaning.{Query}
use Rattle.pattern.specs.Moves.{states}
use Rattle.pattern.specs.Automata.{Automaton}
use Rattle.pattern.specs.declared.automaton.Accepting.{Accepting}
use Rattle.pattern.proofs.Readings.{states-of}
use Rattle.reports.specs.declared.report.Report.{Report}
use Rattle.reports.specs.declared.span_count.SpanCount.{SpanCount}
use Rattle.reports.specs.Reports.{span_count, empty_count, extended_count, joined_counts, in_report, report_of, report}
use Rattle.reports.specs.Repetition.{repeated_count}
use Rattle.reports.specs.Words.{behind_rows, loaded_at}
use Rattle.reports.proofs.RepetitionLaws.{repeat-counts}
use Rattle.reports.proofs.ReportLaws.{empty-count, empty-small, count-size, count-pairs, extended-small, joined_small, extend-count, join-counts, in-report, report-is}
use Rattle.spans.specs.declared.span.Span.{Span}
use Rattle.spans.specs.Pairs.{pairs, pairs_in}
use Rattle.spans.proofs.PairLaws.{pairs-le}
use Rattle.counter.specs.Counting.{item_steps}
use Rattle.counter.specs.Promises.{Served, AllServed, AfterItem, AfterPasses, ItemsFit, ItemsCounted}

-- the steps of no item, and of one more
steps-none : (t : Query) (called : ℕ → List ℕ) → item_steps t called [] ≡ 0
unfolding item_steps
steps-none t called = sum-none (λ k. pairs t (expand called (unrolled (take k []))))

steps-more : (t : Query) (called : ℕ → List ℕ) (is : Macro) (i : Repeated) → item_steps t called (is ++ (i ∷ [])) ≡ item_steps t called is + pairs t (expand called (unrolled is))
unfolding item_steps
steps-more t called is i =
    ap (λ (n : ℕ). sum_below n (λ k. pairs t (expand called (unrolled (take k (is ++ (i ∷ []))))))) (length-append is (i ∷ []))
    ∙ sum_more (length is) (λ k. pairs t (expand called (unrolled (take k (is ++ (i ∷ []))))))
    ∙ both
    (sum-ext (length is) (λ k. pairs t (expand called (unrolled (take k (is ++ (i ∷ [])))))) (λ k. pairs t (expand called (unrolled (take k is))))
    (λ k h. ap (λ (l : Macro). pairs t (expand called (unrolled l))) (take-append-le k is (i ∷ []) (omega arith))))
    (ap (λ (l : Macro). pairs t (expand called (unrolled l))) (take-append_seam is (i ∷ [])))
  where
    both : {a b c d : ℕ} → a ≡ b → c ≡ d → a + c ≡ b + d
    both e f = rw (e, f)

-- One item more.
module _ {keys enter : List ℕ} {p : Accepting} {work : List ℕ} {a : SpanCount} {item : Item} where
  pub item-key : {k : ℕ} {b : SpanCount} → item ≡ Key k → b ≡ extended_count keys enter p a k → AfterItem keys enter p work a item b
  item-key {k} i g =
      rw (i, g)
      (record {
        small = extended-small keys enter p a k;
        extends = λ t h called w run served e. rw e (extend-count h w k run served);
      })

  pub item-call : {j : ℕ} {r : Report} {d b : SpanCount} → item ≡ Call j → r ≡ loaded_at work (j * (a.span.s + behind_rows)) a.span.s
      → d ≡ in_report r → b ≡ joined_counts a d → AfterItem keys enter p work a item b
  item-call {j} {r} {d} i f g l =
      rw (i, l)
      (record {
        small = joined_small a d;
        extends = λ t h called w run served e.
            let same : a.span.s ≡ states t = ap (λ (x : SpanCount). x.span.s) e ∙ count-size t w in
            let loaded : r ≡ report t (called j) = f ∙ rw same served.0 in
            let there : d ≡ span_count t (called j) = g ∙ ap in_report loaded ∙ in-report t (called j) in
            rw (e, there) (join-counts t h.few w (called j) run served.1);
      })

-- the place of a called macro's words fits
pub call-small : (s j : ℕ) → s ≤ 32 → j < 65536 → Fits w64 (j * (s + behind_rows))
call-small s j h l = let thin : s + behind_rows ≤ 32 + behind_rows = omega arith in omega (arith, mul-le-mul_left j thin)

-- the run of an item
run-of-item : (t : Query) (called : ℕ → List ℕ) (work : List ℕ) (i : Item) → Served t called work i → is_run (keys_of called i) ≡ true
run-of-item t called work (Key k) h = run-cons k [] h run_none
run-of-item t called work (Call j) h = h.1

-- the empty run is small enough
pub passes-small : (s : ℕ) {o : SpanCount} → o ≡ empty_count s → o.span.s ≤ 32
passes-small s e = rw e (empty-small s)

-- One item more, as often as it stands there.
module _ {keys enter : List ℕ} {p : Accepting} {work : List ℕ} {a : SpanCount} {item : Item} {n : ℕ} where
  pub passes-one : {b : SpanCount} → n ≡ 1 → AfterItem keys enter p work a item b → AfterPasses keys enter p work a item n b
  passes-one e g =
      record {
        small = g.small;
        extends = λ t h called w run served f. g.extends t h called w run served f ∙ ap (λ (l : List ℕ). span_count t (w ++ l)) (sym (ap (λ (k : ℕ). times k (keys_of called item)) e ∙ times-one (keys_of called item)));
      }

  pub passes-more : {o c d b : SpanCount} → n < 65536 → o ≡ empty_count a.span.s → AfterItem keys enter p work o item c → d ≡ repeated_count n c → b ≡ joined_counts a d → AfterPasses keys enter p work a item n b
  passes-more {o} {c} {d} {b} small e g r f =
      record {
        small = rw f (joined_small a d);
        extends = λ t h called w run served s.
            let same : a.span.s ≡ states t = ap (λ (x : SpanCount). x.span.s) s ∙ count-size t w in
            let none : o ≡ span_count t [] = e ∙ ap empty_count same ∙ empty-count t h.few in
            let one : c ≡ span_count t (keys_of called item) = g.extends t h called [] run_none served none in
            let keys-run = run-of-item t called work item served in
            let all : d ≡ span_count t (times n (keys_of called item)) = r ∙ ap (repeated_count n) one ∙ repeat-counts t h.few (keys_of called item) keys-run n small in
            f ∙ rw (s, all) (join-counts t h.few w (times n (keys_of called item)) run (times-run n (keys_of called item) keys-run));
      }

-- a and n are what is kept of some items, whose keys are a run, and their steps
abbrev pub KeptAndSteps : Query → (ℕ → List ℕ) → Macro → SpanCount → ℕ → Type 0
KeptAndSteps t called items a n = (a ≡ span_count t (expand called (unrolled items))) × (is_run (expand called (unrolled items)) ≡ true) × (n ≡ item_steps t called items)

-- All items: after k of them.
pub record ItemsSoFar (keys enter : List ℕ) (p : Accepting) (work : List ℕ) (items : Macro) (a : SpanCount) (n k : ℕ) : Type 0 where
  pub inside : k ≤ length items
  pub small : a.span.s ≤ 32
  pub few : n ≤ k * 1024
  pub counts : (t : Query) → Automaton t keys enter p → (called : ℕ → List ℕ) → AllServed t called work items → KeptAndSteps t called (take k items) a n

module _ {keys enter : List ℕ} {p : Accepting} {work : List ℕ} {items : Macro} (fits : ItemsFit items p) where
  pub items-start : {a : SpanCount} → a ≡ empty_count p.states → ItemsSoFar keys enter p work items a 0 0
  items-start {a} e =
      record {
        inside = omega arith;
        small = rw e (empty-small p.states);
        few = omega arith;
        counts = λ t h called served. (e ∙ ap empty_count (states-of h) ∙ empty-count t h.few ∙ ap (span_count t) (sym (nothing called)), rw (nothing called) run_none, sym (steps-none t called));
      }
    where
      nothing : (called : ℕ → List ℕ) → expand called (unrolled []) ≡ []
      nothing called = ap (expand called) unrolled-none ∙ expand-none called

  module _ {a : SpanCount} {n k : ℕ} (x : ItemsSoFar keys enter p work items a n k) where
    -- their steps are few
    pub items-room : (y : Span) {s : ℕ} → k < length items → s ≡ pairs_in y → Fits w64 (n + s)
    items-room y h f = omega (arith, x.few, fits.few, f, pairs-le y)

    -- the item that is next
    module _ (h : k < length items) where
      abbrev i : Repeated
      i = get_or items k (repeated (Key 0) 0)

      there : slice_get items k ≡ Some i
      there = slice_get-get_or items k (repeated (Key 0) 0) h

      next : take (k + 1) items ≡ take k items ++ (i ∷ [])
      next = item-more items k there

      among : Memᴰ i items
      among = item-in items k there

      pub items-on : {s : ℕ} {b : SpanCount} → s ≡ pairs_in a.span → AfterPasses keys enter p work a i.item i.times b → ItemsSoFar keys enter p work items b (n + s) (k + 1)
      items-on {s} {b} f g =
          record {
            inside = omega (arith, h);
            small = g.small;
            few = omega (arith, x.few, f, pairs-le a.span);
            counts = λ t d called served.
                let before = x.counts t d called served in
                let done = take k items in
                let w = expand called (unrolled done) in
                let passes = times i.times (keys_of called i.item) in
                let this = served i among in
                let whole : expand called (unrolled (take (k + 1) items)) ≡ w ++ passes = ap (λ (l : Macro). expand called (unrolled l)) next ∙ expand-more called done i in (
                  g.extends t d called w before.1 this before.0 ∙ ap (span_count t) (sym whole),
                  rw whole (run-append w passes before.1 (times-run i.times (keys_of called i.item) (run-of-item t called work i.item this))),
                  sym (ap (item_steps t called) next ∙ steps-more t called done i ∙ ap (λ (m : ℕ). m + pairs t w) (sym before.2) ∙ ap (λ (m : ℕ). n + m) (sym (f ∙ ap (λ (r : SpanCount). pairs_in r.span) before.0 ∙ count-pairs t d.few w))),
                );
          }

    -- all items are counted
    pub items-done : {b : Report} → length items ≤ k → b ≡ report_of a → ItemsCounted keys enter p work items (record { report = b; steps = n })
    items-done h g =
        let all : take k items ≡ items = take_all k items h in
        record {
          few = omega (arith, x.few, x.inside, fits.few);
          counts = λ t d called served.
              let r = x.counts t d called served in
              (g ∙ ap report_of r.0 ∙ report-is t (expand called (unrolled (take k items))) ∙ ap (λ (l : Macro). report t (expand called (unrolled l))) all, r.2 ∙ ap (item_steps t called) all);
        }
