-- Laws of the walk down the calls.
use Prim.Native.Nat.{ℕ, suc, ◌+◌, ◌-◌, ◌*◌, ◌<◌, ◌≤◌}
use native.Mathlib.Omega.{arith}
use native.Mathlib.Nat.{mul-le-mul}
use mir.Val.{Fits}
use mir.Syntax.{w64}
use mathlib.Core.Path.{◌≡◌, refl, sym, ap, subst, ◌∙◌}
use mathlib.Core.Bool.{true}
use mathlib.Core.List.{List, [], ◌∷◌, ◌++◌, append_assoc, append-nil, Memᴰ}
use lib.Dec.{eqb}
use lib.ListN.{length, get_or, take, drop, take-append-drop}
use lib.Seq.{take_all}
use borrow.Author.Tests.{eqb-true}
use Rattle.runs.specs.Keys.{is_key, is_run, line_end}
use Rattle.runs.specs.Kept.{first_words, times}
use Rattle.counter.specs.Counting.{macro_words}
use Rattle.runs.proofs.Tests.{by-test, clash}
use Rattle.std.specs.Prelude.{Some, slice_get}
use Rattle.runs.proofs.KeyLaws.{run_none, run-cons, run-append}
use Rattle.runs.proofs.KeptLaws.{times-one, times-run, times-add}
use Rattle.book.specs.declared.item.Item.{Item}
use Rattle.book.specs.declared.item.Item.TheVariants.{Key, Call}
use Rattle.book.specs.declared.item.Repeated.{Repeated}
use Rattle.book.specs.Format.{repeated, Macro, well_formed}
use Rattle.book.specs.Reading.{macros_in}
use Rattle.book.specs.MacroItems.{items_from, decoded}
use Rattle.book.proofs.LayoutLaws.{well-in}
use Rattle.book.proofs.MacroItems.{item-in, items-are}
use Rattle.book.specs.Expansion.{keys_of, expand, unrolled, expansion}
use Rattle.book.proofs.Expansion.{well-key, well-call, expansion-law, expansion-run, expand-both}
use Rattle.pattern.specs.Meaning.{Query}
use Rattle.pattern.specs.declared.automaton.Tables.{Tables}
use Rattle.pattern.proofs.Readings.{states-of}
use Rattle.reports.specs.declared.span_count.SpanCount.{SpanCount}
use Rattle.reports.specs.declared.report.Report.{Report}
use Rattle.reports.specs.Reports.{span_count, empty_count, extended_count, in_report}
use Rattle.reports.specs.Words.{behind_rows, loaded_at}
use Rattle.reports.proofs.ReportLaws.{empty-count, extend-count, in-report}
use Rattle.counter.proofs.FillLaws.{reports-at}
use Rattle.extents.specs.declared.extent.Extent.{Extent}
use Rattle.extents.specs.Extents.{extent_of}
use Rattle.extents.specs.Operations.{no_extent, joined_extents, repeated_extent}
use Rattle.extents.proofs.ExtentLaws.{no-extent, join-extents, repeat-extents}
use Rattle.find.specs.declared.descent.Search.{Search}
use Rattle.find.specs.declared.descent.Place.{Place}
use Rattle.find.specs.declared.descent.Past.{Past}
use Rattle.find.specs.declared.descent.Stop.{Stop}
use Rattle.find.specs.declared.passes.Skipped.{Skipped}
use Rattle.find.specs.Promises.{item_extent, closed_by, Skips, Ready, PlaceAt, Starts, Known, RunOf, PassOf, PassedTo, PastItem, AllKnown, StopIn, SearchIn, EndsAt, Descends}
use Rattle.find.proofs.FillLaws.{keys-none, keys-more, item-extent}
use Rattle.find.proofs.LineLaws.{closed-start, closed-key}

-- the start of a run: a line end stands in front
pub starts-at : (a : Tables) {o c : SpanCount} {x : Extent} → o ≡ empty_count a.accepting.states → c ≡ extended_count a.keys a.enter a.accepting o 10 → x ≡ no_extent → Starts a (record { count = c; extent = x })
starts-at a {o} {c} {x} e f g =
    record {
      place = λ t d. record {
        run = run_none;
        kept = f ∙ ap (λ (s : SpanCount). extended_count a.keys a.enter a.accepting s 10) (e ∙ ap empty_count (states-of d) ∙ empty-count t d.few) ∙ extend-count d [] 10 run_none refl;
        sized = g ∙ no-extent;
      };
    }

-- The run of a macro, and one pass of an item.
module _ (search : Search) where
  abbrev tables : Tables
  tables = search.tables.now

  pub run-of : {i : ℕ} {x : Report} {r : SpanCount} → x ≡ loaded_at search.reports.now (i * (search.tables.now.accepting.states + behind_rows)) search.tables.now.accepting.states → r ≡ in_report x → RunOf search i r
  run-of {i} e f =
      record {
        run = λ t ms ready low.
            let d = ready.tables in
            f ∙ ap in_report (e ∙ rw (states-of d) (reports-at t d.few ms (suc search.m) i (omega arith) search.reports.now [] (ready.reports ∙ sym (append-nil (first_words (macro_words t ms) (suc search.m)))))) ∙ in-report t (expansion ms i);
      }

  pub pass-key : {item : Item} {k : ℕ} {o r : SpanCount} → item ≡ Key k → o ≡ empty_count search.tables.now.accepting.states → r ≡ extended_count search.tables.now.keys search.tables.now.enter search.tables.now.accepting o k → PassOf search item r
  unfolding Known
  pass-key {item} {k} {o} {r} i e f = rw i (record { pass = λ t ms ready known. f ∙ ap (λ (s : SpanCount). extended_count tables.keys tables.enter tables.accepting s k) (e ∙ ap empty_count (states-of ready.tables) ∙ empty-count t ready.tables.few) ∙ extend-count ready.tables [] k run_none (is-key known) })
    where
      is-key : Known search.m (Key k) → is_key k ≡ true
      is-key h = h

  pub pass-call : {item : Item} {j : ℕ} {r : SpanCount} → item ≡ Call j → RunOf search j r → PassOf search item r
  unfolding Known
  pass-call {item} {j} {r} i f = rw i (record { pass = λ t ms ready known. f.run t ms ready (low known) })
    where
      low : Known search.m (Call j) → j ≤ search.m
      low h = h

-- the place of a macro's report
pub place-fits : (s i : ℕ) → s ≤ 32 → i < 65536 → Fits w64 (i * (s + behind_rows))
place-fits s i h l = let few : i ≤ 65536 = omega arith in let thin : s + behind_rows ≤ 32 + behind_rows = omega arith in omega (arith, mul-le-mul few thin)

-- the keys of an item are a run, and its extent is theirs
known-run : (ms : List Macro) → well_formed ms ≡ true → (m : ℕ) (item : Item) → Known m item → is_run (keys_of (λ j. expansion ms j) item) ≡ true
unfolding Known
known-run ms well m (Key k) h = run-cons k [] h run_none
known-run ms well m (Call j) h = expansion-run ms well j

known-lower : (m : ℕ) (item : Item) → Known m item → (j : ℕ) → item ≡ Call j → j < suc m
unfolding Known
known-lower m item h j e = go (rw e at h)
  where
    go : Known m (Call j) → j < suc m
    go l = omega (arith, l)

-- The passes of an item.
module _ (search : Search) {from : Place} {item : Item} {n : ℕ} where
  pub past-item : {pass : SpanCount} {skipped : Skipped} {one some extent : Extent} → PassOf search item pass → Skips from.count pass 1 n search.k skipped
      → one ≡ item_extent search.extents.now item → some ≡ repeated_extent skipped.passes one → extent ≡ joined_extents from.extent some
      → PastItem search from item n (record { at = record { count = skipped.before; extent = extent }; passes = skipped.passes })
  past-item {pass} {skipped} {one} {some} {extent} p s o r x =
      record {
        within = s.within;
        passed = λ t ms ready known w place few.
            let v = keys_of (λ j. expansion ms j) item in
            let keys-run = known-run ms ready.well search.m item known in
            let once : pass ≡ span_count t (times 1 v) = p.pass t ms ready known ∙ ap (span_count t) (sym (times-one v)) in
            let to = s.skips t ready.tables.few w v place.run keys-run place.kept once few in
            let q = skipped.passes in
            let own : one ≡ extent_of v = o ∙ item-extent ms (suc search.m) search.extents.now ready.extents item (known-lower search.m item known) in
            let all : some ≡ extent_of (times q v) = r ∙ ap (repeated_extent q) own ∙ repeat-extents v q in
            record {
              place = record {
                run = run-append w (times q v) place.run (times-run q v keys-run);
                kept = to.kept;
                sized = x ∙ rw (place.sized, all) (join-extents w (times q v));
              };
              few = to.few;
              far = λ l. to.far (omega arith);
            };
      }

-- n passes: some, one more, and the others
passes-split : (q n : ℕ) (v : List ℕ) → q < n → times n v ≡ times q v ++ (v ++ times (n - (q + 1)) v)
passes-split q n v h =
    let all : n ≡ q + (1 + (n - (q + 1))) = omega arith in
    ap (λ (k : ℕ). times k v) all
    ∙ times-add q (1 + (n - (q + 1))) v
    ∙ ap (λ (l : List ℕ). times q v ++ l) (times-add 1 (n - (q + 1)) v ∙ ap (λ (l : List ℕ). l ++ times (n - (q + 1)) v) (times-one v))

regroup : (a b c d e : List ℕ) → (a ++ (b ++ (c ++ d))) ++ e ≡ (a ++ b) ++ (c ++ (d ++ e))
regroup a b c d e =
    ap (λ (l : List ℕ). l ++ e) (sym (append_assoc a b (c ++ d)))
    ∙ append_assoc (a ++ b) (c ++ d) e
    ∙ ap (λ (l : List ℕ). (a ++ b) ++ l) (append_assoc c d e)

-- The items of a macro.

-- the keys of the first c items
abbrev done_of : List Macro → Macro → ℕ → List ℕ
done_of ms items c = expand (λ j. expansion ms j) (unrolled (take c items))

-- behind them the line has not ended
pub record Behind (t : Query) (k : ℕ) (w : List ℕ) (at : Place) : Type 0 where
  pub place : PlaceAt t w at
  pub few : closed_by t w < k

pub record ItemsPassed (search : Search) (items : Macro) (from at : Place) (c : ℕ) : Type 0 where
  pub passed : (t : Query) (ms : List Macro) → Ready t ms search → AllKnown search.m items → (u : List ℕ) → PlaceAt t u from → closed_by t u < search.k → Behind t search.k (u ++ expand (λ j. expansion ms j) (unrolled (take c items))) at

module _ {search : Search} {items : Macro} {from : Place} where
  pub items-first : ItemsPassed search items from from 0
  items-first =
      record {
        passed = λ t ms ready known u place few.
            let same : u ++ done_of ms items 0 ≡ u = ap (λ (l : List ℕ). u ++ l) (keys-none (λ j. expansion ms j)) ∙ append-nil u in
            record { place = rw same place; few = rw same few };
      }

  module _ {at : Place} (c : ℕ) (x : ItemsPassed search items from at c) where
    -- all items are passed, so that the line ends in none of them
    pub items-over : length items ≤ c → StopIn search from items (record { item = Key 10; at = at })
    items-over h =
        record {
          among = λ j e. clash (cc);
          stops = λ t ms ready known u place few enough.
              let b = x.passed t ms ready known u place few in
              absurd (no_line (rw (take_all c items h) at b.few) enough);
        }
      where
        no_line : {a k : ℕ} → a < k → k ≤ a → ⊥
        no_line l m = omega (arith, l, m)

    module _ {next : Repeated} (e : slice_get items c ≡ Some next) {past : Past} (p : PastItem search at next.item next.times past) where
      to : (t : Query) (ms : List Macro) → Ready t ms search → AllKnown search.m items → (u : List ℕ) → PlaceAt t u from → closed_by t u < search.k → PassedTo t search.k (u ++ done_of ms items c) (keys_of (λ j. expansion ms j) next.item) next.times past
      to t ms ready known u place few =
          let b = x.passed t ms ready known u place few in
          p.passed t ms ready (known next (item-in items c e)) (u ++ done_of ms items c) b.place b.few

      -- the keys of one item more
      more : (ms : List Macro) → done_of ms items (c + 1) ≡ done_of ms items c ++ times next.times (keys_of (λ j. expansion ms j) next.item)
      more ms = keys-more (λ j. expansion ms j) items c e

      pub items-next : next.times ≤ past.passes → ItemsPassed search items from past.at (c + 1)
      items-next l =
          record {
            passed = λ t ms ready known u place few.
                let s = to t ms ready known u place few in
                let all : past.passes ≡ next.times = omega (arith, p.within) in
                let v = keys_of (λ j. expansion ms j) next.item in
                let whole : (u ++ done_of ms items c) ++ times past.passes v ≡ u ++ done_of ms items (c + 1) = rw all (append_assoc u (done_of ms items c) (times next.times v) ∙ ap (λ (l : List ℕ). u ++ l) (sym (more ms))) in
                record { place = rw (← whole) s.place; few = rw (← whole) s.few };
          }

      pub items-stop : past.passes < next.times → StopIn search from items (record { item = next.item; at = past.at })
      items-stop l =
          record {
            among = λ j g. (next.times, there j g);
            stops = λ t ms ready known u place few enough.
                let s = to t ms ready known u place few in
                let v = keys_of (λ j. expansion ms j) next.item in
                let d = done_of ms items c in
                let rest = expand (λ j. expansion ms j) (unrolled (drop (c + 1) items)) in
                let shift : (u ++ d) ++ times past.passes v ≡ u ++ (d ++ times past.passes v) = append_assoc u d (times past.passes v) in
                let one : times (past.passes + 1) v ≡ times past.passes v ++ v = times-add past.passes 1 v ∙ ap (λ (k : List ℕ). times past.passes v ++ k) (times-one v) in
                let far : (u ++ d) ++ times (past.passes + 1) v ≡ (u ++ (d ++ times past.passes v)) ++ v = ap (λ (k : List ℕ). (u ++ d) ++ k) one ∙ sym (append_assoc (u ++ d) (times past.passes v) v) ∙ ap (λ (k : List ℕ). k ++ v) shift in
                record {
                  before = d ++ times past.passes v;
                  behind = times (next.times - (past.passes + 1)) v ++ rest;
                  split = split ms;
                  place = rw (← shift) s.place;
                  few = rw (← shift) s.few;
                  far = rw (← far) (s.far l);
                };
          }
        where
          there : (j : ℕ) → next.item ≡ Call j → Memᴰ (repeated (Call j) next.times) items
          there j g = let here : Memᴰ (repeated next.item next.times) items = item-in items c e in rw g at here

          split : (ms : List Macro) → expand (λ j. expansion ms j) (unrolled items) ≡ (done_of ms items c ++ times past.passes (keys_of (λ j. expansion ms j) next.item)) ++ (keys_of (λ j. expansion ms j) next.item ++ (times (next.times - (past.passes + 1)) (keys_of (λ j. expansion ms j) next.item) ++ expand (λ j. expansion ms j) (unrolled (drop (c + 1) items))))
          split ms =
              let v = keys_of (λ j. expansion ms j) next.item in
              ap (λ (is : Macro). expand (λ j. expansion ms j) (unrolled is)) (sym (take-append-drop (c + 1) items))
              ∙ expand-both (λ j. expansion ms j) (take (c + 1) items) (drop (c + 1) items)
              ∙ ap (λ (l : List ℕ). l ++ expand (λ j. expansion ms j) (unrolled (drop (c + 1) items))) (more ms ∙ ap (λ (l : List ℕ). done_of ms items c ++ l) (passes-split past.passes next.times v l))
              ∙ regroup (done_of ms items c) (times past.passes v) v (times (next.times - (past.passes + 1)) v) (expand (λ j. expansion ms j) (unrolled (drop (c + 1) items)))

-- Macro by macro.

-- the k-th matching line ends in a part of the run
pub record Within (t : Query) (k : ℕ) (run part : List ℕ) (at : Place) : Type 0 where
  pub before : List ℕ
  pub behind : List ℕ
  pub split : run ≡ before ++ (part ++ behind)
  pub place : PlaceAt t before at
  pub few : closed_by t before < k
  pub far : k ≤ closed_by t (before ++ part)

-- in macro i
pub record Level (b : List ℕ) (search : Search) (at : Place) (i : ℕ) : Type 0 where
  pub inside : i ≤ search.m
  pub within : (t : Query) → Ready t (macros_in b) search → 1 ≤ search.k → search.k ≤ closed_by t (expansion (macros_in b) search.m) → Within t search.k (expansion (macros_in b) search.m) (expansion (macros_in b) i) at

module _ {search : Search} where
  pub level-first : (b : List ℕ) {at : Place} → Starts search.tables.now at → Level b search at search.m
  level-first b {at} s =
      record {
        inside = omega arith;
        within = λ t ready some enough.
            record {
              before = [];
              behind = [];
              split = sym (append-nil (expansion (macros_in b) search.m));
              place = s.place t ready.tables;
              few = rw (closed-start t) (omega arith);
              far = enough;
            };
      }

  module _ {b offsets : List ℕ} (g : SearchIn b offsets search) {at : Place} {i : ℕ} (l : Level b search at i) {items : Macro} (e : items ≡ decoded (items_from b offsets i)) where
    abbrev ms : List Macro
    ms = macros_in b

    inner : i < length ms
    inner = omega (arith, l.inside, g.inside)

    well : well_formed ms ≡ true
    well = well-in b g.inside

    its : items ≡ get_or ms i []
    its = e ∙ items-are b offsets i g.table inner

    -- a macro's items are keys, and calls of macros below it
    all_known : AllKnown search.m items
    unfolding Known
    all_known x c = go x.item x.times (rw its at c)
      where
        go : (y : Item) (n : ℕ) → Memᴰ (repeated y n) (get_or ms i []) → Known search.m y
        go (Key k) n d = well-key ms well i d
        go (Call j) n d = let lower : j < i = well-call ms well i d in omega (arith, lower, l.inside)

    its-run : expand (λ j. expansion ms j) (unrolled items) ≡ expansion ms i
    its-run = ap (λ (is : Macro). expand (λ j. expansion ms j) (unrolled is)) its ∙ sym (expansion-law ms well i)

    module _ {stop : Stop} (s : StopIn search at items stop) where
      -- the part of the run of the item in which it ends
      stopped : (t : Query) → Ready t ms search → 1 ≤ search.k → search.k ≤ closed_by t (expansion ms search.m) → Within t search.k (expansion ms search.m) (keys_of (λ j. expansion ms j) stop.item) stop.at
      stopped t ready some enough =
          let w = l.within t ready some enough in
          let u = w.before in
          let x = s.stops t ms ready all_known u w.place w.few (rw its-run w.far) in
          record {
            before = u ++ x.before;
            behind = x.behind ++ w.behind;
            split =
                w.split
                ∙ ap (λ (r : List ℕ). u ++ (r ++ w.behind)) (sym its-run ∙ x.split)
                ∙ inwards u x.before (keys_of (λ j. expansion ms j) stop.item) x.behind w.behind;
            place = x.place;
            few = x.few;
            far = x.far;
          }
        where
          inwards : (a b c d e : List ℕ) → a ++ ((b ++ (c ++ d)) ++ e) ≡ (a ++ b) ++ (c ++ (d ++ e))
          inwards a b c d e = sym (append_assoc a (b ++ (c ++ d)) e) ∙ regroup a b c d e

      module _ {j : ℕ} (c : stop.item ≡ Call j) where
        pub level-lower : j < i
        level-lower = let (n, m) = s.among j c in well-call ms well i (rw its at m)

        pub level-next : Level b search stop.at j
        level-next = record { inside = omega (arith, level-lower, l.inside); within = λ t ready some enough. rw c at (stopped t ready some enough) }

      pub level-end : {c : ℕ} → stop.item ≡ Key c → Descends b search stop.at
      level-end {c} f = record { ends = λ t ready some enough. at-end t (rw f at (stopped t ready some enough)) }
        where
          at-end : (t : Query) → Within t search.k (expansion ms search.m) (c ∷ []) stop.at → EndsAt t search.k (expansion ms search.m) stop.at
          at-end t w = by-test (eqb line_end c) (λ y. ended (eqb-true line_end c y)) (λ n. absurd (no_end (closed-key t w.before c n)))
            where
              no_end : closed_by t (w.before ++ (c ∷ [])) ≡ closed_by t w.before → ⊥
              no_end same = omega (arith, w.few, w.far, same)

              ended : line_end ≡ c → EndsAt t search.k (expansion ms search.m) stop.at
              ended same = closes (subst (λ (x : ℕ). Within t search.k (expansion ms search.m) (x ∷ []) stop.at) (sym same) w)
                where
                  closes : Within t search.k (expansion ms search.m) (line_end ∷ []) stop.at → EndsAt t search.k (expansion ms search.m) stop.at
                  closes x = record { before = x.before; behind = x.behind; split = x.split; place = x.place; few = x.few; far = x.far }
