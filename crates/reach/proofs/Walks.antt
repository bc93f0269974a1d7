-- What the walk knows: when it enters a macro, in its items, and when it leaves it.
use Prim.Native.Nat.{ℕ, ◌+◌, ◌<◌, ◌≤◌}
use native.Mathlib.Omega.{arith}
use native.Mathlib.Numerals.{add-one}
use mathlib.Core.Path.{◌≡◌, refl, sym, ap, ◌∙◌}
use mathlib.Core.Logic.{◌⊎◌, ⊎_elim}
use mathlib.Core.Bool.{Bool, true, false, or-false, or-true}
use mathlib.Core.List.{List, [], ◌∷◌, ◌++◌, Memᴰ}
use lib.Dec.{eqb}
use lib.ListN.{length, get_or, set, take, drop, replicate, length-append, length-set, length-replicate, get_or-replicate, take-append-drop}
use lib.Seq.{drop-set-lt, get_or-set_same, get_or-set_other, take_all, take_at, take-suc-set}
use borrow.Author.Tests.{eqb-true, eqb-false}
use Rattle.runs.specs.Keys.{member}
use Rattle.runs.specs.Kept.{over, times}
use Rattle.runs.proofs.KeptLaws.{over-length, over-behind}
use Rattle.runs.proofs.Tests.{by-test, or_cases, or_left, or_right, torn}
use Rattle.book.specs.declared.item.Repeated.{Repeated}
use Rattle.book.specs.declared.item.Item.TheVariants.{Key, Call}
use Rattle.std.specs.Prelude.{Option, Some, None, slice_get}
use Rattle.book.specs.Format.{Macro, repeated, well_formed}
use Rattle.book.specs.Expansion.{unrolled}
use Rattle.book.specs.MacroItems.{decoded, items_from}
use Rattle.book.specs.Reading.{macros_in}
use Rattle.book.proofs.Expansion.{unrolled-none, well-call, well-short, well-times}
use Rattle.book.proofs.Reach.{reach-trans}
use Rattle.book.proofs.LayoutLaws.{macros-few, well-in}
use Rattle.book.proofs.MacroItems.{item-in, item-more, items-are, items-end}
use Rattle.reach.specs.Entries.{entries_of, entries, reach_list}
use Rattle.reach.specs.Promises.{MacroOf, WalkAt, called_by, extend, Walk, Closed}
use Rattle.reach.proofs.Firsts.{member-append, extend-none, extend-new, extend-append, extend-all, extend-times, extend-has, extend-longer, extend-firsts, once-none, once_more, once-room}
use Rattle.reach.proofs.Entries.{entries_of-none, entries_of-key, entries_of-call, entries-law, entries-iff}

-- what stood under the listed numbers is no matter
walk-under : {listed before list : List ℕ} {marks : List Bool} {n : ℕ} (other : List ℕ) → Walk listed before list marks n → length before ≡ length other → drop (length listed) before ≡ drop (length listed) other → Walk listed other list marks n
walk-under {listed} other w long same =
    record {
      count = w.count;
      written = w.written ∙ ap (λ (l : List ℕ). listed ++ l) same;
      fits = rw (← long) w.fits;
      wide = w.wide;
      marked = w.marked;
      single = w.single;
      low = λ j h. ((w.low j h).0, rw (← long) (w.low j h).1);
    }

-- the walk as the next macro finds it, and what it makes of it
module _ {listed before list : List ℕ} {marks : List Bool} {n : ℕ} (w : Walk listed before list marks n) where
  walk-long : length list ≡ length before
  walk-long = rw w.written (over-length listed before (omega (arith, w.count, w.fits)))

  walk-behind : (k : ℕ) → length listed ≤ k → drop k list ≡ drop k before
  walk-behind k h = rw w.written (over-behind listed before k h)

  walk-front : take n list ≡ listed
  walk-front = rw w.written (take_at listed (drop (length listed) before) n (sym w.count))

  walk-found : Walk (take n list) list list marks n
  walk-found = rw walk-front (walk-under list w (sym walk-long) (sym (walk-behind (length listed) (omega arith))))

  walk-made : {more after : List ℕ} {new : List Bool} {r : ℕ} → length listed ≤ length more → Walk more list after new r → Walk more before after new r
  walk-made {more} long v = walk-under before v walk-long (walk-behind (length more) long)

-- what is listed stays left where the entries of one macro more are listed
closed-more : (ms : List Macro) → well_formed ms ≡ true → (a : ℕ) (listed : List ℕ) (j : ℕ) → Closed ms a listed → Closed ms a (extend listed (entries ms j))
closed-more ms well a listed j c i k h m r =
    rw (extend-has listed (entries ms j) k)
    (⊎_elim
    (λ old. or_left (member k listed) (member k (entries ms j)) (c i k h old r))
    (λ new. or_right (member k listed) (member k (entries ms j)) ((entries-iff ms well j k).1 (reach-trans ((entries-iff ms well j i).0 new) r)))
    (or_cases (member i listed) (member i (entries ms j)) (rw (extend-has listed (entries ms j) i) at m)))

-- a number of a list with one more at its end is one of the list, or that one
member-last : (k : ℕ) (l : List ℕ) (x : ℕ) → member k (l ++ (x ∷ [])) ≡ true → (member k l ≡ true) ⊎ (eqb k x ≡ true)
member-last k l x h = or_cases (member k l) (eqb k x) (rw (member-append k l (x ∷ []), or-false (eqb k x)) at h)

-- In the items of macro i: `front` is listed before them, and then what the first k of them enter.
abbrev listed_by : List Macro → ℕ → List ℕ → ℕ → List ℕ
listed_by ms i front k = extend front (entries_of (λ j. entries ms j) (unrolled (take k (get_or ms i []))))

pub record Within (ms : List Macro) (i : ℕ) (front before : List ℕ) (k : ℕ) (list : List ℕ) (marks : List Bool) (n : ℕ) : Type 0 where
  pub walk : Walk (listed_by ms i front k) before list marks n
  pub closed : Closed ms i (listed_by ms i front k)

-- Macro i, behind the numbers `take n list`.
module _ (b offsets : List ℕ) (i n : ℕ) (marks : List Bool) (list : List ℕ) (x : WalkAt (i + 1) b offsets i n marks list) where
  well : well_formed (macros_in b) ≡ true
  well = well-in b x.place.inside

  pub enter-macro : i < 1024
  enter-macro = omega (arith, macros-few b, x.place.inside)

  -- it is listed, and so is all that it reaches
  pub enter-known : get_or marks i false ≡ true → Walk (extend (take n list) (entries (macros_in b) i)) list list marks n
  enter-known h =
      let listed : member i (take n list) ≡ true = sym (x.walk.marked i enter-macro) ∙ h in
      rw (extend-all (take n list) (entries (macros_in b) i) (λ j m. x.closed i j (omega arith) listed ((entries-iff (macros_in b) well i j).0 m))) x.walk

  module _ (h : get_or marks i false ≡ false) where
    new : member i (take n list) ≡ false
    new = sym (x.walk.marked i enter-macro) ∙ h

    pub enter-room : n < length list
    enter-room = omega (arith, x.walk.count, once-room (length list) (take n list) i x.walk.single (λ j m. (x.walk.low j m).1) x.room new)

    pub enter-small : n < 1024
    enter-small = omega (arith, x.walk.count, once-room 1024 (take n list) i x.walk.single (λ j m. (x.walk.low j m).0) enter-macro new)

    front-is : take (n + 1) (set list n i) ≡ take n list ++ (i ∷ [])
    front-is = rw (add-one n) (take-suc-set list n i enter-room)

    marked_more : (j : ℕ) → j < 1024 → get_or (set marks i true) j false ≡ member j (take n list ++ (i ∷ []))
    marked_more j l =
        rw (member-append j (take n list) (i ∷ []))
        (by-test (eqb j i)
        (λ e. rw (e, or-true (member j (take n list)), eqb-true j i e) (get_or-set_same marks i true false (rw x.walk.wide enter-macro)))
        (λ e. rw (e, get_or-set_other marks i j true false (eqb-false j i e), x.walk.marked j l) (sym (or-false (member j (take n list))))))

    walk_more : Walk (take n list ++ (i ∷ [])) (set list n i) (set list n i) (set marks i true) (n + 1)
    walk_more =
        let long : n + 1 ≡ length (take n list ++ (i ∷ [])) = omega (arith, x.walk.count, length-append (take n list) (i ∷ [])) in
        record {
          count = long;
          written = sym (ap (λ (l : List ℕ). l ++ drop (n + 1) (set list n i)) (sym front-is) ∙ take-append-drop (n + 1) (set list n i)) ∙ ap (λ (k : ℕ). (take n list ++ (i ∷ [])) ++ drop k (set list n i)) long;
          fits = rw (length-set list n i) (omega (arith, enter-room));
          wide = length-set marks i true ∙ x.walk.wide;
          marked = marked_more;
          single = once_more (take n list) i x.walk.single new;
          low = λ j m. rw (length-set list n i) (⊎_elim (x.walk.low j) (λ e. rw (eqb-true j i e) (enter-macro, x.room)) (member-last j (take n list) i m));
        }

    closed-first : Closed (macros_in b) i (take n list ++ (i ∷ []))
    closed-first p q l m r =
        let other : eqb p i ≡ true → member p (take n list) ≡ true = λ e. absurd (omega (arith, eqb-true p i e)) in
        let old : member q (take n list) ≡ true = x.closed p q (omega arith) (⊎_elim (λ o. o) other (member-last p (take n list) i m)) r in
        rw (member-append q (take n list) (i ∷ [])) (or_left (member q (take n list)) (member q (i ∷ [])) old)

    -- then it is listed, and its items come next
    pub enter-items : WalkAt i b offsets i (n + 1) (set marks i true) (set list n i)
    enter-items =
        record {
          place = x.place;
          room = rw (length-set list n i) x.room;
          walk = rw front-is walk_more;
          closed = rw front-is closed-first;
        }

    -- what they enter is what it enters
    pub enter-left : {after : List ℕ} {made : List Bool} {r : ℕ} → Walk (extend (take (n + 1) (set list n i)) (called_by (macros_in b) i)) (set list n i) after made r → Walk (extend (take n list) (entries (macros_in b) i)) list after made r
    enter-left {after} {made} {r} v =
        let L = take n list in
        let whole : extend (L ++ (i ∷ [])) (called_by (macros_in b) i) ≡ extend L (entries (macros_in b) i) = sym (extend-new L i (called_by (macros_in b) i) new) ∙ ap (extend L) (sym (entries-law (macros_in b) well i)) in
        let done : Walk (extend L (entries (macros_in b) i)) (set list n i) after made r = rw (front-is, whole) at v in
        let long = extend-longer (L ++ (i ∷ [])) (called_by (macros_in b) i) in
        let behind : n < length (extend L (entries (macros_in b) i)) = rw (← whole) (omega (arith, long, length-append L (i ∷ []), x.walk.count)) in
        walk-under list done (length-set list n i) (drop-set-lt (length (extend L (entries (macros_in b) i))) list n i behind)

-- The turns of the loop over a macro's items.
module _ {b offsets : List ℕ} {i n : ℕ} {marks : List Bool} {list : List ℕ} (x : WalkAt i b offsets i n marks list) where
  abbrev ms : List Macro
  ms = macros_in b

  abbrev items : Macro
  items = get_or ms i []

  -- item k, as it is read
  item-is : (k : ℕ) {r s : Option Repeated} → r ≡ slice_get (decoded (items_from b offsets i)) k → r ≡ s → slice_get items k ≡ s
  item-is k e f = rw (items-are b offsets i x.place.table x.place.inside) at (sym e ∙ f)

  pub turn-first : Within ms i (take n list) list 0 list marks n
  turn-first =
      let none : listed_by ms i (take n list) 0 ≡ take n list = rw (unrolled-none, entries_of-none (λ j. entries ms j)) (extend-none (take n list)) in
      record { walk = rw none x.walk; closed = rw none x.closed }

  module _ {k : ℕ} {now : List ℕ} {made : List Bool} {listed : ℕ} (v : Within ms i (take n list) list k now made listed) where
    -- behind the last item
    ended : take k items ≡ items → Walk (extend (take n list) (called_by ms i)) list now made listed
    ended e = rw (← e) v.walk

    pub turn-end : {r : Option Repeated} → r ≡ slice_get (decoded (items_from b offsets i)) k → r ≡ None → Walk (extend (take n list) (called_by ms i)) list now made listed
    turn-end e f = ended (items-end items k (item-is k e f))

    pub turn-full : 64 ≤ k → Walk (extend (take n list) (called_by ms i)) list now made listed
    turn-full h = ended (take_all k items (omega (arith, well-short ms (well-in b x.place.inside) i)))

    module _ {r : Option Repeated} (e : r ≡ slice_get (decoded (items_from b offsets i)) k) {next : Repeated} (f : r ≡ Some next) where
      among : Memᴰ (repeated next.item next.times) items
      among = item-in items k (item-is k e f)

      more : take (k + 1) items ≡ take k items ++ (repeated next.item next.times ∷ [])
      more = item-more items k (item-is k e f)

      -- a key enters nothing
      pub turn-key : {c : ℕ} → next.item ≡ Key c → Within ms i (take n list) list (k + 1) now made listed
      turn-key {c} g =
          let same : listed_by ms i (take n list) (k + 1) ≡ listed_by ms i (take n list) k = rw (more, g) (ap (extend (take n list)) (entries_of-key (λ j. entries ms j) (take k items) next.times c)) in
          record { walk = rw same v.walk; closed = rw same v.closed }

      -- a call of a lower macro finds the walk as it must, and leaves it so
      module _ {j : ℕ} (g : next.item ≡ Call j) where
        pub turn-lower : j < i
        turn-lower = well-call ms (well-in b x.place.inside) i (rw g at among)

        pub turn-enters : WalkAt (j + 1) b offsets j listed made now
        turn-enters =
            record {
              place = record { table = x.place.table; inside = omega (arith, turn-lower, x.place.inside) };
              room = rw (walk-long v.walk) (omega (arith, turn-lower, x.room));
              walk = walk-found v.walk;
              closed = rw (walk-front v.walk) (λ p q h. v.closed p q (omega (arith, turn-lower)));
            }

        pub turn-call : {after : List ℕ} {most : List Bool} {t : ℕ} → Walk (extend (take listed now) (entries ms j)) now after most t → Within ms i (take n list) list (k + 1) after most t
        turn-call w =
            let well = well-in b x.place.inside in
            let front = take n list in
            let same : listed_by ms i front (k + 1) ≡ extend (listed_by ms i front k) (entries ms j) =
            rw (more, g) (ap (extend front) (entries_of-call (λ j. entries ms j) (take k items) next.times j) ∙ extend-append front (entries_of (λ j. entries ms j) (unrolled (take k items))) (times next.times (entries ms j)) ∙ extend-times (listed_by ms i front k) (entries ms j) next.times (well-times ms well i among)) in
            record {
              walk = rw same (walk-made v.walk (extend-longer (listed_by ms i front k) (entries ms j)) (rw (walk-front v.walk) at w));
              closed = rw same (closed-more ms well i (listed_by ms i front k) j v.closed);
            }

-- The whole walk.

-- nothing is listed yet
pub start-entering : (b offsets : List ℕ) (m : ℕ) (list : List ℕ) → MacroOf b offsets m → m < length list → WalkAt (m + 1) b offsets m 0 (replicate 1024 false) list
start-entering b offsets m list place room =
    record {
      place = place;
      room = room;
      walk = record {
        count = refl;
        written = refl;
        fits = omega arith;
        wide = length-replicate 1024 false;
        marked = λ j h. get_or-replicate 1024 j false false h;
        single = once-none;
        low = λ j h. torn false h refl;
      };
      closed = λ i j h l. torn false l refl;
    }

-- and in the end the reach list is
module _ (b : List ℕ) (m : ℕ) (list : List ℕ) {after : List ℕ} {marks : List Bool} {n : ℕ} (w : Walk (extend (take 0 list) (entries (macros_in b) m)) list after marks n) where
  pub whole-count : n ≡ length (reach_list (macros_in b) m)
  unfolding reach_list
  whole-count = rw (← (extend-firsts (entries (macros_in b) m))) w.count

  pub whole-written : after ≡ over (reach_list (macros_in b) m) list
  unfolding reach_list
  whole-written = rw (← (extend-firsts (entries (macros_in b) m))) w.written
