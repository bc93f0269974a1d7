-- What S-6 promises: figures of the run, 19 exactly for a run over the limit, closed blocks, books that are alike; and what a refusal leaves.
use Prim.Native.Nat.{ℕ, suc, ◌+◌, ◌-◌, ◌*◌, ◌<◌, ◌≤◌}
use native.Mathlib.Omega.{arith}
use mathlib.Core.Path.{◌≡◌, refl, sym, ap, ◌∙◌}
use mathlib.Core.Logic.{◌↔◌, ◌⊎◌, inl, inr, ⊎_elim}
use mathlib.Core.Bool.{Bool, true, false, ◌||◌, cond}
use mathlib.Core.List.{List, [], ◌++◌}
use lib.Dec.{eqb, ltb}
use lib.ListN.{length, take, drop, take-append-drop, length-append}
use lib.Seq.{take-append_seam, take-length}
use lib.IntN.{ℤ, pos, negsuc}
use lib.Signed.{le_z}
use borrow.Author.Tests.{le-leb, lt-leb, leb-true, leb-false, lt-ltb, le-ltb, ltb-true, ltb-false, eqb-true, eq-eqb}
use mir.Syntax.{w64}
use mir.Val.{to_z, of_z}
use Rattle.runs.specs.Keys.{Bytes}
use Rattle.runs.proofs.Tests.{clash, or-iff}
use Rattle.refusal.specs.declared.Refusal.{Refusal}
use Rattle.refusal.specs.Number.{number}
use Rattle.refusal.specs.declared.Refusal.TheVariants.{NoSuchMacro, InsufficientSpace, InvalidDelimiters, RunTooLong}
use Rattle.refusal.proofs.Number.{number-positive}
use Rattle.book.specs.Format.{Encodes, Macro, versions}
use Rattle.book.specs.Expansion.{expansion}
use Rattle.book.specs.Reach.{AlikeReached}
use Rattle.book.specs.Reading.{Reading, got, refused, read_book, version_in}
use Rattle.book.specs.Steps as steps
use Rattle.book.proofs.StepLaws.{space-answer}
use Rattle.book.proofs.LayoutLaws.{macros-few, read-with}
use Rattle.book.proofs.Coding.{encodes-book, read-encodes}
use Rattle.book.proofs.Refusals.{BookNumber, book-refusals}
use Rattle.book.proofs.Reach.{expansion-alike}
use Rattle.depth.specs.declared.unmatched.Unmatched.{Unmatched}
use Rattle.depth.specs.Depths.{occurrences, depth_after, lowest_depth, Closed}
use Rattle.depth.specs.Promises.{closings_in, openings_in}
use Rattle.depth.specs.Answer.{longest, is_short, word, width, most_words, filled, no_delimiter, delimiter_step, depths_of, depth_result, Outcome, stopped, finished}
use Rattle.depth.proofs.Differences.{sub-above, le_in, le_out}
use Rattle.depth.proofs.DepthLaws.{occurs-append, depth-none, lowest-depth, lowest-only}
use Rattle.depth.proofs.UnmatchedLaws.{run_short, run_small, end-openings, lowest-closings}
use Rattle.depth.proofs.CodeLaws.{bits_back}

-- Closed blocks, by the two depths of a run.
module _ (opening closing : ℕ) (w : List ℕ) where
  -- a depth of 0, and depths in order, by counts of keys
  at_zero : (u : List ℕ) → depth_after opening closing u ≡ pos 0 → occurrences opening u ≡ occurrences closing u
  unfolding depth_after
  at_zero u e =
      let o = occurrences opening u in
      let c = occurrences closing u in
      omega (arith, le_out o c 0 0 (ap (λ (z : ℤ). le_z z (pos 0)) e), le_out 0 0 o c (ap (le_z (pos 0)) e))

  level : (u : List ℕ) → occurrences opening u ≡ occurrences closing u → depth_after opening closing u ≡ pos 0
  unfolding depth_after
  level u e =
      let none : occurrences opening u - occurrences closing u ≡ 0 = omega arith in
      sub-above (occurrences opening u) (occurrences closing u) (omega arith) ∙ ap pos none

  depths-out : (u v : List ℕ) → le_z (depth_after opening closing u) (depth_after opening closing v) ≡ true → occurrences opening u + occurrences closing v ≤ occurrences opening v + occurrences closing u
  unfolding depth_after
  depths-out u v e = le_out (occurrences opening u) (occurrences closing u) (occurrences opening v) (occurrences closing v) e

  depths-in : (u v : List ℕ) → occurrences opening u + occurrences closing v ≤ occurrences opening v + occurrences closing u → le_z (depth_after opening closing u) (depth_after opening closing v) ≡ true
  unfolding depth_after
  depths-in u v h = le_in (occurrences opening u) (occurrences closing u) (occurrences opening v) (occurrences closing v) h

  none : occurrences opening [] + occurrences closing [] ≡ 0
  unfolding occurrences
  none = refl

  -- the lowest depth is not above that behind a first part
  under-part : (u v : List ℕ) → w ≡ u ++ v → le_z (lowest_depth opening closing w) (depth_after opening closing u) ≡ true
  under-part u v e =
      let part : take (length u) w ≡ u = ap (take (length u)) e ∙ take-append_seam u v in
      let short : length u ≤ length w = omega (arith, ap length e ∙ length-append u v) in
      ap (λ (x : List ℕ). le_z (lowest_depth opening closing w) (depth_after opening closing x)) (sym part) ∙ (lowest-depth opening closing w).under (length u) short

  -- no closing comes where no block is open exactly if the lowest depth is 0
  pub closings-opened : (lowest_depth opening closing w ≡ pos 0) ↔ ((u v : List ℕ) → w ≡ u ++ v → occurrences closing u ≤ occurrences opening u)
  closings-opened = (into, back)
    where
      into : lowest_depth opening closing w ≡ pos 0 → (u v : List ℕ) → w ≡ u ++ v → occurrences closing u ≤ occurrences opening u
      into low u v e =
          let start : le_z (depth_after opening closing []) (depth_after opening closing u) ≡ true = ap (λ (z : ℤ). le_z z (depth_after opening closing u)) (depth-none opening closing ∙ sym low) ∙ under-part u v e in
          omega (arith, depths-out [] u start, none)

      back : ((u v : List ℕ) → w ≡ u ++ v → occurrences closing u ≤ occurrences opening u) → lowest_depth opening closing w ≡ pos 0
      back all =
          sym (lowest-only opening closing w (pos 0)
          (record {
            place = 0;
            inside = omega arith;
            there = sym (depth-none opening closing);
            under = λ i h. let part = all (take i w) (drop i w) (sym (take-append-drop i w)) in ap (λ (z : ℤ). le_z z (depth_after opening closing (take i w))) (sym (depth-none opening closing)) ∙ depths-in [] (take i w) (omega (arith, part, none));
          }))

  -- no block is left open exactly if the run ends at its lowest depth
  pub openings-closed : (depth_after opening closing w ≡ lowest_depth opening closing w) ↔ ((u v : List ℕ) → w ≡ u ++ v → occurrences opening v ≤ occurrences closing v)
  openings-closed = (into, back)
    where
      counts : (k : ℕ) (u v : List ℕ) → w ≡ u ++ v → occurrences k w ≡ occurrences k u + occurrences k v
      counts k u v e = ap (occurrences k) e ∙ occurs-append k u v

      into : depth_after opening closing w ≡ lowest_depth opening closing w → (u v : List ℕ) → w ≡ u ++ v → occurrences opening v ≤ occurrences closing v
      into end u v e =
          let last : le_z (depth_after opening closing w) (depth_after opening closing u) ≡ true = ap (λ (z : ℤ). le_z z (depth_after opening closing u)) end ∙ under-part u v e in
          omega (arith, depths-out w u last, counts opening u v e, counts closing u v e)

      back : ((u v : List ℕ) → w ≡ u ++ v → occurrences opening v ≤ occurrences closing v) → depth_after opening closing w ≡ lowest_depth opening closing w
      back all =
          lowest-only opening closing w (depth_after opening closing w)
          (record {
            place = length w;
            inside = omega arith;
            there = ap (depth_after opening closing) (sym (take-length w));
            under = λ i h. let e = sym (take-append-drop i w) in depths-in w (take i w) (omega (arith, all (take i w) (drop i w) e, counts opening (take i w) (drop i w) e, counts closing (take i w) (drop i w) e));
          })

  -- end 0 and lowest 0: the blocks are closed, and of no other run
  pub closed-blocks : ((depth_after opening closing w ≡ pos 0) × (lowest_depth opening closing w ≡ pos 0)) ↔ Closed opening closing w
  closed-blocks = (
    λ (end, low). record { opened = closings-opened.0 low; balanced = at_zero w end },
    λ c. (level w c.balanced, closings-opened.1 c.opened),
  )

-- What is answered, case by case.
module _ (opening closing m : ℕ) (work : List ℕ) where
  pub depth-no-keys : (g : Reading (List Macro)) → delimiter_step opening closing ≡ steps.refused InvalidDelimiters → depth_result opening closing g m work ≡ stopped InvalidDelimiters work
  unfolding depth_result
  depth-no-keys g e = rw e refl

  module _ (e : delimiter_step opening closing ≡ steps.settled tt) where
    pub depth-refused-book : (r : Refusal) → depth_result opening closing (refused r) m work ≡ stopped r work
    unfolding depth_result
    depth-refused-book r = rw e refl

    pub depth-sound : (ms : List Macro) (rest : List ℕ) →
        depth_result opening closing (got ms rest) m work
        ≡ cond (ltb m (length ms)) (cond (ltb (length work) (suc m * width)) (stopped InsufficientSpace work) (depths_of opening closing (expansion ms m) (filled opening closing ms m work))) (stopped NoSuchMacro work)
    unfolding depth_result
    depth-sound ms rest = rw e (space-answer (λ r. stopped r work) (λ ms. depths_of opening closing (expansion ms m) (filled opening closing ms m work)) ms (length ms) m (suc m * width) (length work))

-- 18, or no refusal
pub delimiters-either : (opening closing : ℕ) → (delimiter_step opening closing ≡ steps.refused InvalidDelimiters) ⊎ (delimiter_step opening closing ≡ steps.settled tt)
unfolding delimiter_step
delimiters-either opening closing = go (eqb opening closing || (no_delimiter opening || no_delimiter closing))
  where
    go : (t : Bool) → (◌≡◌ {A = steps.Settled (Unit {0})} (cond t (steps.refused InvalidDelimiters) (steps.settled tt)) (steps.refused InvalidDelimiters)) ⊎ (◌≡◌ {A = steps.Settled (Unit {0})} (cond t (steps.refused InvalidDelimiters) (steps.settled tt)) (steps.settled tt))
    go true = inl refl
    go false = inr refl

-- "the two keys are equal, or one is 0 or 10"
abbrev pub BadKeys : ℕ → ℕ → Type 0
BadKeys opening closing = (opening ≡ closing) ⊎ (((opening ≡ 0) ⊎ (opening ≡ 10)) ⊎ ((closing ≡ 0) ⊎ (closing ≡ 10)))

equal-iff : (a b : ℕ) → (eqb a b ≡ true) ↔ (a ≡ b)
equal-iff a b = (eqb-true a b, eq-eqb a b)

pub bad-keys : (opening closing : ℕ) → (delimiter_step opening closing ≡ steps.refused InvalidDelimiters) ↔ BadKeys opening closing
unfolding delimiter_step
bad-keys opening closing = (λ e. told.0 (refuses _ e), λ k. rw (told.1 k) refl)
  where
    none-iff : (k : ℕ) → (no_delimiter k ≡ true) ↔ ((k ≡ 0) ⊎ (k ≡ 10))
    none-iff k = or-iff (eqb k 0) (eqb k 10) (equal-iff k 0) (equal-iff k 10)

    told : (eqb opening closing || (no_delimiter opening || no_delimiter closing) ≡ true) ↔ BadKeys opening closing
    told = or-iff (eqb opening closing) (no_delimiter opening || no_delimiter closing) (equal-iff opening closing) (or-iff (no_delimiter opening) (no_delimiter closing) (none-iff opening) (none-iff closing))

    refuses : (t : Bool) → ◌≡◌ {A = steps.Settled (Unit {0})} (cond t (steps.refused InvalidDelimiters) (steps.settled tt)) (steps.refused InvalidDelimiters) → t ≡ true
    refuses true e = refl
    refuses false e = clash (cc)

-- Two keys that can open and close blocks, a sound book, a macro of it and words enough.
pub record Askable (opening closing : ℕ) (b : List ℕ) (m : ℕ) (work : List ℕ) (ms : List Macro) : Type 0 where
  pub keys : BadKeys opening closing → ⊥
  pub version : ℕ
  pub book : Encodes versions b version ms
  pub inside : m < length ms
  pub room : suc m * width ≤ length work

-- the same as the steps find it
record Passed (opening closing : ℕ) (b : List ℕ) (m : ℕ) (work : List ℕ) (ms : List Macro) : Type 0 where
  keys : delimiter_step opening closing ≡ steps.settled tt
  rest : List ℕ
  sound : read_book b ≡ got ms rest
  inside : m < length ms
  room : suc m * width ≤ length work

module _ {opening closing : ℕ} {b : List ℕ} {m : ℕ} {work : List ℕ} {ms : List Macro} where
  passed : Askable opening closing b m work ms → Passed opening closing b m work ms
  passed x =
      record {
        keys = ⊎_elim (λ e. absurd (x.keys ((bad-keys opening closing).0 e))) (λ e. e) (delimiters-either opening closing);
        rest = [];
        sound = encodes-book x.book;
        inside = x.inside;
        room = x.room;
      }

  askable : Bytes b → Passed opening closing b m work ms → Askable opening closing b m work ms
  askable h x =
      record {
        keys = λ k. settled-no (sym x.keys ∙ (bad-keys opening closing).1 k);
        version = version_in b;
        book = read-encodes versions b h ms x.rest (read-with b x.sound);
        inside = x.inside;
        room = x.room;
      }
    where
      settled-no : ◌≡◌ {A = steps.Settled (Unit {0})} (steps.settled tt) (steps.refused InvalidDelimiters) → ⊥
      settled-no e = clash (cc)

module _ {opening closing : ℕ} {b : List ℕ} {m : ℕ} {work : List ℕ} {ms : List Macro} (x : Askable opening closing b m work ms) where
  pub depth-asked : depth_result opening closing (read_book b) m work ≡ depths_of opening closing (expansion ms m) (filled opening closing ms m work)
  depth-asked =
      let p = passed x in
      ap (λ (g : Reading (List Macro)). depth_result opening closing g m work) p.sound
      ∙ depth-sound opening closing m work p.keys ms p.rest
      ∙ rw (lt-ltb m (length ms) x.inside, le-ltb (length work) (suc m * width) x.room) refl

  -- "Both figures equal those of the written-out run"; exactly 2^62 keys are allowed
  pub depth-figures : length (expansion ms m) ≤ longest
      → depth_result opening closing (read_book b) m work ≡ finished (depth_after opening closing (expansion ms m)) (lowest_depth opening closing (expansion ms m)) (filled opening closing ms m work)
  unfolding depths_of
  depth-figures h = depth-asked ∙ rw (le-leb (length (expansion ms m)) longest h) refl

  -- "19 the macro's run is longer than 2^62 keys", with zeros and the words written
  pub depth-too-long : longest < length (expansion ms m) → depth_result opening closing (read_book b) m work ≡ stopped RunTooLong (filled opening closing ms m work)
  unfolding depths_of
  depth-too-long h = depth-asked ∙ rw (lt-leb (length (expansion ms m)) longest h) refl

  -- and nothing else is refused
  pub too-long-iff : (0 < (depth_result opening closing (read_book b) m work).refusal) ↔ (longest < length (expansion ms m))
  too-long-iff = (λ e. go (is_short (expansion ms m)) refl e, λ h. rw (depth-too-long h) (omega arith))
    where
      go : (t : Bool) → is_short (expansion ms m) ≡ t → 0 < (depth_result opening closing (read_book b) m work).refusal → longest < length (expansion ms m)
      go true f e =
          let fine : (depth_result opening closing (read_book b) m work).refusal ≡ 0 = ap (λ (o : Outcome). o.refusal) (depth-figures (leb-true (length (expansion ms m)) longest f)) in
          absurd (omega arith)
      go false f e = leb-false (length (expansion ms m)) longest f

  -- an answer of 0 and 0 says that the blocks of the run are closed, and no other answer does
  pub closed-answer : (((depth_result opening closing (read_book b) m work).refusal ≡ 0) × ((depth_result opening closing (read_book b) m work).end ≡ pos 0) × ((depth_result opening closing (read_book b) m work).lowest ≡ pos 0))
      ↔ ((length (expansion ms m) ≤ longest) × Closed opening closing (expansion ms m))
  closed-answer = (into, λ (h, c). let both = (closed-blocks opening closing (expansion ms m)).1 c in rw (depth-figures h) (refl, both.0, both.1))
    where
      go : (t : Bool) → is_short (expansion ms m) ≡ t → (depth_result opening closing (read_book b) m work).refusal ≡ 0 → length (expansion ms m) ≤ longest
      go true f e = leb-true (length (expansion ms m)) longest f
      go false f e =
          let over : (depth_result opening closing (read_book b) m work).refusal ≡ 19 = ap (λ (o : Outcome). o.refusal) (depth-too-long (leb-false (length (expansion ms m)) longest f)) in
          absurd (omega arith)

      into : ((depth_result opening closing (read_book b) m work).refusal ≡ 0) × ((depth_result opening closing (read_book b) m work).end ≡ pos 0) × ((depth_result opening closing (read_book b) m work).lowest ≡ pos 0) → (length (expansion ms m) ≤ longest) × Closed opening closing (expansion ms m)
      into (fine, end, low) =
          let h = go (is_short (expansion ms m)) refl fine in
          let told = depth-figures h in
          (h, (closed-blocks opening closing (expansion ms m)).0 (sym (ap (λ (o : Outcome). o.end) told) ∙ end, sym (ap (λ (o : Outcome). o.lowest) told) ∙ low))

-- the same answer, whatever the words hold
abbrev pub SameDepths : Outcome → Outcome → Type 0
SameDepths x y = (x.refusal ≡ y.refusal) × (x.end ≡ y.end) × (x.lowest ≡ y.lowest)

-- macros with one run, in whatever books, have the same figures
pub same_depths : {opening closing : ℕ} {b c : List ℕ} {m n : ℕ} {work space : List ℕ} {ms ns : List Macro} → Askable opening closing b m work ms → Askable opening closing c n space ns
    → expansion ms m ≡ expansion ns n → SameDepths (depth_result opening closing (read_book b) m work) (depth_result opening closing (read_book c) n space)
unfolding depths_of
same_depths {opening} {closing} {b} {c} {m} {n} {work} {space} {ms} {ns} x y e = rw (depth-asked x, depth-asked y, e) (go (is_short (expansion ns n)))
  where
    go : (t : Bool) → SameDepths (cond t (finished (depth_after opening closing (expansion ns n)) (lowest_depth opening closing (expansion ns n)) (filled opening closing ms m work)) (stopped RunTooLong (filled opening closing ms m work)))
        (cond t (finished (depth_after opening closing (expansion ns n)) (lowest_depth opening closing (expansion ns n)) (filled opening closing ns n space)) (stopped RunTooLong (filled opening closing ns n space)))
    go true = (refl, refl, refl)
    go false = (refl, refl, refl)

-- so have two sound books "alike in every macro that the one named reaches"
pub depth-alike : {opening closing : ℕ} {b c : List ℕ} {m : ℕ} {work space : List ℕ} {ms ns : List Macro} → Askable opening closing b m work ms → Askable opening closing c m space ns
    → AlikeReached ms ns m → SameDepths (depth_result opening closing (read_book b) m work) (depth_result opening closing (read_book c) m space)
depth-alike {m = m} {ms = ms} {ns = ns} x y alike = same_depths x y (expansion-alike ms ns m alike)

-- What a refusal leaves: zeros, and the words as they were but for 19.
module _ (opening closing m : ℕ) (work : List ℕ) where
  abbrev Left : Outcome → Type 0
  Left o = 0 < o.refusal → (o.end ≡ pos 0) × (o.lowest ≡ pos 0) × ((o.refusal ≡ 19 → ⊥) → o.work ≡ work)

  left-with : (x y z : Bool) (end lowest : ℤ) (v : List ℕ) → Left (cond x (cond y (stopped InsufficientSpace work) (cond z (finished end lowest v) (stopped RunTooLong v))) (stopped NoSuchMacro work))
  left-with true true z end lowest v h = (refl, refl, λ e. refl)
  left-with true false true end lowest v h = absurd (omega arith)
  left-with true false false end lowest v h = (refl, refl, λ e. absurd (e refl))
  left-with false y z end lowest v h = (refl, refl, λ e. refl)

  pub depth-left : (g : Reading (List Macro)) → Left (depth_result opening closing g m work)
  unfolding depths_of
  depth-left g = ⊎_elim (λ e. rw (depth-no-keys opening closing m work g e) (λ h. (refl, refl, λ e. refl))) (λ e. of e g) (delimiters-either opening closing)
    where
      of : delimiter_step opening closing ≡ steps.settled tt → (g : Reading (List Macro)) → Left (depth_result opening closing g m work)
      of e (refused r) = rw (depth-refused-book opening closing m work e r) (λ h. (refl, refl, λ e. refl))
      of e (got ms rest) =
          rw (depth-sound opening closing m work e ms rest)
          (left-with (ltb m (length ms)) (ltb (length work) (suc m * width)) (is_short (expansion ms m)) (depth_after opening closing (expansion ms m)) (lowest_depth opening closing (expansion ms m)) (filled opening closing ms m work))

-- No book has a macro from 1,024 on: all such numbers are refused alike.
pub depth-beyond : (opening closing : ℕ) (b : List ℕ) (m n : ℕ) (work : List ℕ) → 1024 ≤ m → 1024 ≤ n → depth_result opening closing (read_book b) m work ≡ depth_result opening closing (read_book b) n work
depth-beyond opening closing b m n work g h = ⊎_elim (λ e. depth-no-keys opening closing m work (read_book b) e ∙ sym (depth-no-keys opening closing n work (read_book b) e)) (λ e. of e (read_book b) refl) (delimiters-either opening closing)
  where
    of : delimiter_step opening closing ≡ steps.settled tt → (r : Reading (List Macro)) → read_book b ≡ r → depth_result opening closing r m work ≡ depth_result opening closing r n work
    of e (refused r) d = depth-refused-book opening closing m work e r ∙ sym (depth-refused-book opening closing n work e r)
    of e (got ms rest) d =
        let few : length ms ≤ 1024 = rw d at (macros-few b) in
        rw (depth-sound opening closing m work e ms rest, depth-sound opening closing n work e ms rest, le-ltb m (length ms) (omega arith), le-ltb n (length ms) (omega arith)) refl

-- Which refusal is answered: one of the four kinds before 19, or what the run's length says.
module _ (opening closing : ℕ) (b : List ℕ) (m : ℕ) (work : List ℕ) where
  refusal-by : (P : ℕ → Type 0) → (delimiter_step opening closing ≡ steps.refused InvalidDelimiters → P 18) → ((r : Refusal) → BookNumber (number r) → P (number r)) → P 10 → (length work < most_words → P 11)
      → ((ms : List Macro) → Passed opening closing b m work ms → P (depths_of opening closing (expansion ms m) (filled opening closing ms m work)).refusal) → P (depth_result opening closing (read_book b) m work).refusal
  refusal-by P keys book out short asked = ⊎_elim (λ e. rw (depth-no-keys opening closing m work (read_book b) e) (keys e)) (λ e. of e (read_book b) refl) (delimiters-either opening closing)
    where
      of : delimiter_step opening closing ≡ steps.settled tt → (g : Reading (List Macro)) → read_book b ≡ g → P (depth_result opening closing g m work).refusal
      of e (refused r) d = rw (depth-refused-book opening closing m work e r) (book r (book-refusals b r d))
      of e (got ms rest) d = rw (depth-sound opening closing m work e ms rest) (go (ltb m (length ms)) (ltb (length work) (suc m * width)) refl refl)
        where
          few : length ms ≤ 1024
          few = rw d at (macros-few b)

          go : (x y : Bool) → ltb m (length ms) ≡ x → ltb (length work) (suc m * width) ≡ y
              → P (cond x (cond y (stopped InsufficientSpace work) (depths_of opening closing (expansion ms m) (filled opening closing ms m work))) (stopped NoSuchMacro work)).refusal
          go true true f g = let inside = ltb-true m (length ms) f in let less = ltb-true (length work) (suc m * width) g in short (omega (arith, few))
          go true false f g = asked ms (record { keys = e; rest = rest; sound = d; inside = ltb-true m (length ms) f; room = ltb-false (length work) (suc m * width) g })
          go false y f g = out

  length-by : (P : ℕ → Type 0) → P 0 → P 19 → (ms : List Macro) → P (depths_of opening closing (expansion ms m) (filled opening closing ms m work)).refusal
  unfolding depths_of
  length-by P fine long ms = go (is_short (expansion ms m))
    where
      go : (t : Bool) → P (cond t (finished (depth_after opening closing (expansion ms m)) (lowest_depth opening closing (expansion ms m)) (filled opening closing ms m work)) (stopped RunTooLong (filled opening closing ms m work))).refusal
      go true = fine
      go false = long

  -- 18 exactly for such keys
  pub keys-iff : ((depth_result opening closing (read_book b) m work).refusal ≡ 18) ↔ BadKeys opening closing
  keys-iff = (
    refusal-by (λ n. n ≡ 18 → BadKeys opening closing) (λ e h. (bad-keys opening closing).0 e) (λ r h e. ⊎_elim (λ low. absurd (omega arith)) (λ high. absurd (omega arith)) h) (λ e. absurd (omega arith)) (λ h e. absurd (omega arith)) (λ ms x. length-by (λ n. n ≡ 18 → BadKeys opening closing) (λ e. absurd (omega arith)) (λ e. absurd (omega arith)) ms),
    λ k. ap (λ (o : Outcome). o.refusal) (depth-no-keys opening closing m work (read_book b) ((bad-keys opening closing).1 k)),
  )

  -- depths and 19 are answered where nothing before 19 is refused, and nowhere else
  pub answered-asked : Bytes b → ((depth_result opening closing (read_book b) m work).refusal ≡ 0) ⊎ ((depth_result opening closing (read_book b) m work).refusal ≡ 19) → (ms : List Macro) × Askable opening closing b m work ms
  answered-asked h =
      refusal-by (λ n. (n ≡ 0) ⊎ (n ≡ 19) → (ms : List Macro) × Askable opening closing b m work ms) (λ e. ⊎_elim (λ z. absurd (omega arith)) (λ z. absurd (omega arith))) small
      (⊎_elim (λ z. absurd (omega arith)) (λ z. absurd (omega arith)))
      (λ l. ⊎_elim (λ z. absurd (omega arith)) (λ z. absurd (omega arith)))
      (λ ms x z. (ms, askable h x))
    where
      small : (r : Refusal) → BookNumber (number r) → (number r ≡ 0) ⊎ (number r ≡ 19) → (ms : List Macro) × Askable opening closing b m work ms
      small r l = ⊎_elim (λ z. absurd (omega (arith, number-positive r))) (λ z. ⊎_elim (λ low. absurd (omega arith)) (λ high. absurd (omega arith)) l)

  -- so an answer of 0 and 0 that is no refusal says by itself that this is a sound book with a macro m, and that the blocks of its run are closed
  pub closed-told : Bytes b → (depth_result opening closing (read_book b) m work).refusal ≡ 0 → (depth_result opening closing (read_book b) m work).end ≡ pos 0 → (depth_result opening closing (read_book b) m work).lowest ≡ pos 0
      → (ms : List Macro) × Askable opening closing b m work ms × Closed opening closing (expansion ms m)
  closed-told h fine end low =
      let (ms, x) = answered-asked h (inl fine) in
      (ms, x, ((closed-answer x).0 (fine, end, low)).1)

-- a refusal that an operation with words for 1,024 macros can have: 11 is none
abbrev pub KnownRefusal : ℕ → Type 0
KnownRefusal n = (BookNumber n ⊎ (n ≡ 10)) ⊎ ((n ≡ 18) ⊎ (n ≡ 19))

pub depth-refusals : (opening closing : ℕ) (b : List ℕ) (m : ℕ) (work : List ℕ) → most_words ≤ length work → KnownRefusal (depth_result opening closing (read_book b) m work).refusal
depth-refusals opening closing b m work long =
    refusal-by opening closing b m work KnownRefusal (λ e. inr (inl refl)) (λ r h. inl (inl h)) (inl (inr refl)) (λ h. absurd (omega arith)) (λ ms x. length-by opening closing b m work KnownRefusal (inl (inl (inl (omega arith)))) (inr (inr refl)) ms)

-- The words of a macro's depths, read as signed numbers, are the depths: `word` is how a signed number is held.
word-bits : (z : ℤ) → word z ≡ of_z w64 z
word-bits (pos n) = refl
word-bits (negsuc n) = refl

pub words-read : (opening closing : ℕ) (w : List ℕ) → is_short w ≡ true → (to_z w64 (word (depth_after opening closing w)) ≡ depth_after opening closing w) × (to_z w64 (word (lowest_depth opening closing w)) ≡ lowest_depth opening closing w)
words-read opening closing w e =
    let fits = run_small opening closing w in
    let kept = run_short opening closing w e in
    let c = ap (λ (u : Unmatched). u.closings) kept in
    let o = ap (λ (u : Unmatched). u.openings) kept in
    let end = bits_back (openings_in opening closing w) (closings_in opening closing w) (omega (arith, fits.1, o)) (omega (arith, fits.0, c)) (end-openings opening closing w) ∙ sym (end-openings opening closing w) in
    let low = bits_back 0 (closings_in opening closing w) (omega arith) (omega (arith, fits.0, c)) (lowest-closings opening closing w) ∙ sym (lowest-closings opening closing w) in
    (ap (to_z w64) (word-bits (depth_after opening closing w)) ∙ end, ap (to_z w64) (word-bits (lowest_depth opening closing w)) ∙ low)
