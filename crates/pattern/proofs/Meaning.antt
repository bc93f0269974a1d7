-- The test of a match says what the meaning says.
use Prim.Native.Nat.{ℕ, zero, suc, ◌<◌}
use native.Mathlib.Omega.{arith}
use mathlib.Core.Path.{◌≡◌, refl, sym, ap, ◌∙◌}
use mathlib.Core.Logic.{⊎_elim, ◌↔◌}
use mathlib.Core.Bool.{Bool, true, false, ◌&&◌, cond, and-eq-true_iff, false≢true}
use mathlib.Core.List.{List, [], ◌∷◌, ◌++◌}
use mathlib.Core.Option.{Option, none, some}
use lib.Dec.{ltb}
use lib.ListN.{length}
use borrow.Author.Tests.{ltb-true, ltb-false}
use Rattle.brackets.specs.Sets.{Sets}
use Rattle.pattern.specs.Meaning.{Query, TakesPieces, MatchesBranch, Matches, repeated, takes, takes_pieces, allowed, matches_from, matches_branch, some_matches, matches}
use Rattle.pattern.specs.Meaning.Matches.{here, later}
use Rattle.pattern.proofs.Leaves.{Leaves, leaves-takes, takes-leaves, leaves-same, plus-star, star-cases}
use Rattle.pattern.proofs.Leaves.Leaves.{key, after, inside, left, right, never, once, more, absent, present}
use Rattle.runs.proofs.Tests.{or_cases, or_left, or_right}
use Rattle.pattern.specs.Form.{Expr, atom, group, star, plus, opt, seq, alt, Branch, Pattern}

-- e takes a first part of w, and what is left will do
pub record Does (S : Sets) (e : Expr) (rest : List ℕ → Bool) (w : List ℕ) : Type 0 where
  pub left_over : List ℕ
  pub leaves : Leaves S e w left_over
  pub will-do : rest left_over ≡ true

-- the pieces of a branch take a first part of w, and what is left will do
record DoPieces (S : Sets) (p : Option Expr) (rest : List ℕ → Bool) (w : List ℕ) : Type 0 where
  part : List ℕ
  behind : List ℕ
  whole : w ≡ part ++ behind
  taken : TakesPieces S p part
  will-do : rest behind ≡ true

-- behind a `$` nothing is left
allowed-end : (e : Bool) (v : List ℕ) → allowed e v ≡ true → e ≡ true → v ≡ []
allowed-end true [] h s = refl
allowed-end true (k ∷ v) h s = absurd (false≢true h)
allowed-end false v h s = absurd (false≢true s)

-- and where nothing is left, a `$` will do
end-allowed : (e : Bool) (v : List ℕ) → (e ≡ true → v ≡ []) → allowed e v ≡ true
end-allowed true v f = rw (f refl)
end-allowed false v f = refl

module _ (S : Sets) where
  -- what leaves the same as p does what p does
  alike : {p e : Expr} {rest : List ℕ → Bool} {w : List ℕ} → Does S p rest w → ((v : List ℕ) → Leaves S p w v → Leaves S e w v) → Does S e rest w
  alike d f = record { left_over = d.left_over; leaves = f d.left_over d.leaves; will-do = d.will-do }

  -- the test of e is sound
  abbrev Sound : Expr → Type 0
  Sound e = (rest : List ℕ → Bool) (w : List ℕ) → takes S e rest w ≡ true → Does S e rest w

  -- so it is for once or more
  repeated-sound : (e : Expr) → Sound e → (rest : List ℕ → Bool) (n : ℕ) (w : List ℕ) → repeated (takes S e) rest n w ≡ true → Does S (plus e) rest w
  unfolding repeated
  repeated-sound e s rest zero w h = absurd (false≢true h)
  repeated-sound e s rest (suc n) w h =
      let d = s _ w h in
      let v = d.left_over in
      ⊎_elim
      (λ r. record { left_over = v; leaves = once d.leaves; will-do = r })
      (λ r. again-sound d (repeated-sound e s rest n v ((and-eq-true_iff (ltb (length v) (length w)) (repeated (takes S e) rest n v)).0 r).1))
      (or_cases (rest v) (ltb (length v) (length w) && repeated (takes S e) rest n v) d.will-do)
    where
      again-sound : {f : List ℕ → Bool} (d : Does S e f w) → Does S (plus e) rest d.left_over → Does S (plus e) rest w
      again-sound d t = record { left_over = t.left_over; leaves = more d.leaves t.leaves; will-do = t.will-do }

  -- what the test finds is taken, and what is left will do
  pub takes-sound : (e : Expr) (rest : List ℕ → Bool) (w : List ℕ) → takes S e rest w ≡ true → Does S e rest w
  unfolding takes
  takes-sound (atom a) rest [] h = absurd (false≢true h)
  takes-sound (atom a) rest (k ∷ w) h =
      let p = (and-eq-true_iff (S a k) (rest w)).0 h in
      record { left_over = w; leaves = key p.0; will-do = p.1 }
  takes-sound (group e) rest w h = alike (takes-sound e rest w h) (λ v l. inside l)
  takes-sound (star e) rest w h =
      ⊎_elim
      (λ d. record { left_over = w; leaves = never; will-do = d })
      (λ r. alike (repeated-sound e (λ f x i. takes-sound e f x i) rest (suc (length w)) w r) (λ v l. plus-star l))
      (or_cases (rest w) (repeated (takes S e) rest (suc (length w)) w) h)
  takes-sound (plus e) rest w h = repeated-sound e (λ f x i. takes-sound e f x i) rest (suc (length w)) w h
  takes-sound (opt e) rest w h =
      ⊎_elim
      (λ d. record { left_over = w; leaves = absent; will-do = d })
      (λ r. alike (takes-sound e rest w r) (λ v l. present l))
      (or_cases (rest w) (takes S e rest w) h)
  takes-sound (seq p q) rest w h =
      let c = takes-sound p (takes S q rest) w h in
      let d = takes-sound q rest c.left_over c.will-do in
      record { left_over = d.left_over; leaves = after c.leaves d.leaves; will-do = d.will-do }
  takes-sound (alt p q) rest w h =
      ⊎_elim
      (λ r. alike (takes-sound p rest w r) (λ v l. left l))
      (λ r. alike (takes-sound q rest w r) (λ v l. right l))
      (or_cases (takes S p rest w) (takes S q rest w) h)

  -- the test of e is complete
  abbrev Complete : Expr → Type 0
  Complete e = (rest : List ℕ → Bool) (w v : List ℕ) → Leaves S e w v → rest v ≡ true → takes S e rest w ≡ true

  -- so it is for once or more, where the bound is greater than the line's length: a turn that takes nothing is passed over
  repeated-complete : (e : Expr) → Complete e → (rest : List ℕ → Bool) {w v : List ℕ} → Leaves S (plus e) w v → rest v ≡ true → (n : ℕ) → length w < n → repeated (takes S e) rest n w ≡ true
  unfolding repeated
  repeated-complete e c rest (once l) h zero b = absurd (omega arith)
  repeated-complete e c rest (more l m) h zero b = absurd (omega arith)
  repeated-complete e c rest (once {w} {v} l) h (suc n) b = c _ w v l (or_left (rest v) (ltb (length v) (length w) && repeated (takes S e) rest n v) h)
  repeated-complete e c rest (more {w} {x} {v} l m) h (suc n) b =
      go (λ k d. repeated-complete e c rest m h k d) (ltb (length x) (length w)) refl
    where
      go : ((k : ℕ) → length x < k → repeated (takes S e) rest k x ≡ true) → (t : Bool) → ltb (length x) (length w) ≡ t → repeated (takes S e) rest (suc n) w ≡ true
      go r true s =
          let d : length x < n = omega (arith, ltb-true (length x) (length w) s) in
          c _ w x l (or_right (rest x) (ltb (length x) (length w) && repeated (takes S e) rest n x) (rw s (r n d)))
      go r false s =
          let i : w ≡ x = leaves-same l (ltb-false (length x) (length w) s) in
          rw (← i) at (r (suc n) (omega (arith, ap length i)))

  -- and what is taken the test finds, where what is left will do
  pub takes-complete : (e : Expr) (rest : List ℕ → Bool) (w v : List ℕ) → Leaves S e w v → rest v ≡ true → takes S e rest w ≡ true
  unfolding takes
  takes-complete (atom a) rest w v (key {k} i) h = (and-eq-true_iff (S a k) (rest v)).1 (i, h)
  takes-complete (group e) rest w v (inside l) h = takes-complete e rest w v l h
  takes-complete (star e) rest w v l h =
      ⊎_elim
      (λ s. or_left (rest w) (repeated (takes S e) rest (suc (length w)) w) (rw s h))
      (λ m. or_right (rest w) (repeated (takes S e) rest (suc (length w)) w) (repeated-complete e (λ f x y k i. takes-complete e f x y k i) rest m h (suc (length w)) (omega arith)))
      (star-cases l)
  takes-complete (plus e) rest w v l h = repeated-complete e (λ f x y k i. takes-complete e f x y k i) rest l h (suc (length w)) (omega arith)
  takes-complete (opt e) rest w v absent h = or_left (rest w) (takes S e rest w) h
  takes-complete (opt e) rest w v (present l) h = or_right (rest w) (takes S e rest w) (takes-complete e rest w v l h)
  takes-complete (seq p q) rest w v (after {x} l m) h = takes-complete p (takes S q rest) w x l (takes-complete q rest x v m h)
  takes-complete (alt p q) rest w v (left l) h = or_left (takes S p rest w) (takes S q rest w) (takes-complete p rest w v l h)
  takes-complete (alt p q) rest w v (right l) h = or_right (takes S p rest w) (takes S q rest w) (takes-complete q rest w v l h)

  -- so the test says whether e takes a first part and what is left will do
  pub takes-iff : (e : Expr) (rest : List ℕ → Bool) (w : List ℕ) → (takes S e rest w ≡ true) ↔ Does S e rest w
  takes-iff e rest w = (takes-sound e rest w, λ d. takes-complete e rest w d.left_over d.leaves d.will-do)

  -- where the test of pieces says so, they do
  pieces-sound : (p : Option Expr) (rest : List ℕ → Bool) (w : List ℕ) → takes_pieces S p rest w ≡ true → DoPieces S p rest w
  pieces-sound none rest w h = record { part = []; behind = w; whole = refl; taken = refl; will-do = h }
  pieces-sound (some e) rest w h =
      let d = takes-sound e rest w h in
      let c = leaves-takes d.leaves in
      record { part = c.part; behind = d.left_over; whole = c.whole; taken = c.taken; will-do = d.will-do }

  -- and where they do, the test says so
  pieces-complete : (p : Option Expr) (rest : List ℕ → Bool) (u v : List ℕ) → TakesPieces S p u → rest v ≡ true → takes_pieces S p rest (u ++ v) ≡ true
  pieces-complete none rest u v t h = rw t h
  pieces-complete (some e) rest u v t h = takes-complete e rest (u ++ v) v (takes-leaves t v) h

  module _ (b : Branch) where
    -- the test of b from one place of the line
    abbrev At : List ℕ → Type 0
    At w = takes_pieces S b.pieces (allowed b.end) w ≡ true

    -- a branch that the test finds behind `before` matches
    at-sound : (before w line : List ℕ) → line ≡ before ++ w → (b.start ≡ true → before ≡ []) → At w → MatchesBranch S b line
    at-sound before w line s f h =
        let d = pieces-sound b.pieces (allowed b.end) w h in
        record {
          before = before;
          part = d.part;
          behind = d.behind;
          whole = s ∙ ap (λ (l : List ℕ). before ++ l) d.whole;
          taken = d.taken;
          from_start = f;
          to_end = allowed-end b.end d.behind d.will-do;
        }

    -- the place where the test finds it
    from-sound : (w : List ℕ) → matches_from S b w ≡ true → (before x : List ℕ) × (w ≡ before ++ x) × At x
    unfolding matches_from
    from-sound [] h = ([], [], refl, h)
    from-sound (k ∷ w) h =
        ⊎_elim
        (λ i. ([], k ∷ w, refl, i))
        (λ i. let r = from-sound w i in (k ∷ r.0, r.1, ap (λ (l : List ℕ). k ∷ l) r.2, r.3))
        (or_cases (takes_pieces S b.pieces (allowed b.end) (k ∷ w)) (matches_from S b w) h)

    -- and the test finds it at each place
    from-complete : (before w : List ℕ) → At w → matches_from S b (before ++ w) ≡ true
    unfolding matches_from
    from-complete [] [] h = h
    from-complete [] (k ∷ w) h = or_left (takes_pieces S b.pieces (allowed b.end) (k ∷ w)) (matches_from S b w) h
    from-complete (k ∷ p) w h = or_right (takes_pieces S b.pieces (allowed b.end) (k ∷ (p ++ w))) (matches_from S b (p ++ w)) (from-complete p w h)

    -- a branch that the test finds matches, from the start where it has `^`
    branch-sound : (line : List ℕ) → matches_branch S b line ≡ true → MatchesBranch S b line
    branch-sound line h = go b.start refl h
      where
        go : (s : Bool) → b.start ≡ s → cond s (takes_pieces S b.pieces (allowed b.end) line) (matches_from S b line) ≡ true → MatchesBranch S b line
        go true e i = at-sound [] line line refl (λ f. refl) i
        go false e i = let r = from-sound line i in at-sound r.0 r.1 line r.2 (λ f. absurd (false≢true (sym e ∙ f))) r.3

    -- and the test finds a branch that matches
    branch-complete : (line : List ℕ) → MatchesBranch S b line → matches_branch S b line ≡ true
    branch-complete line m = rw m.whole (go b.start refl)
      where
        found : At (m.part ++ m.behind)
        found = pieces-complete b.pieces (allowed b.end) m.part m.behind m.taken (end-allowed b.end m.behind m.to_end)

        go : (s : Bool) → b.start ≡ s → cond s (takes_pieces S b.pieces (allowed b.end) (m.before ++ (m.part ++ m.behind))) (matches_from S b (m.before ++ (m.part ++ m.behind))) ≡ true
        go true e = rw (m.from_start e) found
        go false e = from-complete m.before (m.part ++ m.behind) found

  -- a line that the test finds to match matches
  pub some-sound : (t : Pattern) (line : List ℕ) → some_matches S t line ≡ true → Matches S t line
  unfolding some_matches
  some-sound [] line h = absurd (false≢true h)
  some-sound (b ∷ t) line h =
      ⊎_elim (λ i. here (branch-sound b line i)) (λ i. later (some-sound t line i)) (or_cases (matches_branch S b line) (some_matches S t line) h)

  -- and the test finds each line that matches
  pub some-complete : (t : Pattern) (line : List ℕ) → Matches S t line → some_matches S t line ≡ true
  unfolding some_matches
  some-complete (b ∷ t) line (here m) = or_left (matches_branch S b line) (some_matches S t line) (branch-complete b line m)
  some-complete (b ∷ t) line (later m) = or_right (matches_branch S b line) (some_matches S t line) (some-complete t line m)
  some-complete [] line x' = elim x' [ ]

-- so the test is the meaning
pub matches-iff : (t : Query) (line : List ℕ) → (matches t line ≡ true) ↔ Matches t.sets t.tree line
unfolding matches
matches-iff t line = (some-sound t.sets t.tree line, some-complete t.sets t.tree line)
