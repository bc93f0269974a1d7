-- Laws of the parts of a run between line ends.
use Prim.Native.Nat.{ℕ, ◌+◌}
use native.Mathlib.Omega.{arith}
use native.Mathlib.Nat.{zero-add, add-zero, add_assoc}
use mathlib.Core.Path.{◌≡◌, refl, sym, ap, ◌∙◌}
use mathlib.Core.Bool.{Bool, true, false, not, cond, ◌&&◌, ◌||◌, or-false}
use mathlib.Core.List.{List, [], ◌∷◌, ◌++◌}
use lib.Dec.{leb, eqb}
use borrow.Author.Tests.{eqb-true}
use Rattle.lines.specs.Lines.{is_open, lines_from, lines, count_in, closed_matches, matching, trimmed, ends_in_return}
use Rattle.pattern.specs.Meaning.{Query, matches}
use Rattle.runs.proofs.Tests.{clash, and_both, and-fst, and-snd}
use Rattle.runs.specs.Keys.{line_key, is_line, line_end, is_run}
use Rattle.lines.specs.Parts.{begins_with_end, first_part, later_parts, last_part, parts_before}
use Rattle.lines.proofs.Trims.{ends-cons}
use Rattle.runs.proofs.KeyLaws.{key-of-line}

-- a run without a line end
pub first-whole : (u : List ℕ) → later_parts u ≡ [] → first_part u ≡ u
unfolding first_part later_parts
first-whole [] h = refl
first-whole (c ∷ u) h = go (λ i. first-whole u i) (eqb line_end c) h
  where
    go : (later_parts u ≡ [] → first_part u ≡ u) → (b : Bool) → cond b (first_part u ∷ later_parts u) (later_parts u) ≡ [] → cond b [] (c ∷ first_part u) ≡ c ∷ u
    go f true i = clash (cc)
    go f false i = ap (λ (l : List ℕ). c ∷ l) (f i)

-- the first part, and the later ones, of a run with one key more in front, which may be a line end
abbrev first_onto : Bool → ℕ → List ℕ → List ℕ
first_onto b c l = cond b [] (c ∷ l)

abbrev later_onto : Bool → List ℕ → List (List ℕ) → List (List ℕ)
later_onto b l ls = cond b (l ∷ ls) ls

-- where one run follows another: the first part goes on into the second run, if there is no line end before
abbrev pub first_then : List ℕ → List (List ℕ) → List ℕ → List ℕ
first_then l [] v = l ++ first_part v
first_then l (m ∷ ms) v = l

pub first-append : (u v : List ℕ) → first_part (u ++ v) ≡ first_then (first_part u) (later_parts u) v
unfolding first_part later_parts
first-append [] v = refl
first-append (c ∷ u) v = go (eqb line_end c) (later_parts u) (first-append u v)
  where
    go : (b : Bool) (ls : List (List ℕ)) {l : List ℕ} → l ≡ first_then (first_part u) ls v → first_onto b c l ≡ first_then (first_onto b c (first_part u)) (later_onto b (first_part u) ls) v
    go true ls e = refl
    go false [] e = ap (λ (l : List ℕ). c ∷ l) e
    go false (m ∷ ms) e = ap (λ (l : List ℕ). c ∷ l) e

-- and so does the last of the later parts
abbrev pub later_then : List (List ℕ) → List ℕ → List (List ℕ)
later_then [] v = later_parts v
later_then (l ∷ ls) v = first_then l ls v ∷ later_then ls v

pub later-append : (u v : List ℕ) → later_parts (u ++ v) ≡ later_then (later_parts u) v
unfolding later_parts
later-append [] v = refl
later-append (c ∷ u) v = go (eqb line_end c) (later-append u v)
  where
    go : (b : Bool) {ls : List (List ℕ)} → ls ≡ later_then (later_parts u) v → later_onto b (first_part (u ++ v)) ls ≡ later_then (later_onto b (first_part u) (later_parts u)) v
    go true e = rw (first-append u v, e) refl
    go false e = e

-- the same by cases
module _ (u v : List ℕ) where
  pub first-into : later_parts u ≡ [] → first_part (u ++ v) ≡ u ++ first_part v
  first-into e = rw e at (first-append u v) ∙ ap (λ (l : List ℕ). l ++ first_part v) (first-whole u e)

  pub later-into : later_parts u ≡ [] → later_parts (u ++ v) ≡ later_parts v
  later-into e = rw e at (later-append u v)

  pub first-kept : {l : List ℕ} {ls : List (List ℕ)} → later_parts u ≡ l ∷ ls → first_part (u ++ v) ≡ first_part u
  first-kept e = rw e at (first-append u v)

  pub later-kept : {l : List ℕ} {ls : List (List ℕ)} → later_parts u ≡ l ∷ ls → later_parts (u ++ v) ≡ first_then l ls v ∷ later_then ls v
  later-kept e = rw e at (later-append u v)

-- 1 if a line passes a test
abbrev pub count_one : (List ℕ → Bool) → List ℕ → ℕ
count_one X l = cond (X l) 1 0

-- how many of the parts before the last pass it
abbrev pub count_before : (List ℕ → Bool) → List ℕ → List (List ℕ) → ℕ
count_before X l ls = count_in X (parts_before l ls)

-- the last part where run v follows the parts l and ls, and the count of those before it
abbrev pub last_then : List ℕ → List (List ℕ) → List ℕ → List ℕ
last_then l ls v = last_part (first_then l ls v) (later_then ls v)

abbrev pub count_then : (List ℕ → Bool) → List ℕ → List (List ℕ) → List ℕ → ℕ
count_then X l ls v = count_before X (first_then l ls v) (later_then ls v)

-- the line across: the last part goes on into the second run
abbrev pub line_across : List ℕ → List (List ℕ) → List ℕ → List ℕ
line_across l ls v = last_part l ls ++ first_part v

last_then_lem : (l : List ℕ) (ls : List (List ℕ)) (v : List ℕ) → last_then l ls v ≡ last_part (line_across l ls v) (later_parts v)
unfolding last_part
last_then_lem l [] v = refl
last_then_lem l (m ∷ ms) v = last_then_lem m ms v

before-then : (X : List ℕ → Bool) (l : List ℕ) (ls : List (List ℕ)) (v : List ℕ) → count_then X l ls v ≡ count_before X l ls + count_before X (line_across l ls v) (later_parts v)
unfolding last_part parts_before count_in
before-then X l [] v = sym (zero-add _)
before-then X l (m ∷ ms) v = ap (λ (n : ℕ). cond (X l) 1 0 + n) (before-then X m ms v) ∙ sym (add_assoc (cond (X l) 1 0) _ _)

-- where the second run has no line end, and where it has one
module _ (l : List ℕ) (ls : List (List ℕ)) (v : List ℕ) where
  pub last-open : later_parts v ≡ [] → last_then l ls v ≡ last_part l ls ++ v
  unfolding last_part
  last-open e = rw e at (last_then_lem l ls v) ∙ ap (λ (w : List ℕ). last_part l ls ++ w) (first-whole v e)

  pub before-open : (X : List ℕ → Bool) → later_parts v ≡ [] → count_then X l ls v ≡ count_before X l ls
  unfolding parts_before count_in
  before-open X e = rw e at (before-then X l ls v) ∙ add-zero (count_in X (parts_before l ls))

  pub last-closed : {m : List ℕ} {ms : List (List ℕ)} → later_parts v ≡ m ∷ ms → last_then l ls v ≡ last_part m ms
  unfolding last_part
  last-closed e = rw e at (last_then_lem l ls v)

  pub before-closed : (X : List ℕ → Bool) {m : List ℕ} {ms : List (List ℕ)} → later_parts v ≡ m ∷ ms → count_then X l ls v ≡ count_before X l ls + (count_one X (line_across l ls v) + count_before X m ms)
  unfolding parts_before count_in
  before-closed X e = rw e at (before-then X l ls v)

-- How a run begins and ends.

-- one with a line end has a key
pub later-open : (w : List ℕ) {l : List ℕ} {ls : List (List ℕ)} → later_parts w ≡ l ∷ ls → is_open w ≡ true
unfolding later_parts
later-open [] e = clash (cc)
later-open (c ∷ w) e = refl

-- its first part is empty exactly if it begins with one
pub first-begins : (v : List ℕ) → begins_with_end v ≡ true → first_part v ≡ []
unfolding begins_with_end first_part
first-begins [] h = clash (cc)
first-begins (c ∷ v) h = rw h refl

pub first-open : (v : List ℕ) {m : List ℕ} {ms : List (List ℕ)} → later_parts v ≡ m ∷ ms → begins_with_end v ≡ false → is_open (first_part v) ≡ true
unfolding begins_with_end first_part later_parts
first-open [] e h = clash (cc)
first-open (c ∷ v) e h = rw h refl

pub begins-none : begins_with_end [] ≡ false
unfolding begins_with_end
begins-none = refl

pub begins-end : begins_with_end (line_end ∷ []) ≡ true
unfolding begins_with_end
begins-end = refl

-- another key behind it changes nothing
pub begins-more : (w : List ℕ) (k : ℕ) → eqb line_end k ≡ false → begins_with_end (w ++ (k ∷ [])) ≡ begins_with_end w
unfolding begins_with_end
begins-more [] k e = e
begins-more (c ∷ w) k e = refl

pub begins-append : (u v : List ℕ) → begins_with_end (u ++ v) ≡ (begins_with_end u || (not (is_open u) && begins_with_end v))
unfolding begins_with_end
begins-append [] v = refl
begins-append (c ∷ u) v = sym (or-false (eqb line_end c))

-- it ends in CR exactly if its last part does
ends-parts : (w : List ℕ) → ends_in_return w ≡ ends_in_return (last_part (first_part w) (later_parts w))
unfolding ends_in_return first_part later_parts last_part
ends-parts [] = refl
ends-parts (c ∷ w) = go (eqb line_end c) refl (first_part w) (later_parts w) refl refl (ends-parts w)
  where
    behind : (w : List ℕ) → ends_in_return (line_end ∷ w) ≡ ends_in_return w
    behind [] = refl
    behind (d ∷ w) = refl

    go : (b : Bool) → eqb line_end c ≡ b → (f : List ℕ) (ls : List (List ℕ)) → first_part w ≡ f → later_parts w ≡ ls → ends_in_return w ≡ ends_in_return (last_part f ls)
        → ends_in_return (c ∷ w) ≡ ends_in_return (last_part (first_onto b c f) (later_onto b f ls))
    go true e f ls g h i = let same : line_end ≡ c = eqb-true line_end c e in ap (λ (k : ℕ). ends_in_return (k ∷ w)) (sym same) ∙ (behind w ∙ i)
    go false e f [] g h i = ap (λ (l : List ℕ). ends_in_return (c ∷ l)) (sym (first-whole w h) ∙ g)
    go false e f (m ∷ ms) g h i = ends-cons c w (later-open w h) ∙ i

pub ends_last : (w : List ℕ) {l : List ℕ} {ls : List (List ℕ)} → later_parts w ≡ l ∷ ls → ends_in_return w ≡ ends_in_return (last_part l ls)
unfolding last_part
ends_last w e = rw e at (ends-parts w)

-- The parts of a run are lines.

pub first-line : (w : List ℕ) → is_run w ≡ true → is_line (first_part w) ≡ true
unfolding first_part
first-line [] h = refl
first-line (c ∷ w) h = go (first-line w (and-snd (leb 1 c && leb c 255) (is_run w) h)) (eqb line_end c) refl
  where
    go : is_line (first_part w) ≡ true → (b : Bool) → eqb line_end c ≡ b → is_line (cond b [] (c ∷ first_part w)) ≡ true
    go r true e = refl
    go r false e = and_both (line_key c) (is_line (first_part w)) (key-of-line c (and-fst (leb 1 c && leb c 255) (is_run w) h) e) r

-- every part of some is a line
unfoldable pub all_lines : List (List ℕ) → Bool
all_lines [] = true
all_lines (l ∷ ls) = is_line l && all_lines ls

pub later-lines : (w : List ℕ) → is_run w ≡ true → all_lines (later_parts w) ≡ true
unfolding later_parts all_lines
later-lines [] h = refl
later-lines (c ∷ w) h = let r = and-snd (leb 1 c && leb c 255) (is_run w) h in go (first-line w r) (later-lines w r) (eqb line_end c)
  where
    go : is_line (first_part w) ≡ true → all_lines (later_parts w) ≡ true → (b : Bool) → all_lines (cond b (first_part w ∷ later_parts w) (later_parts w)) ≡ true
    go f l true = and_both (is_line (first_part w)) (all_lines (later_parts w)) f l
    go f l false = l

pub last_line_lem : (l : List ℕ) (ls : List (List ℕ)) → all_lines (l ∷ ls) ≡ true → is_line (last_part l ls) ≡ true
unfolding all_lines last_part
last_line_lem l [] h = and-fst (is_line l) true h
last_line_lem l (m ∷ ms) h = last_line_lem m ms (and-snd (is_line l) (is_line m && all_lines ms) h)

-- One key.

pub later-none : later_parts [] ≡ []
unfolding later_parts
later-none = refl

pub end-part : later_parts (line_end ∷ []) ≡ [] ∷ []
unfolding later_parts first_part
end-part = refl

pub end-first : first_part (line_end ∷ []) ≡ []
unfolding first_part
end-first = refl

pub key-part : (k : ℕ) → eqb line_end k ≡ false → later_parts (k ∷ []) ≡ []
unfolding later_parts
key-part k f = rw f refl

-- A run with one key more in front, which may be a line end.

pub later-cons : (c : ℕ) (w : List ℕ) → later_parts (c ∷ w) ≡ cond (eqb line_end c) (first_part w ∷ later_parts w) (later_parts w)
unfolding later_parts
later-cons c w = refl

pub first-cons : (c : ℕ) (w : List ℕ) → first_part (c ∷ w) ≡ cond (eqb line_end c) [] (c ∷ first_part w)
unfolding first_part
first-cons c w = refl

-- the last of parts is the last behind the first of them, and those before it have that one in front
pub last_more : (l m : List ℕ) (ms : List (List ℕ)) → last_part l (m ∷ ms) ≡ last_part m ms
unfolding last_part
last_more l m ms = refl

pub parts_none : (l : List ℕ) → parts_before l [] ≡ []
unfolding parts_before
parts_none l = refl

pub parts_more : (l m : List ℕ) (ms : List (List ℕ)) → parts_before l (m ∷ ms) ≡ l ∷ parts_before m ms
unfolding parts_before
parts_more l m ms = refl

-- one part is the last, and has none before it
pub last_one : (l : List ℕ) → last_part l [] ≡ l
unfolding last_part
last_one l = refl

pub before-none : (X : List ℕ → Bool) (l : List ℕ) → count_before X l [] ≡ 0
unfolding parts_before count_in
before-none X l = refl

-- 1 if a last part counts: if it has a key and passes a test
abbrev pub count_last : (List ℕ → Bool) → List ℕ → ℕ
count_last X l = cond (is_open l && X l) 1 0

-- how many lines some parts make: all but the last are closed, and that one counts if it has a key
abbrev count_parts : (List ℕ → Bool) → List ℕ → List (List ℕ) → ℕ
count_parts X l ls = count_before (λ m. X (trimmed m)) l ls + count_last X (last_part l ls)

count-parts : (X : List ℕ → Bool) (l : List ℕ) (ls : List (List ℕ)) → count_in X (lines_from l ls) ≡ count_parts X l ls
unfolding count_in parts_before last_part
count-parts X [] [] = refl
count-parts X (c ∷ l) [] = omega arith
count-parts X l (m ∷ ms) = ap (λ (n : ℕ). cond (X (trimmed l)) 1 0 + n) (count-parts X m ms) ∙ sym (add_assoc (cond (X (trimmed l)) 1 0) (count_in (λ m. X (trimmed m)) (parts_before m ms)) _)

module _ (t : Query) (w : List ℕ) where
  -- a run without a line end is one line, if it has a key
  pub matching-whole : later_parts w ≡ [] → matching t w ≡ count_last (matches t) w
  unfolding matching lines count_in parts_before last_part
  matching-whole e = rw (e, first-whole w e) (count-parts (matches t) w [] ∙ zero-add _)

  -- with line ends: the first line, those between, and the last part if it has a key
  pub matching-parts : {l : List ℕ} {ls : List (List ℕ)} → later_parts w ≡ l ∷ ls
      → matching t w ≡ count_one (closed_matches t) (first_part w) + (count_before (closed_matches t) l ls + count_last (matches t) (last_part l ls))
  unfolding matching lines count_in
  matching-parts {l} {ls} e = rw e (ap (λ (n : ℕ). cond (closed_matches t (first_part w)) 1 0 + n) (count-parts (matches t) l ls))
