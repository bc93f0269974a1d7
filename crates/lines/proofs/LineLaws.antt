-- Laws of the lines of a run.
use Prim.Native.Nat.{ℕ, ◌+◌}
use mathlib.Core.Path.{◌≡◌, refl, sym, ap, ◌∙◌}
use mathlib.Core.Bool.{Bool, true, false, cond, ◌&&◌}
use mathlib.Core.List.{List, [], ◌∷◌, ◌++◌, append-nil}
use lib.Dec.{eqb}
use lib.Seq.{append_snoc}
use Rattle.pattern.specs.Meaning.{Query, matches}
use Rattle.lines.specs.Parts.{first_part, later_parts, last_part, parts_before}
use Rattle.lines.specs.Lines.{carriage_return, is_open, trimmed, lines_from, lines, count_in, closed_matches, matching}
use Rattle.lines.proofs.PartLaws.{first-whole, first-into, later-into, matching-whole}
use Rattle.lines.proofs.Trims.{trim-none, trim-return, trim-kept, ends-without}
use Rattle.runs.specs.Keys.{member, line_end}
use Rattle.runs.proofs.KeyLaws.{member-first, member-rest, member-more}

-- keys without a line end
later-without : (l : List ℕ) → member line_end l ≡ false → later_parts l ≡ []
unfolding later_parts
later-without [] h = refl
later-without (c ∷ l) h = rw (member-first line_end c l h) (later-without l (member-rest line_end c l h))

-- an LF closes the keys before it, less one CR directly before it
pub lines-closed : (l w : List ℕ) → member line_end l ≡ false → lines (l ++ (line_end ∷ w)) ≡ trimmed l ∷ lines w
unfolding lines first_part later_parts
lines-closed l w h =
    let whole = later-without l h in
    rw (first-into l (line_end ∷ w) whole, later-into l (line_end ∷ w) whole) (ap (λ (k : List ℕ). trimmed k ∷ lines_from (first_part w) (later_parts w)) (append-nil l))

-- keys with no LF behind them are one line, CRs and all
pub lines-open : (c : ℕ) (l : List ℕ) → member line_end (c ∷ l) ≡ false → lines (c ∷ l) ≡ (c ∷ l) ∷ []
unfolding lines
lines-open c l h = let whole = later-without (c ∷ l) h in rw (whole, first-whole (c ∷ l) whole) refl

-- the lines are those of the parts
pub lines-by : (w : List ℕ) → lines w ≡ lines_from (first_part w) (later_parts w)
unfolding lines
lines-by w = refl

-- how many of none, and of one more, have X
pub count_none : (X : List ℕ → Bool) → count_in X [] ≡ 0
unfolding count_in
count_none X = refl

pub count-cons : (X : List ℕ → Bool) (l : List ℕ) (ls : List (List ℕ)) → count_in X (l ∷ ls) ≡ cond (X l) 1 0 + count_in X ls
unfolding count_in
count-cons X l ls = refl

-- how many lines match
pub matching-is : (t : Query) (w : List ℕ) → matching t w ≡ count_in (matches t) (lines w)
unfolding matching
matching-is t w = refl

pub lines_none : lines [] ≡ []
unfolding lines first_part later_parts
lines_none = refl

-- "whose editor ends a line with CR LF": what is before is the line
pub lines-desktop : (l w : List ℕ) → member line_end l ≡ false → lines (l ++ (carriage_return ∷ line_end ∷ w)) ≡ l ∷ lines w
lines-desktop l w h =
    ap lines (sym (append_snoc l carriage_return (line_end ∷ w)))
    ∙ lines-closed (l ++ (carriage_return ∷ [])) w (member-more line_end l carriage_return h refl)
    ∙ ap (λ (k : List ℕ). k ∷ lines w) (trim-return l)

-- "CR LF alone is an empty line"
pub lines-return : lines (carriage_return ∷ line_end ∷ []) ≡ [] ∷ []
lines-return = lines-desktop [] [] refl ∙ ap (λ (ls : List (List ℕ)). [] ∷ ls) lines_none

-- so the matching lines are that of the first line, and those behind its end
pub matching-closed : (t : Query) (l w : List ℕ) → member line_end l ≡ false → matching t (l ++ (line_end ∷ w)) ≡ cond (closed_matches t l) 1 0 + matching t w
unfolding matching count_in
matching-closed t l w h = rw (lines-closed l w h) refl

pub matching-open : (t : Query) (l : List ℕ) → member line_end l ≡ false → matching t l ≡ cond (is_open l && matches t l) 1 0
matching-open t l h = matching-whole t l (later-without l h)

-- the keys between line ends, and those behind the last one if there is at least one
abbrev pub between_ends : List ℕ → List (List ℕ) → List (List ℕ)
between_ends l ls = parts_before l ls ++ cond (is_open (last_part l ls)) (last_part l ls ∷ []) []

first-without : (k : ℕ) (w : List ℕ) → member k w ≡ false → member k (first_part w) ≡ false
unfolding first_part
first-without k [] h = refl
first-without k (c ∷ w) h = go (first-without k w (member-rest k c w h)) (eqb line_end c)
  where
    go : member k (first_part w) ≡ false → (b : Bool) → member k (cond b [] (c ∷ first_part w)) ≡ false
    go r true = refl
    go r false = rw (member-first k c w h, r) refl

abbrev behind : List (List ℕ) → List (List ℕ)
behind [] = []
behind (l ∷ ls) = ls

-- Of a run without CR the lines are the keys between line ends, as document 01 has them.
pub lines-plain : (w : List ℕ) → member carriage_return w ≡ false → lines w ≡ between_ends (first_part w) (later_parts w)
unfolding lines first_part later_parts parts_before last_part
lines-plain [] h = refl
lines-plain (c ∷ w) h =
    let rest = member-rest carriage_return c w h in
    let clean : member carriage_return (c ∷ first_part w) ≡ false = rw (member-first carriage_return c w h, first-without carriage_return w rest) refl in
    go (eqb line_end c) (first_part w) (later_parts w) (trim-kept (c ∷ first_part w) (ends-without (c ∷ first_part w) clean)) (lines-plain w rest)
  where
    go : (b : Bool) (f : List ℕ) (ls : List (List ℕ)) → trimmed (c ∷ f) ≡ c ∷ f → lines_from f ls ≡ between_ends f ls
        → lines_from (cond b [] (c ∷ f)) (cond b (f ∷ ls) ls) ≡ between_ends (cond b [] (c ∷ f)) (cond b (f ∷ ls) ls)
    go true f ls k e = rw trim-none (ap (λ (m : List (List ℕ)). [] ∷ m) e)
    go false f [] k e = refl
    go false f (m ∷ ms) k e = rw k (ap (λ (n : List (List ℕ)). (c ∷ f) ∷ n) (ap behind e))
