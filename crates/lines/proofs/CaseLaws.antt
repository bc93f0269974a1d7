-- Document 02, S-1: lines and runs that differ only in the case of letters are answered alike where case is ignored; and what is refused does not
-- depend on the choice.
use Prim.Native.Nat.{ℕ}
use native.Mathlib.Omega.{arith}
use mathlib.Core.Path.{◌≡◌, refl}
use mathlib.Core.Bool.{Bool, true, false, ◌||◌, cond}
use mathlib.Core.List.{List, [], ◌∷◌}
use lib.Dec.{eqb}
use Rattle.refusal.specs.declared.Refusal.TheVariants.{InvalidKey}
use Rattle.refusal.specs.Figures.{answered, refused_for}
use Rattle.runs.specs.Keys.{member, line_end}
use Rattle.letters.specs.declared.Case.{Case}
use Rattle.letters.specs.Letters.{SameLetter, Each, SameLetters}
use Rattle.letters.proofs.Laws.{other, letter-test}
use Rattle.letters.proofs.Lists.{letters-member}
use Rattle.pattern.specs.Form.{Pattern}
use Rattle.pattern.specs.Meaning.{query, matches}
use Rattle.pattern.specs.Reader.{Read, accepted, refused}
use Rattle.pattern.proofs.CaseLaws.{letters-same}
use Rattle.lines.specs.Parts.{first_part, later_parts}
use Rattle.lines.specs.Lines.{carriage_return, trimmed, lines_from, lines, count_in, matching}
use Rattle.lines.specs.Answers.{line_of, run_of, line_result, run_result}

-- two runs' lines, one by one
abbrev SameLines : List (List ℕ) → List (List ℕ) → Type 0
SameLines ls ms = Each SameLetters ls ms

-- LF and CR are no letters
end_same : (j k : ℕ) → SameLetter j k → eqb line_end k ≡ eqb line_end j
end_same = letter-test (eqb line_end) (λ i. (other i).small line_end (omega arith))

return-same : (j k : ℕ) → SameLetter j k → eqb carriage_return k ≡ eqb carriage_return j
return-same = letter-test (eqb carriage_return) (λ i. (other i).small carriage_return (omega arith))

first-same : (u v : List ℕ) → SameLetters u v → SameLetters (first_part u) (first_part v)
unfolding first_part
first-same [] [] e = tt
first-same (j ∷ u) (k ∷ v) (s, e) = rw (end_same j k s) (go (first-same u v e) (eqb line_end j))
  where
    go : SameLetters (first_part u) (first_part v) → (t : Bool) → SameLetters (cond t [] (j ∷ first_part u)) (cond t [] (k ∷ first_part v))
    go h true = tt
    go h false = (s, h)
first-same [] (k ∷ v) e = elim e [ ]
first-same (j ∷ u) [] e = elim e [ ]

later_same : (u v : List ℕ) → SameLetters u v → SameLines (later_parts u) (later_parts v)
unfolding later_parts
later_same [] [] e = tt
later_same (j ∷ u) (k ∷ v) (s, e) = rw (end_same j k s) (go (later_same u v e) (eqb line_end j))
  where
    go : SameLines (later_parts u) (later_parts v) → (t : Bool) → SameLines (cond t (first_part u ∷ later_parts u) (later_parts u)) (cond t (first_part v ∷ later_parts v) (later_parts v))
    go h true = (first-same u v e, h)
    go h false = h
later_same [] (k ∷ v) e = elim e [ ]
later_same (j ∷ u) [] e = elim e [ ]

trim_same : (u v : List ℕ) → SameLetters u v → SameLetters (trimmed u) (trimmed v)
unfolding trimmed
trim_same [] [] e = tt
trim_same (j ∷ []) (k ∷ []) (s, e) = rw (return-same j k s) (go (eqb carriage_return j))
  where
    go : (t : Bool) → SameLetters (cond t [] (j ∷ [])) (cond t [] (k ∷ []))
    go true = tt
    go false = (s, tt)
trim_same (j ∷ i ∷ u) (k ∷ h ∷ v) (s, e) = (s, trim_same (i ∷ u) (h ∷ v) e)
trim_same [] (k ∷ _) e = elim e [ ]
trim_same (j ∷ []) [] e = elim e [ ]
trim_same (j ∷ []) (k ∷ (h ∷ v)) e = elim e.1 [ ]
trim_same (j ∷ (i ∷ u)) [] e = elim e [ ]
trim_same (j ∷ (i ∷ u)) (k ∷ []) e = elim e.1 [ ]

from-same : (l m : List ℕ) → SameLetters l m → (ls ms : List (List ℕ)) → SameLines ls ms → SameLines (lines_from l ls) (lines_from m ms)
from-same [] [] s [] [] e = tt
from-same (j ∷ l) (k ∷ m) s [] [] e = (s, tt)
from-same l m s (i ∷ ls) (h ∷ ms) (f, e) = (trim_same l m s, from-same i h f ls ms e)
from-same [] [] s [] (h ∷ ms) e = elim e [ ]
from-same [] (k ∷ m) s [] ms e = elim s [ ]
from-same (j ∷ l) [] s [] ms e = elim s [ ]
from-same (j ∷ l) (k ∷ m) s [] (h ∷ ms) e = elim e [ ]
from-same l m s (i ∷ ls) [] e = elim e [ ]

lines_same : (u v : List ℕ) → SameLetters u v → SameLines (lines u) (lines v)
unfolding lines
lines_same u v e = from-same (first_part u) (first_part v) (first-same u v e) (later_parts u) (later_parts v) (later_same u v e)

count_same : (X : List ℕ → Bool) → ((l m : List ℕ) → SameLetters l m → X l ≡ X m) → (ls ms : List (List ℕ)) → SameLines ls ms → count_in X ls ≡ count_in X ms
unfolding count_in
count_same X f [] [] e = refl
count_same X f (l ∷ ls) (m ∷ ms) (s, e) = rw (f l m s, count_same X f ls ms e) refl
count_same X f [] (m ∷ ms) e = elim e [ ]
count_same X f (l ∷ ls) [] e = elim e [ ]

-- how many lines match
pub letters-matching : (t : Pattern) (u v : List ℕ) → SameLetters u v → matching (query Case.Ignored t) u ≡ matching (query Case.Ignored t) v
unfolding matching
letters-matching t u v e = count_same (matches (query Case.Ignored t)) (letters-same t) (lines u) (lines v) (lines_same u v e)

-- what the one-line test and the count over a plain run answer
pub letters-line : (r : Read) (u v : List ℕ) → SameLetters u v → line_result Case.Ignored r u ≡ line_result Case.Ignored r v
unfolding line_result line_of
letters-line (refused r) u v e = refl
letters-line (accepted t) u v e = rw (letters-member 0 (omega arith) u v e, letters-member line_end (omega arith) u v e, letters-same t u v e) refl

pub letters-run : (r : Read) (u v : List ℕ) → SameLetters u v → run_result Case.Ignored r u ≡ run_result Case.Ignored r v
unfolding run_result run_of
letters-run (refused r) u v e = refl
letters-run (accepted t) u v e = rw (letters-member 0 (omega arith) u v e, letters-matching t u v e) refl

-- What is refused, and with which number, does not depend on the choice.
same-refusal : (x : Bool) (m n : ℕ) → (cond x (refused_for InvalidKey) (answered m)).refusal ≡ (cond x (refused_for InvalidKey) (answered n)).refusal
same-refusal true m n = refl
same-refusal false m n = refl

module _ (c d : Case) (w : List ℕ) where
  pub line-refused-alike : (r : Read) → (line_result c r w).refusal ≡ (line_result d r w).refusal
  unfolding line_result line_of
  line-refused-alike (refused r) = refl
  line-refused-alike (accepted t) = same-refusal (member 0 w || member line_end w) (cond (matches (query c t) w) 1 0) (cond (matches (query d t) w) 1 0)

  pub run-refused-alike : (r : Read) → (run_result c r w).refusal ≡ (run_result d r w).refusal
  unfolding run_result run_of
  run-refused-alike (refused r) = refl
  run-refused-alike (accepted t) = same-refusal (member 0 w) (matching (query c t) w) (matching (query d t) w)
