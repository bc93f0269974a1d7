-- Demand 2, one statement for the one-line test and one for the count over a plain run, with case ignored or not: "A pattern is accepted
-- if it belongs to document 01's part of the POSIX extended regular expressions and refused if it does not. A line is called matching if
-- the standard's meaning of the pattern matches it, and not matching if it doesn't." They are theorems about the definitions that
-- `test_line` and `count_run` are proved to answer; what these mean is said by a pattern's form, by lengths and by `Matches`, with no
-- reader, state or table. Document 02, S-1: "Demand 2 then reads the pattern with these sets".
use Prim.Native.Nat.{ℕ, suc, ◌+◌, ◌≤◌}
use native.Mathlib.Omega.{arith}
use mathlib.Core.Path.{◌≡◌, refl, sym, ◌∙◌}
use mathlib.Core.Logic.{◌↔◌, ◌⊎◌}
use mathlib.Core.Bool.{Bool, true, false, cond, ◌||◌}
use mathlib.Core.List.{List, [], ◌∷◌, Memᴰ}
use Rattle.refusal.specs.declared.Refusal.{Refusal}
use Rattle.refusal.specs.declared.Refusal.TheVariants.{InvalidKey}
use Rattle.refusal.specs.Figures.{Figures, answered, refused_for}
use Rattle.runs.specs.Keys.{member, line_end}
use Rattle.runs.proofs.Tests.{or-iff, false-iff}
use Rattle.runs.proofs.KeyLaws.{member-iff}
use Rattle.pattern.specs.Form.{Pattern, formed_pattern, write_pattern, atom_count}
use Rattle.letters.specs.declared.Case.{Case}
use Rattle.brackets.specs.Sets.{set_of}
use Rattle.pattern.specs.Meaning.{Matches, matches, query}
use Rattle.pattern.specs.Reader.{Read, accepted, refused, read_pattern}
use Rattle.pattern.proofs.Accepts.{RightLength, PatternRefused, accepted-iff, refused-iff, one-tree}
use Rattle.pattern.proofs.Meaning.{matches-iff}
use Rattle.lines.specs.Lines.{lines, count_in, matching}
use Rattle.lines.specs.Answers.{line_of, run_of, line_result, run_result}

-- "The part of the standard built here": t is the tree of pattern p
pub record Tree (p : List ℕ) (t : Pattern) : Type 0 where
  -- "the form below"
  pub formed : formed_pattern t ≡ true
  pub written : write_pattern t ≡ p
  -- "1 to 128 bytes, none of them 0 or 10": no tree of the form writes these two
  pub right : RightLength p
  -- "at most 29 atoms"
  pub few : atom_count t ≤ 29

-- a pattern has no second tree
pub tree-once : {p : List ℕ} {t u : Pattern} → Tree p t → Tree p u → t ≡ u
tree-once {p} {t} {u} a b = one-tree t u a.formed b.formed (a.written ∙ sym b.written)

-- it is accepted exactly if it has one
tree-iff : (p : List ℕ) (t : Pattern) → (read_pattern p ≡ accepted t) ↔ Tree p t
tree-iff p t = (from, λ h. (accepted-iff p t).1 ((h.formed, h.written), h.right, h.few))
  where
    from : read_pattern p ≡ accepted t → Tree p t
    from e = let ((g, w), right, few) = (accepted-iff p t).0 e in record { formed = g; written = w; right = right; few = few }

-- The one-line test.

-- 5: "byte 0 or 10 in the one-line test"
abbrev pub InvalidInLine : List ℕ → Type 0
InvalidInLine w = Memᴰ 0 w ⊎ Memᴰ 10 w

-- what is answered to pattern p and line w: the pattern's refusal; 5; 1 if the line matches; or 0
pub data LineMeans (c : Case) (p w : List ℕ) (f : Figures ℕ) : Type 0 where
  pattern-refused : {r : Refusal} → PatternRefused p r → f ≡ refused_for r → LineMeans c p w f
  invalid-key : {t : Pattern} → Tree p t → InvalidInLine w → f ≡ refused_for InvalidKey → LineMeans c p w f
  match : {t : Pattern} → Tree p t → (InvalidInLine w → ⊥) → Matches (set_of c) t w → f ≡ answered 1 → LineMeans c p w f
  no-match : {t : Pattern} → Tree p t → (InvalidInLine w → ⊥) → (Matches (set_of c) t w → ⊥) → f ≡ answered 0 → LineMeans c p w f

module _ (c : Case) (p w : List ℕ) (f : Figures ℕ) where
  dead-iff : (member 0 w || member line_end w ≡ true) ↔ InvalidInLine w
  dead-iff = or-iff (member 0 w) (member line_end w) (member-iff 0 w) (member-iff line_end w)

  clean-iff : (member 0 w || member line_end w ≡ false) ↔ (InvalidInLine w → ⊥)
  clean-iff = false-iff (member 0 w || member line_end w) dead-iff

  other-iff : (t : Pattern) → (matches (query c t) w ≡ false) ↔ (Matches (set_of c) t w → ⊥)
  other-iff t = false-iff (matches (query c t) w) (matches-iff (query c t) w)

  line-means : line_result c (read_pattern p) w ≡ f → LineMeans c p w f
  unfolding line_result line_of
  line-means e = go (read_pattern p) refl e
    where
      of : (t : Pattern) → Tree p t → (a b : Bool) → member 0 w || member line_end w ≡ a → matches (query c t) w ≡ b → cond a (refused_for InvalidKey) (answered (cond b 1 0)) ≡ f → LineMeans c p w f
      of t h true b d m g = invalid-key h (dead-iff.0 d) (sym g)
      of t h false true d m g = match h (clean-iff.0 d) ((matches-iff (query c t) w).0 m) (sym g)
      of t h false false d m g = no-match h (clean-iff.0 d) ((other-iff t).0 m) (sym g)

      go : (r : Read) → read_pattern p ≡ r → line_result c r w ≡ f → LineMeans c p w f
      go (refused r) i g = pattern-refused ((refused-iff p r).0 i) (sym g)
      go (accepted t) i g = of t ((tree-iff p t).0 i) (member 0 w || member line_end w) (matches (query c t) w) refl refl g

  means-line : LineMeans c p w f → line_result c (read_pattern p) w ≡ f
  unfolding line_result line_of
  means-line (pattern-refused {r} h g) = rw ((refused-iff p r).1 h) (sym g)
  means-line (invalid-key {t} h d g) = rw ((tree-iff p t).1 h, dead-iff.1 d) (sym g)
  means-line (match {t} h d m g) = rw ((tree-iff p t).1 h, clean-iff.1 d, (matches-iff (query c t) w).1 m) (sym g)
  means-line (no-match {t} h d m g) = rw ((tree-iff p t).1 h, clean-iff.1 d, (other-iff t).1 m) (sym g)

  pub demand-2 : (line_result c (read_pattern p) w ≡ f) ↔ LineMeans c p w f
  demand-2 = (line-means, means-line)

-- The count over a plain run.

-- X holds of n of these lines
pub data Counted (X : List ℕ → Type 0) : List (List ℕ) → ℕ → Type 0 where
  none : Counted X [] 0
  one_more : {l : List ℕ} {ls : List (List ℕ)} {n : ℕ} → X l → Counted X ls n → Counted X (l ∷ ls) (suc n)
  no_more : {l : List ℕ} {ls : List (List ℕ)} {n : ℕ} → (X l → ⊥) → Counted X ls n → Counted X (l ∷ ls) n

-- what is answered to pattern p and run w: the pattern's refusal; 5, "byte 0 in a plain run"; or how many of the run's lines match
pub data RunMeans (c : Case) (p w : List ℕ) (f : Figures ℕ) : Type 0 where
  pattern-refused : {r : Refusal} → PatternRefused p r → f ≡ refused_for r → RunMeans c p w f
  invalid-key : {t : Pattern} → Tree p t → Memᴰ 0 w → f ≡ refused_for InvalidKey → RunMeans c p w f
  count : {t : Pattern} {n : ℕ} → Tree p t → (Memᴰ 0 w → ⊥) → Counted (Matches (set_of c) t) (lines w) n → f ≡ answered n → RunMeans c p w f

-- a test that tells X counts so
module _ {X : List ℕ → Type 0} (T : List ℕ → Bool) (tells : (l : List ℕ) → (T l ≡ true) ↔ X l) where
  test-counts : (ls : List (List ℕ)) → Counted X ls (count_in T ls)
  unfolding count_in
  test-counts [] = none
  test-counts (l ∷ ls) = go (T l) (tells l) (count_in T ls) (test-counts ls)
    where
      go : (b : Bool) → (b ≡ true) ↔ X l → (n : ℕ) → Counted X ls n → Counted X (l ∷ ls) (cond b 1 0 + n)
      go true i n c = let e : 1 + n ≡ suc n = omega arith in rw e (one_more (i.0 refl) c)
      go false i n c = let e : 0 + n ≡ n = omega arith in rw e (no_more ((false-iff false i).0 refl) c)

  counts-test : {ls : List (List ℕ)} {n : ℕ} → Counted X ls n → count_in T ls ≡ n
  unfolding count_in
  counts-test none = refl
  counts-test (one_more {l} {ls} {n} h c) = rw ((tells l).1 h, counts-test c) (omega arith)
  counts-test (no_more {l} {ls} {n} h c) = rw ((false-iff (T l) (tells l)).1 h, counts-test c) (omega arith)

module _ (c : Case) (p w : List ℕ) (f : Figures ℕ) where
  run-means : run_result c (read_pattern p) w ≡ f → RunMeans c p w f
  unfolding run_result run_of matching
  run-means e = go (read_pattern p) refl e
    where
      of : (t : Pattern) → Tree p t → (a : Bool) → member 0 w ≡ a → cond a (refused_for InvalidKey) (answered (matching (query c t) w)) ≡ f → RunMeans c p w f
      of t h true d g = invalid-key h ((member-iff 0 w).0 d) (sym g)
      of t h false d g = count h ((false-iff (member 0 w) (member-iff 0 w)).0 d) (test-counts (matches (query c t)) (matches-iff (query c t)) (lines w)) (sym g)

      go : (r : Read) → read_pattern p ≡ r → run_result c r w ≡ f → RunMeans c p w f
      go (refused r) i g = pattern-refused ((refused-iff p r).0 i) (sym g)
      go (accepted t) i g = of t ((tree-iff p t).0 i) (member 0 w) refl g

  means-run : RunMeans c p w f → run_result c (read_pattern p) w ≡ f
  unfolding run_result run_of matching
  means-run (pattern-refused {r} h g) = rw ((refused-iff p r).1 h) (sym g)
  means-run (invalid-key {t} h d g) = rw ((tree-iff p t).1 h, (member-iff 0 w).1 d) (sym g)
  means-run (count {t} h d m g) = rw ((tree-iff p t).1 h, (false-iff (member 0 w) (member-iff 0 w)).1 d, counts-test (matches (query c t)) (matches-iff (query c t)) m) (sym g)

  pub demand-2-run : (run_result c (read_pattern p) w ≡ f) ↔ RunMeans c p w f
  demand-2-run = (run-means, means-run)
