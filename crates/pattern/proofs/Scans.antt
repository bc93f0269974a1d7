-- The length of a pattern and its bytes, looked at before it is read.
use Prim.Native.Nat.{ℕ, suc, ◌<◌, ◌≤◌}
use native.Mathlib.Omega.{arith}
use mathlib.Core.Path.{◌≡◌, refl, sym, ap, ◌∙◌}
use mathlib.Core.Logic.{◌⊎◌, inl, inr}
use mathlib.Core.Bool.{Bool, true, false, not, ◌&&◌, ◌||◌}
use mathlib.Core.List.{List, [], ◌∷◌}
use lib.Dec.{ltb, eqb}
use lib.ListN.{length, get_or}
use borrow.Author.Tests.{le-leb, lt-leb, eqb-true, eqb-false, ltb-true, ltb-false}
use Rattle.refusal.specs.declared.Refusal.TheVariants.{PatternLength, PatternSyntax}
use Rattle.letters.specs.declared.Case.{Case}
use Rattle.pattern.specs.Reader.{refused, read_branches, counted, read_pattern}
use Rattle.std.specs.Prelude.{Result, Err}
use Rattle.refusal.specs.declared.Refusal.{Refusal}
use Rattle.pattern.specs.declared.automaton.Tables.{Tables}
use Rattle.pattern.specs.Automata.{tables_of}
use Rattle.std.specs.List.{list_all}
use Rattle.std.proofs.Common.{Fits, w8}
use Rattle.runs.specs.Keys.{is_line, line_key}
use Rattle.runs.proofs.KeyLaws.{key-test}
use Rattle.runs.proofs.Tests.{neither, or_cases}

-- the test of a byte, and of all
abbrev pub tested : ℕ → Bool
tested b = not (eqb b 0) && not (eqb b 10)

byte-test : (b : ℕ) → b < 256 → tested b ≡ line_key b
byte-test b h = go (eqb b 0) refl
  where
    go : (t : Bool) → eqb b 0 ≡ t → not t && not (eqb b 10) ≡ line_key b
    go true e = rw (eqb-true b 0 e) refl
    go false e = key-test b h e

pub line-tests : (l : List ℕ) → ((i : ℕ) → Fits w8 (get_or l i 0)) → list_all tested l ≡ is_line l
line-tests [] h = refl
line-tests (b ∷ l) h = let small : b < 256 = omega (arith, h 0) in rw (byte-test b small, line-tests l (λ i. h (suc i)))

-- what a pattern is read as
module _ (s : List ℕ) where
  -- 7, by its length
  module _ {n : ℕ} (en : n ≡ length s) (w : (eqb n 0 || ltb 128 n) ≡ true) where
    wrong : read_pattern s ≡ refused PatternLength
    unfolding read_pattern
    wrong = go (or_cases (eqb n 0) (ltb 128 n) w)
      where
        go : (eqb n 0 ≡ true) ⊎ (ltb 128 n ≡ true) → read_pattern s ≡ refused PatternLength
        go (inl z) = let none : length s ≡ 0 = sym en ∙ eqb-true n 0 z in rw none refl
        go (inr l) = let long : 128 < length s = rw en at (ltb-true 128 n l) in rw (le-leb 1 (length s) (omega arith), lt-leb (length s) 128 long) refl

    pub wrong-tables : (c : Case) → Err PatternLength ≡ tables_of c (read_pattern s)
    wrong-tables c = rw wrong refl

  module _ {n : ℕ} (en : n ≡ length s) (w : (eqb n 0 || ltb 128 n) ≡ false) {t : Bool} (d : t ≡ is_line s) where
    some : 1 ≤ length s
    some = let z = neither (eqb n 0) (ltb 128 n) w in omega (arith, en, eqb-false n 0 z.0)

    short : length s ≤ 128
    short = let z = neither (eqb n 0) (ltb 128 n) w in omega (arith, en, ltb-false 128 n z.1)

    -- 8, by a byte
    module _ (e : t ≡ false) where
      unclean : read_pattern s ≡ refused PatternSyntax
      unfolding read_pattern
      unclean = rw (le-leb 1 (length s) some, le-leb (length s) 128 short, sym d ∙ e) refl

      pub unclean-tables : (c : Case) → Err PatternSyntax ≡ tables_of c (read_pattern s)
      unclean-tables c = rw unclean refl

    -- or as its branches say
    module _ (e : t ≡ true) where
      same : counted (read_branches (length s) s) ≡ read_pattern s
      unfolding read_pattern
      same = rw (le-leb 1 (length s) some, le-leb (length s) 128 short, sym d ∙ e) refl

      pub clean-tables : (c : Case) {v : Result Tables Refusal} → v ≡ tables_of c (counted (read_branches (length s) s)) → v ≡ tables_of c (read_pattern s)
      clean-tables c g = g ∙ ap (tables_of c) same
