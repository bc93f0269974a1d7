-- What the answer of a reading says of the pattern.
use Prim.Native.Nat.{ℕ, ◌≤◌}
use native.Mathlib.Omega.{arith}
use mathlib.Core.Path.{◌≡◌, refl, sym, ap, ◌∙◌}
use mathlib.Core.Bool.{Bool, true, false, ◌&&◌, ◌||◌, cond}
use mathlib.Core.List.{List}
use lib.Dec.{leb, eqb}
use lib.ListN.{length}
use borrow.Author.Tests.{leb-true}
use Rattle.refusal.specs.declared.Refusal.{Refusal}
use Rattle.refusal.specs.declared.Refusal.TheVariants.{PatternLength, PatternSyntax, TooManyAtoms}
use Rattle.refusal.specs.Figures.{Figures}
use Rattle.refusal.proofs.Number.{number-positive, number-injective}
use Rattle.letters.specs.declared.Case.{Case}
use Rattle.pattern.specs.Meaning.{Query, query}
use Rattle.pattern.specs.declared.automaton.Accepting.{Accepting}
use Rattle.pattern.specs.Reader.{Read, accepted, refused, counted, read_branches, read_pattern}
use Rattle.brackets.specs.Brackets.{Parsed, parsed, fault}
use Rattle.pattern.specs.Automata.{Automaton, refused_pattern, verdict_figures, read_figures, entered_by, enter_read, tables_of, accepts, enter_table, key_table, TablesOn}
use Rattle.pattern.specs.declared.automaton.Tables.{Tables}
use Rattle.std.specs.Prelude.{Result, Ok, Err}
use Rattle.std.proofs.lemmas.Option.{same_Some}
use Rattle.pattern.specs.States.{ends_free, atom_word}
use Rattle.pattern.specs.Moves.{states, jumps, accepting}
use Rattle.stateset.specs.Set.{word}
use Rattle.runs.proofs.Tests.{clash}
use Rattle.pattern.specs.Form.{Pattern, atom_count}
use Rattle.runs.specs.Keys.{is_line}

-- an accepted pattern has at most 29 atoms
counted-few : (r : Parsed Pattern) (t : Pattern) → counted r ≡ accepted t → atom_count t ≤ 29
counted-few (parsed u rest) t e = go (leb (atom_count u) 29) (λ f. leb-true (atom_count u) 29 f) e
  where
    go : (b : Bool) → (b ≡ true → atom_count u ≤ 29) → cond b (accepted u) (refused TooManyAtoms) ≡ accepted t → atom_count t ≤ 29
    go true f h = let same : u ≡ t = cc in rw (← same) (f refl)
    go false f h = clash (cc)
counted-few fault t e = clash (cc)

pub accepted-few : (p : List ℕ) (t : Pattern) → read_pattern p ≡ accepted t → atom_count t ≤ 29
unfolding read_pattern
accepted-few p t e = go (leb 1 (length p) && leb (length p) 128) (is_line p) e
  where
    go : (a b : Bool) → cond a (cond b (counted (read_branches (length p) p)) (refused PatternSyntax)) (refused PatternLength) ≡ accepted t → atom_count t ≤ 29
    go true true h = counted-few (read_branches (length p) p) t h
    go true false h = clash (cc)
    go false b h = clash (cc)

-- a pattern that is accepted: its tree, and its tables
pub record AcceptedAs (c : Case) (p : List ℕ) (a : Tables) : Type 0 where
  pub tree : Pattern
  pub reading : read_pattern p ≡ accepted tree
  pub tables : Automaton (query c tree) a.keys a.enter a.accepting

-- what `read_pattern` promises
module _ (c : Case) (p : List ℕ) {v : Result Tables Refusal} (f : TablesOn c p v) where
  pub read-accepted : {a : Tables} → v ≡ Ok a → AcceptedAs c p a
  read-accepted {a} h = go (read_pattern p) refl (sym h ∙ f)
    where
      go : (r : Read) → read_pattern p ≡ r → Ok a ≡ tables_of c r → AcceptedAs c p a
      go (accepted t) e g =
          let same : a ≡ record { keys = key_table (query c t); enter = enter_table t; accepting = accepts t } = cc in
          record {
            tree = t;
            reading = e;
            tables = record { keyed = ap (λ (x : Tables). x.keys) same; entered = ap (λ (x : Tables). x.enter) same; words = ap (λ (x : Tables). x.accepting) same; few = accepted-few p t e };
          }
      go (refused r) e g = clash (cc)

-- a pattern that is refused: the choice and the tables play no part
pub read-refused : (p : List ℕ) {v : Result Tables Refusal} {r : Refusal} → verdict_figures v ≡ read_figures (read_pattern p) → v ≡ Err r → read_pattern p ≡ refused r
read-refused p {v} {r} f h = go (read_pattern p) refl (sym (ap verdict_figures h) ∙ f)
  where
    go : (d : Read) → read_pattern p ≡ d → refused_pattern r ≡ read_figures d → read_pattern p ≡ refused r
    go (accepted t) e g = absurd (omega (arith, number-positive r, ap (λ (x : Figures Accepting). x.refusal) g))
    go (refused s) e g = e ∙ ap refused (number-injective s r (sym (ap (λ (x : Figures Accepting). x.refusal) g)))

-- the figures of an answer
pub tables-figures : (c : Case) (d : Read) → verdict_figures (tables_of c d) ≡ read_figures d
tables-figures c (accepted t) = refl
tables-figures c (refused r) = refl

pub tables-told : (c : Case) (d : Read) {v : Result Tables Refusal} → v ≡ tables_of c d → verdict_figures v ≡ read_figures d
tables-told c d e = ap verdict_figures e ∙ tables-figures c d

-- and its table of entering
pub tables-entered : (c : Case) (d : Read) {v : Result Tables Refusal} → v ≡ tables_of c d → entered_by v ≡ enter_read d
tables-entered c d e = ap entered_by e ∙ go d
  where
    go : (r : Read) → entered_by (tables_of c r) ≡ enter_read r
    go (accepted t) = refl
    go (refused r) = refl

-- Read by either choice, a pattern is accepted or refused alike, with the same number of atoms and of states, and the same table of entering.
pub verdict-alike : (c d : Case) (p : List ℕ) {v w : Result Tables Refusal} → TablesOn c p v → TablesOn d p w → (verdict_figures v ≡ verdict_figures w) × ((a b : Tables) → v ≡ Ok a → w ≡ Ok b → a.enter ≡ b.enter)
verdict-alike c d p {v} {w} f g = (
  tables-told c (read_pattern p) f ∙ sym (tables-told d (read_pattern p) g),
  λ a b h k. same_Some a.enter b.enter (ap entered_by (sym h) ∙ tables-entered c (read_pattern p) f ∙ sym (tables-entered d (read_pattern p) g) ∙ ap entered_by k),
)

pub states-alike : (c d : Case) (t : Pattern) → states (query c t) ≡ states (query d t)
states-alike c d t = refl

-- the words of an automaton
module _ {t : Query} {keys enter : List ℕ} {a : Accepting} (d : Automaton t keys enter a) where
  pub always-of : a.always ≡ word 32 (λ q. eqb q 2 || jumps t.tree q)
  unfolding accepts
  always-of = ap (λ (x : Accepting). x.always) d.words

  pub ends_of_lem : a.ends ≡ atom_word (ends_free t.tree)
  unfolding accepts
  ends_of_lem = ap (λ (x : Accepting). x.ends) d.words

  pub accepting-of : a.accepting ≡ word 32 (accepting t.tree)
  unfolding accepts
  accepting-of = ap (λ (x : Accepting). x.accepting) d.words

  pub states-of : a.states ≡ states t
  unfolding accepts
  states-of = ap (λ (x : Accepting). x.states) d.words
