-- The tables that reading a pattern yields are its moves and its accepting states.
use Prim.Native.Nat.{ℕ, ◌<◌, ◌≤◌}
use native.Mathlib.Omega.{arith}
use mathlib.Core.Path.{◌≡◌, refl, sym, ◌∙◌}
use mathlib.Core.Logic.{◌↔◌}
use mathlib.Core.Bool.{Bool, true, false, ◌&&◌}
use mathlib.Core.List.{List}
use lib.Dec.{ltb}
use borrow.Author.Tests.{ltb-true, ltb-false}
use Rattle.runs.specs.Keys.{line_key}
use Rattle.runs.proofs.Tests.{torn, and-snd}
use Rattle.stateset.specs.Set.{bit, word, any_below}
use Rattle.stateset.proofs.Sets.{bit_word, word-high}
use Rattle.stateset.proofs.Some.{Witness, any-iff}
use Rattle.stateset.proofs.Common.{common-word}
use Rattle.letters.specs.declared.Case.{Case}
use Rattle.pattern.specs.Meaning.{Query, query}
use Rattle.pattern.specs.Form.{Pattern, atom_count}
use Rattle.pattern.specs.Reader.{accepted, read_pattern}
use Rattle.pattern.specs.Moves.{states, move, accepting}
use Rattle.pattern.specs.Automata.{Automaton, TablesOn}
use Rattle.pattern.specs.declared.automaton.Accepting.{Accepting}
use Rattle.pattern.specs.declared.automaton.Tables.{Tables}
use Rattle.std.specs.Prelude.{Result, Ok}
use Rattle.refusal.specs.declared.Refusal.{Refusal}
use Rattle.pattern.proofs.AcceptedLines.{move-below}
use Rattle.pattern.proofs.Readings.{read-accepted, accepting-of, states-of}
use Rattle.lines.specs.Moving.{moved, has_accepting, looked_up}
use Rattle.lines.proofs.Reaching.{looked-up}

-- some state of the set x has X; "at most 29 atoms", so there are 32 states at the most
abbrev pub SomeState : ℕ → (ℕ → Bool) → Type 0
SomeState x X = Witness 32 (λ q. bit x q && X q)

-- Document 01, "States and steps": what is looked up for any set x of states
pub record TablesAreMoves (t : Query) (keys enter : List ℕ) (a : Accepting) : Type 0 where
  -- "Moves on a key other than LF": state p is led to exactly if a move leads there from some state of x
  pub moves : (x k : ℕ) → line_key k ≡ true → (p : ℕ) → (bit (looked_up keys enter a x k) p ≡ true) ↔ SomeState x (λ q. move t q k p)
  -- "Accepting": the test of a line's end passes exactly if some state of x is accepting
  pub accepts : (x : ℕ) → (has_accepting a x ≡ true) ↔ SomeState x (accepting t.tree)
  -- "s = atoms + 3"
  pub size : a.states ≡ states t

-- the states that a key leads to
moved-iff : (t : Query) → atom_count t.tree ≤ 29 → (x k p : ℕ) → (bit (moved t x k) p ≡ true) ↔ SomeState x (λ q. move t q k p)
unfolding moved
moved-iff t few x k p = (λ h. from (ltb p 32) refl h, λ w. bit_word 32 led p (below w) ∙ some.1 w)
  where
    led : ℕ → Bool
    led r = any_below 32 (λ q. bit x q && move t q k r)

    some : (led p ≡ true) ↔ SomeState x (λ q. move t q k p)
    some = any-iff 32 (λ q. bit x q && move t q k p)

    from : (b : Bool) → ltb p 32 ≡ b → bit (word 32 led) p ≡ true → SomeState x (λ q. move t q k p)
    from true e h = some.0 (sym (bit_word 32 led p (ltb-true p 32 e)) ∙ h)
    from false e h = torn (bit (word 32 led) p) h (word-high 32 led p (ltb-false p 32 e))

    below : SomeState x (λ q. move t q k p) → p < 32
    below w = omega (arith, move-below t w.which k p (and-snd (bit x w.which) (move t w.which k p) w.has))

-- the tables of a tree
automaton-moves : {t : Query} {keys enter : List ℕ} {a : Accepting} → Automaton t keys enter a → TablesAreMoves t keys enter a
automaton-moves {t} {keys} {enter} {a} d =
    record {
      moves = λ x k l p. rw (looked-up d x k l) (moved-iff t d.few x k p);
      accepts = λ x. rw (accepting-of d, common-word 32 x (accepting t.tree) (omega arith)) (any-iff 32 (λ q. bit x q && accepting t.tree q));
      size = states-of d;
    }

-- what `read_pattern` promises: where it accepts pattern p, with tree t, the tables are t's moves
module _ (c : Case) (p : List ℕ) {v : Result Tables Refusal} (f : TablesOn c p v) where
  pub tables-are-moves : {t : Pattern} {a : Tables} → read_pattern p ≡ accepted t → v ≡ Ok a → TablesAreMoves (query c t) a.keys a.enter a.accepting
  tables-are-moves {t} {a} e h =
      let r = read-accepted c p f h in
      let same : r.tree ≡ t = cc r.reading in
      rw same at (automaton-moves r.tables)
