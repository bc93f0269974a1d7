-- What reading a pattern yields, by the definitions on its tree: the tables of its automaton, or a refusal.
use Rattle.std.specs.Prelude.{ℕ, ◌+◌, ◌≤◌, ◌≡◌, ◌||◌, cond, List, Option, Some, None, Result, Ok, Err, eqb}
use Rattle.std.specs.Int.Bits.{bit_or}
use Rattle.stateset.specs.Set.{word}
use Rattle.refusal.specs.declared.Refusal.{Refusal}
use Rattle.refusal.specs.Figures.{Figures, answered, refused_with}
use Rattle.letters.specs.declared.Case.{Case}
use Rattle.pattern.specs.declared.automaton.Accepting.{Accepting}
use Rattle.pattern.specs.declared.automaton.Tables.{Tables}
use Rattle.pattern.specs.declared.summary.Summary.{Summary}
use Rattle.pattern.specs.Reader.{Read, accepted, refused, read_pattern}
use Rattle.pattern.specs.States.{ends_free, holds_key, atom_word}
use Rattle.pattern.specs.Moves.{enters, jumps, accepting}
use Rattle.pattern.specs.Meaning.{Query, query}
use Rattle.pattern.specs.Form.{Pattern, atom_count}
use Rattle.stateset.specs.Tabled.{tabled}

-- for each key, the atoms whose set has it; for each state, the atoms that it may enter
unfoldable pub key_table : Query → List ℕ
key_table t = tabled (λ c. atom_word (λ k. holds_key t k c)) 256 0

unfoldable pub enter_table : Pattern → List ℕ
enter_table t = tabled (λ q. atom_word (enters t q)) 32 0

-- what the moves into found and a line's end need: the states that every key but LF leads to found, "found to itself" and those
-- that jump; the atoms whose entering also enters found; the accepting states; how many states there are
unfoldable pub accepts : Pattern → Accepting
accepts t = record {
  always = word 32 (λ q. eqb q 2 || jumps t q);
  ends = atom_word (ends_free t);
  accepting = word 32 (accepting t);
  states = 3 + atom_count t;
}

-- the tables and words are those of t, which has few atoms; the sets matter for the table of keys alone
pub record Automaton (t : Query) (keys enter : List ℕ) (a : Accepting) : Type 0 where
  pub keyed : keys ≡ key_table t
  pub entered : enter ≡ enter_table t.tree
  pub words : a ≡ accepts t.tree
  pub few : atom_count t.tree ≤ 29

-- "A refusal's other numbers are 0"
abbrev pub refused_pattern : Refusal → Figures Accepting
refused_pattern r = refused_with (record { always = 0; ends = 0; accepting = 0; states = 0 }) r

-- the figures of an answer
abbrev pub verdict_figures : Result Tables Refusal → Figures Accepting
verdict_figures (Ok a) = answered a.accepting
verdict_figures (Err r) = refused_pattern r

-- the figures of a reading
abbrev pub read_figures : Read → Figures Accepting
read_figures (accepted t) = answered (accepts t)
read_figures (refused r) = refused_pattern r

-- the table of entering of an answer, and of a reading; none where it is refused
abbrev pub entered_by : Result Tables Refusal → Option (List ℕ)
entered_by (Ok a) = Some a.enter
entered_by (Err r) = None

abbrev pub enter_read : Read → Option (List ℕ)
enter_read (accepted t) = Some (enter_table t)
enter_read (refused r) = None

-- the tables of a reading, or why it is refused
abbrev pub tables_of : Case → Read → Result Tables Refusal
tables_of c (accepted t) = Ok (record { keys = key_table (query c t); enter = enter_table t; accepting = accepts t })
tables_of c (refused r) = Err r

-- v is what reading pattern p answers. Whether case is ignored matters for the table of keys alone (`verdict-alike`).
abbrev pub TablesOn : Case → List ℕ → Result Tables Refusal → Type 0
TablesOn c p v = v ≡ tables_of c (read_pattern p)

-- what the branches come to: the states in which a line always matches, and those in which it does at its end
abbrev pub always_of : Summary → ℕ
always_of a = bit_or 4 (cond a.jump 1 0)

abbrev pub accepts_of : Summary → ℕ
accepts_of a = bit_or (bit_or 4 (cond a.empty 1 0)) a.anchored

-- and all of it, with n atoms
abbrev pub accepting_of : Summary → ℕ → Accepting
accepting_of a n = record { always = always_of a; ends = a.ends; accepting = accepts_of a; states = 3 + n }
