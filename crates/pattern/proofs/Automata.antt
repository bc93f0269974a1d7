-- The tables that a whole pattern was read into are those of its tree.
use Prim.Native.Nat.{ℕ, zero, suc, ◌+◌, ◌-◌, ◌<◌, ◌≤◌}
use native.Mathlib.Omega.{arith}
use native.Mathlib.Nat.{zero-add}
use mathlib.Core.Path.{◌≡◌, refl, sym, ap, ◌∙◌}
use mathlib.Core.Bool.{Bool, true, false, not, ◌&&◌, ◌||◌, cond, or_assoc, or-false}
use mathlib.Core.List.{List, [], ◌∷◌}
use mathlib.Core.Option.{Option, none, some}
use lib.Bits.{bit_or, or_zero_r, or_zero_l}
use lib.Dec.{leb, ltb}
use lib.ListN.{length, set, replicate, length-replicate, get_or-replicate}
use lib.Seq.{ext_get_or}
use borrow.Author.Tests.{le-leb, lt-ltb}
use Rattle.refusal.specs.declared.Refusal.{Refusal}
use Rattle.letters.specs.declared.Case.{Case}
use Rattle.brackets.specs.Sets.{set_of}
use Rattle.pattern.specs.Meaning.{Query, query}
use Rattle.pattern.specs.declared.automaton.Accepting.{Accepting}
use Rattle.pattern.specs.declared.cursor.Cursor.{Cursor}
use Rattle.std.specs.Prelude.{Some, None}
use Rattle.std.proofs.lemmas.Option.{some_pair_parts}
use Rattle.pattern.specs.declared.shape.Moves.{Moves}
use Rattle.pattern.specs.declared.summary.Summary.{Summary}
use Rattle.brackets.specs.Brackets.{Parsed, parsed, fault}
use Rattle.pattern.specs.Reader.{Read, accepted, read_branches, counted}
use Rattle.pattern.specs.States.{nothing_in, in_pieces, first, last, follow, holds, some_branch, first_in_branch, first_in_free, ends_free, ends_anchored, holds_key, empty_branch, empty_free, atom_word}
use Rattle.pattern.specs.Tables.{is_atom}
use Rattle.pattern.specs.Branches.{shape_in, keys_in, enter_in}
use Rattle.pattern.specs.Summaries.{with_branch, summary_of, through, PatternDone, ReadsBranches, PatternRead}
use Rattle.pattern.specs.Moves.{enters}
use Rattle.pattern.specs.Cycle.{Starts, left}
use Rattle.pattern.specs.Automata.{key_table, enter_table, accepts, accepting_of, tables_of}
use Rattle.pattern.specs.declared.automaton.Tables.{Tables}
use Rattle.std.specs.Prelude.{Result, Ok}
use Rattle.brackets.proofs.Entries.{with-same, with-with, with_none, with-length, with-get_or}
use Rattle.pattern.proofs.Moving.{always-word, accepting-word}
use Rattle.pattern.proofs.AtomTables.{atoms-none, atoms-same, with_atoms, both-added, added-if}
use Rattle.pattern.specs.Form.{Expr, Branch, Pattern, atoms_in, atom_count}
use Rattle.stateset.specs.Tabled.{tabled}
use Rattle.stateset.proofs.Tabled.{tabled-same, tabled-length, tabled-at, tabled-next}
use Rattle.runs.proofs.Tests.{clash}
use Rattle.brackets.specs.Answers.{map_with}

-- the word of no atom adds nothing
none-added : (x : ℕ) → bit_or x (atom_word (λ k. false)) ≡ x
none-added x = rw (atoms-none (λ k. false) (λ k. refl)) (or_zero_r x)

-- what the branches add to a word of the summary
module _ (field : Summary → ℕ) (P : ℕ → Branch → ℕ → Bool) (one : (b : ℕ) (r : Branch) (a : Summary) → field (with_branch b r a) ≡ with_atoms (field a) (P b r)) where
  gathered : (t : Pattern) (b : ℕ) (a : Summary) → field (summary_of b t a) ≡ with_atoms (field a) (λ k. some_branch (λ c r. P c r k) b t)
  unfolding summary_of some_branch
  gathered [] b a = sym (none-added (field a))
  gathered (r ∷ rs) b a =
      let others : ℕ → Bool = λ k. some_branch (λ c r. P c r k) (b + atoms_in r.pieces) rs in
      gathered rs (b + atoms_in r.pieces) (with_branch b r a)
      ∙ ap (λ (x : ℕ). bit_or x (atom_word others)) (one b r a)
      ∙ both-added (P b r) others (λ k. P b r k || others k) (λ k. refl) (field a)

-- and to a test of it
module _ (field : Summary → Bool) (P : ℕ → Branch → Bool) (one : (b : ℕ) (r : Branch) (a : Summary) → field (with_branch b r a) ≡ (field a || P b r)) where
  told : (t : Pattern) (b : ℕ) (a : Summary) → field (summary_of b t a) ≡ (field a || some_branch P b t)
  unfolding summary_of some_branch
  told [] b a = sym (or-false (field a))
  told (r ∷ rs) b a =
      told rs (b + atoms_in r.pieces) (with_branch b r a)
      ∙ ap (λ (x : Bool). x || some_branch P (b + atoms_in r.pieces) rs) (one b r a)
      ∙ or_assoc (field a) (P b r) (some_branch P (b + atoms_in r.pieces) rs)

-- the shape of pieces
pieces-first : (b : ℕ) (o : Option Expr) → (shape_in b o).first ≡ atom_word (λ k. in_pieces (λ e. first b e k) o)
pieces-first b none = sym (atoms-none (λ k. false) (λ k. refl))
pieces-first b (some e) = refl

pieces-last : (b : ℕ) (o : Option Expr) → (shape_in b o).last ≡ atom_word (λ k. in_pieces (λ e. last b e k) o)
pieces-last b none = sym (atoms-none (λ k. false) (λ k. refl))
pieces-last b (some e) = refl

pieces-nothing : (b : ℕ) (o : Option Expr) → (shape_in b o).nothing ≡ nothing_in o
pieces-nothing b none = refl
pieces-nothing b (some e) = refl

-- the summary of a pattern before any branch
abbrev blank : Summary
blank = record { first = 0; free = 0; ends = 0; anchored = 0; empty = false; jump = false }

module _ (t : Pattern) where
  all_first : (summary_of 0 t blank).first ≡ atom_word (first_in_branch t)
  all_first = gathered (λ a. a.first) (λ b r k. in_pieces (λ e. first b e k) r.pieces) (λ b r a. ap (bit_or a.first) (pieces-first b r.pieces)) t 0 blank ∙ or_zero_l _

  all-free : (summary_of 0 t blank).free ≡ atom_word (first_in_free t)
  all-free =
      gathered (λ a. a.free) (λ b r k. not r.start && in_pieces (λ e. first b e k) r.pieces)
      (λ b r a. ap (λ (x : ℕ). cond (not r.start) (bit_or a.free x) a.free) (pieces-first b r.pieces) ∙ added-if (not r.start) (λ k. in_pieces (λ e. first b e k) r.pieces) a.free)
      t 0 blank ∙ or_zero_l _

  all-ends : (summary_of 0 t blank).ends ≡ atom_word (ends_free t)
  all-ends =
      gathered (λ a. a.ends) (λ b r k. not r.end && in_pieces (λ e. last b e k) r.pieces)
      (λ b r a. ap (λ (x : ℕ). cond (not r.end) (bit_or a.ends x) a.ends) (pieces-last b r.pieces) ∙ added-if (not r.end) (λ k. in_pieces (λ e. last b e k) r.pieces) a.ends)
      t 0 blank ∙ or_zero_l _

  all-anchored : (summary_of 0 t blank).anchored ≡ atom_word (ends_anchored t)
  all-anchored =
      gathered (λ a. a.anchored) (λ b r k. r.end && in_pieces (λ e. last b e k) r.pieces)
      (λ b r a. ap (λ (x : ℕ). cond r.end (bit_or a.anchored x) a.anchored) (pieces-last b r.pieces) ∙ added-if r.end (λ k. in_pieces (λ e. last b e k) r.pieces) a.anchored)
      t 0 blank ∙ or_zero_l _

  all-empty : (summary_of 0 t blank).empty ≡ empty_branch t
  all-empty = told (λ a. a.empty) (λ b r. nothing_in r.pieces) (λ b r a. ap (λ (x : Bool). a.empty || x) (pieces-nothing b r.pieces)) t 0 blank

  all-jump : (summary_of 0 t blank).jump ≡ empty_free t
  all-jump = told (λ a. a.jump) (λ b r. nothing_in r.pieces && not (r.start && r.end)) (λ b r a. ap (λ (x : Bool). a.jump || (x && not (r.start && r.end))) (pieces-nothing b r.pieces)) t 0 blank

  pub accepts-all : (n : ℕ) → n ≡ atom_count t → accepting_of (summary_of 0 t blank) n ≡ accepts t
  unfolding accepts
  accepts-all n e = rw (all-ends, all-anchored, all-empty, all-jump, always-word t, accepting-word t, e) refl

-- a table whose entry q has the atoms of X q too
abbrev added : (ℕ → ℕ → Bool) → List ℕ → List ℕ
added X l = map_with (λ q x. with_atoms x (X q)) 0 l

-- what an expression adds to a table: the atoms of G
abbrev Adds : (ℕ → Option Expr → List ℕ → List ℕ) → (ℕ → Expr → ℕ → ℕ → Bool) → Type 0
Adds table G = (b : ℕ) (e : Expr) (l : List ℕ) → table b (some e) l ≡ added (G b e) l

-- what the branches add to the entries of a table
module _ (table : ℕ → Option Expr → List ℕ → List ℕ) (G : ℕ → Expr → ℕ → ℕ → Bool) (one : Adds table G) (no : (b : ℕ) (l : List ℕ) → table b none l ≡ l) where
  pieces-entries : (b : ℕ) (o : Option Expr) (l : List ℕ) → table b o l ≡ added (λ q k. in_pieces (λ e. G b e q k) o) l
  pieces-entries b none l = no b l ∙ sym (with_none _ (λ q x. none-added x) 0 l)
  pieces-entries b (some e) l = one b e l

  entries : (t : Pattern) (b : ℕ) (l : List ℕ) → through table b t l ≡ added (λ q k. some_branch (λ c r. in_pieces (λ e. G c e q k) r.pieces) b t) l
  unfolding through some_branch
  entries [] b l = sym (with_none _ (λ q x. none-added x) 0 l)
  entries (r ∷ rs) b l =
      ap (through table (b + atoms_in r.pieces) rs) (pieces-entries b r.pieces l)
      ∙ entries rs (b + atoms_in r.pieces) (added (λ q k. in_pieces (λ e. G b e q k) r.pieces) l)
      ∙ with-with _ _ 0 l
      ∙ with-same _ _
      (λ q x. both-added (λ k. in_pieces (λ e. G b e q k) r.pieces) (λ k. some_branch (λ c r. in_pieces (λ e. G c e q k) r.pieces) (b + atoms_in r.pieces) rs) (λ k. in_pieces (λ e. G b e q k) r.pieces || some_branch (λ c r. in_pieces (λ e. G c e q k) r.pieces) (b + atoms_in r.pieces) rs) (λ k. refl) x)
      0
      l

-- tables that begin with 0 everywhere
from_zero : (F : ℕ → ℕ) (n : ℕ) → map_with (λ q x. bit_or x (F q)) 0 (replicate n 0) ≡ tabled F n 0
from_zero F n =
    ext_get_or 0 (map_with (λ q x. bit_or x (F q)) 0 (replicate n 0)) (tabled F n 0) (long ∙ sym (tabled-length F n 0))
    (λ k h. let low : k < n = rw long at h in with-get_or (λ q x. bit_or x (F q)) 0 (replicate n 0) k (rw length-replicate low) ∙ rw (get_or-replicate {A = ℕ} n k 0 0 low) (or_zero_l (F k)) ∙ sym (tabled-at F n k low))
  where
    long : length (map_with (λ q x. bit_or x (F q)) 0 (replicate n 0)) ≡ n
    long = with-length (λ q x. bit_or x (F q)) 0 (replicate n 0) ∙ length-replicate n 0

pub keys-all : (t : Query) → through (keys_in t.sets) 0 t.tree (replicate 256 0) ≡ key_table t
unfolding key_table
keys-all t =
    entries (keys_in t.sets) (λ b e c k. holds t.sets b e k c) (λ b e l. refl) (λ b l. refl) t.tree 0 (replicate 256 0)
    ∙ from_zero (λ c. atom_word (λ k. holds_key t k c)) 256

module _ (t : Pattern) where
  -- a state that is found enters nothing, and one of an atom what follows it
  enters-later : (q : ℕ) → 2 ≤ q → q < 32 → atom_word (λ k. some_branch (λ c r. in_pieces (λ e. is_atom q && follow c e (q - 3) k) r.pieces) 0 t) ≡ atom_word (enters t q)
  unfolding enters some_branch
  enters-later zero g h = absurd (none_below g)
    where
      none_below : 2 ≤ 0 → ⊥
      none_below g = omega arith
  enters-later (suc zero) g h = absurd (none_below g)
    where
      none_below : 2 ≤ 1 → ⊥
      none_below g = omega arith
  enters-later (suc (suc zero)) g h = atoms-same _ _ (λ k. no-branch t 0)
    where
      no-piece : (o : Option Expr) → in_pieces (λ e. false) o ≡ false
      no-piece none = refl
      no-piece (some e) = refl

      no-branch : (t : Pattern) (b : ℕ) → some_branch (λ c r. in_pieces (λ e. false) r.pieces) b t ≡ false
      no-branch [] b = refl
      no-branch (r ∷ rs) b = rw (no-piece r.pieces, no-branch rs (b + atoms_in r.pieces)) refl
  enters-later (suc (suc (suc k))) g h =
      let low : leb 3 (suc (suc (suc k))) ≡ true = le-leb 3 (suc (suc (suc k))) (omega arith) in
      let high : ltb (suc (suc (suc k))) 32 ≡ true = lt-ltb (suc (suc (suc k))) 32 h in
      let back : suc (suc (suc k)) - 3 ≡ k = omega arith in
      rw (low, high, back) refl

  pub enter-all : set (set (through enter_in 0 t (replicate 32 0)) 0 (summary_of 0 t blank).first) 1 (summary_of 0 t blank).free ≡ enter_table t
  unfolding enter_table enters
  enter-all =
      let F : ℕ → ℕ = λ q. atom_word (λ k. some_branch (λ c r. in_pieces (λ e. is_atom q && follow c e (q - 3) k) r.pieces) 0 t) in
      let whole : through enter_in 0 t (replicate 32 0) ≡ tabled F 32 0 = entries enter_in (λ b e q k. is_atom q && follow b e (q - 3) k) (λ b e l. refl) (λ b l. refl) t 0 (replicate 32 0) ∙ from_zero F 32 in
      ap (λ (l : List ℕ). set (set l 0 (summary_of 0 t blank).first) 1 (summary_of 0 t blank).free) (whole ∙ parted F)
      ∙ two (summary_of 0 t blank).first (atom_word (enters t 0)) (summary_of 0 t blank).free (atom_word (enters t 1)) all-first' all-free' (tabled-same F (λ q. atom_word (enters t q)) 30 2 (λ q g h. enters-later q g h))
      ∙ sym (parted (λ q. atom_word (enters t q)))
    where
      parted : (H : ℕ → ℕ) → tabled H 32 0 ≡ H 0 ∷ H 1 ∷ tabled H 30 2
      parted H = tabled-next H 31 0 ∙ ap (λ (l : List ℕ). H 0 ∷ l) (tabled-next H 30 1)

      two : (a b c d : ℕ) {l m : List ℕ} → a ≡ b → c ≡ d → l ≡ m → a ∷ c ∷ l ≡ b ∷ d ∷ m
      two a b c d e f g = rw (e, f, g)

      all-first' : (summary_of 0 t blank).first ≡ atom_word (enters t 0)
      all-first' = all_first t

      all-free' : (summary_of 0 t blank).free ≡ atom_word (enters t 1)
      all-free' = all-free t

-- the answer with these tables
abbrev pub made : List ℕ → List ℕ → Accepting → Result Tables Refusal
made keys enter a = Ok (record { keys = keys; enter = enter; accepting = a })

-- the tables before anything was read
abbrev no_moves : Moves
no_moves = record { keys = replicate 256 0; enter = replicate 32 0 }

-- a whole pattern that has no byte 0 or 10, read from its start
module _ (s : List ℕ) (moves : Moves) (x : PatternRead) (case : Case) (c : Cursor) (start : Starts s case c) (h : ReadsBranches c blank no_moves x moves) where
  -- what it is
  abbrev result : Read
  result = counted (read_branches (length s) s)

  -- what the reader answers for it
  abbrev Done : Parsed Pattern → Type 0
  Done (parsed t rest) = (x ≡ Some (0 + atom_count t, summary_of 0 t blank)) × (moves.keys ≡ through (keys_in (set_of case)) 0 t (replicate 256 0)) × (moves.enter ≡ through enter_in 0 t (replicate 32 0))
  Done fault = x ≡ None

  read : Done (read_branches (length s) s)
  read = go (read_branches (length s) s) (rw whole at h (length s) (rw start.bytes (omega arith)))
    where
      whole : left c ≡ s
      whole = rw (start.start, start.bytes) refl

      go : (p : Parsed Pattern) → PatternDone c blank no_moves x moves p → Done p
      go (parsed t rest) (i, j, l) = (rw start.none at i, rw (start.none, start.held) at j, rw start.none at l)
      go fault i = i

  module _ (n : ℕ) (a : Summary) (f : x ≡ Some (n, a)) where
    -- an accepted one: its tree, and what was read
    record Fine : Type 0 where
      pub tree : Pattern
      pub reading : result ≡ accepted tree
      pub count : n ≡ atom_count tree
      pub sum : a ≡ summary_of 0 tree blank
      pub keyed : moves.keys ≡ through (keys_in (set_of case)) 0 tree (replicate 256 0)
      pub entered : moves.enter ≡ through enter_in 0 tree (replicate 32 0)

    module _ (few : n ≤ 29) where
      fine : Fine
      fine = go (read_branches (length s) s) refl read
        where
          go : (p : Parsed Pattern) → read_branches (length s) s ≡ p → Done p → Fine
          go (parsed t rest) q (i, j, l) =
              let (count, sum) = some_pair_parts n (0 + atom_count t) a _ (sym f ∙ i) in
              record { tree = t; reading = rw (q, le-leb (atom_count t) 29 (omega arith)) refl; count = count ∙ zero-add (atom_count t); sum = sum; keyed = j; entered = l }
          go fault q i = clash (cc)

      pub fine-tables : {p q : ℕ} {v : Accepting} → p ≡ 0 → q ≡ 1 → v ≡ accepting_of a n → made moves.keys (set (set moves.enter p a.first) q a.free) v ≡ tables_of case result
      fine-tables {p} {q} {v} i j g = rw fine.reading (together (fine.keyed ∙ keys-all (query case fine.tree)) entering words)
        where
          table : {b : Summary} {l : List ℕ} → a ≡ b → moves.enter ≡ l → set (set moves.enter 0 a.first) 1 a.free ≡ set (set l 0 b.first) 1 b.free
          table g h = rw (g, h) refl

          entering : set (set moves.enter p a.first) q a.free ≡ enter_table fine.tree
          entering = rw (i, j) (table fine.sum fine.entered ∙ enter-all fine.tree)

          words : v ≡ accepts fine.tree
          words = g ∙ ap (λ (b : Summary). accepting_of b n) fine.sum ∙ accepts-all fine.tree n fine.count

          together : {x y x' y' : List ℕ} {z z' : Accepting} → x ≡ x' → y ≡ y' → z ≡ z' → made x y z ≡ made x' y' z'
          together e f h = rw (e, f, h) refl
