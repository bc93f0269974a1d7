-- What the branches of a pattern come to, by the definitions on its tree.
use Rattle.std.specs.Prelude.{ℕ, ◌+◌, ◌-◌, ◌≤◌, ◌≡◌, Bool, not, ◌&&◌, ◌||◌, cond, List, [], ◌∷◌, length, Some, None}
use Rattle.std.specs.Prelude as prelude
use Rattle.std.proofs.Math.Option.{Option}
use Rattle.std.specs.Int.Bits.{bit_or}
use Rattle.pattern.specs.declared.cursor.Cursor.{Cursor}
use Rattle.pattern.specs.declared.shape.Moves.{Moves}
use Rattle.pattern.specs.declared.shape.Shape.{Shape}
use Rattle.pattern.specs.declared.summary.Summary.{Summary}
use Rattle.brackets.specs.Sets.{set_of}
use Rattle.brackets.specs.Brackets.{Parsed, parsed, fault}
use Rattle.pattern.specs.Reader.{read_branches}
use Rattle.pattern.specs.Cycle.{left}
use Rattle.pattern.specs.Branches.{shape_in, keys_in, enter_in}
use Rattle.pattern.specs.Form.{Expr, Branch, Pattern, atoms_in, atom_count}

-- a summary with one branch more: its words, and the whole of them
abbrev pub first_with : Summary → Shape → ℕ
first_with a p = bit_or a.first p.first

abbrev pub free_with : Summary → Bool → Shape → ℕ
free_with a start p = cond (not start) (bit_or a.free p.first) a.free

abbrev pub ends_with : Summary → Shape → Bool → ℕ
ends_with a p end = cond (not end) (bit_or a.ends p.last) a.ends

abbrev pub anchored_with : Summary → Shape → Bool → ℕ
anchored_with a p end = cond end (bit_or a.anchored p.last) a.anchored

abbrev pub branch_summary : Summary → Bool → Shape → Bool → Summary
branch_summary a start p end = record {
  first = first_with a p;
  free = free_with a start p;
  ends = ends_with a p end;
  anchored = anchored_with a p end;
  empty = a.empty || p.nothing;
  jump = a.jump || (p.nothing && not (start && end));
}

-- the same of a branch whose atoms have the numbers from b on
abbrev pub with_branch : ℕ → Branch → Summary → Summary
with_branch b r a = branch_summary a r.start (shape_in b r.pieces) r.end

-- branches one after the other, whose atoms have the numbers from b on
unfoldable pub summary_of : ℕ → Pattern → Summary → Summary
summary_of b [] a = a
summary_of b (r ∷ rs) a = summary_of (b + atoms_in r.pieces) rs (with_branch b r a)

-- and a table that the pieces of each change
unfoldable pub through : (ℕ → Option Expr → List ℕ → List ℕ) → ℕ → Pattern → List ℕ → List ℕ
through f b [] l = l
through f b (r ∷ rs) l = through f (b + atoms_in r.pieces) rs (f b r.pieces l)

-- what the reader of branches hands out: how many atoms there are, and what the branches come to; or none
abbrev pub PatternRead : Type 0
PatternRead = prelude.Option (ℕ × Summary)

-- what the reader of branches at cursor c answers, where those before come to a
abbrev pub PatternDone : Cursor → Summary → Moves → PatternRead → Moves → Parsed Pattern → Type 0
PatternDone c a t r t' (parsed p rest) =
    (r ≡ Some (c.atoms + atom_count p, summary_of c.atoms p a))
    × (t'.keys ≡ through (keys_in (set_of c.case)) c.atoms p t.keys)
    × (t'.enter ≡ through enter_in c.atoms p t.enter)
PatternDone c a t r t' fault = r ≡ None

abbrev pub ReadsBranches : Cursor → Summary → Moves → PatternRead → Moves → Type 0
ReadsBranches c a t r t' = (f : ℕ) → length c.bytes.now - c.at ≤ f → PatternDone c a t r t' (read_branches f (left c))
