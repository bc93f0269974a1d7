-- Answers of the reader: the place and the table that belong to what was parsed.
use Prim.Native.Nat.{ℕ, ◌≤◌, ◌-◌}
use native.Mathlib.Omega.{arith}
use mathlib.Core.Path.{◌≡◌}
use mathlib.Core.List.{List}
use lib.ListN.{length, drop, length-drop}
use Rattle.letters.specs.declared.Case.{Case}
use Rattle.std.specs.Prelude.{Option, Some, None}
use Rattle.brackets.specs.declared.cursor.AtomCursor.{AtomCursor}
use Rattle.brackets.specs.Form.{Atom}
use Rattle.brackets.specs.Brackets.{Parsed, parsed, fault}
use Rattle.brackets.specs.Answers.{cursor_at, place_behind, keys_behind}

module _ (o : Parsed Atom) where
  -- a fault leaves the table
  pub fault-place : (n : ℕ) → o ≡ fault → None ≡ place_behind n o
  fault-place n e = rw e

  pub fault-table : (case : Case) (states : ℕ) (keys : List ℕ) → o ≡ fault → keys ≡ keys_behind case o states keys
  fault-table case states keys e = rw e

  -- another parse gives the same answer
  module _ (q : Parsed Atom) (e : o ≡ q) where
    pub same_place : (n : ℕ) (r : Option AtomCursor) → r ≡ place_behind n q → r ≡ place_behind n o
    same_place n r f = rw e f

    pub same-table : (case : Case) (states : ℕ) (before after : List ℕ) → after ≡ keys_behind case q states before → after ≡ keys_behind case o states before
    same-table case states before after f = rw e f

-- what was read ends before place q
pub behind-place : (a : Atom) (s : List ℕ) (q : ℕ) → q ≤ length s → Some (cursor_at q) ≡ place_behind (length s) (parsed a (drop q s))
behind-place a s q h = rw (← place)
  where
    place : q ≡ length s - length (drop q s)
    place = rw length-drop (omega arith)
