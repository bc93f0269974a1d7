-- What the readers of whole branches promise: the tree of the bytes at the cursor, in the form of its shape and tables.
use Rattle.std.specs.Prelude.{ℕ, ◌+◌, ◌-◌, ◌≡◌, ⊤, Bool, true, cond, List, eqb, length, Some, None}
use Rattle.std.specs.Prelude as prelude
use Rattle.std.proofs.Math.Option.{Option, none, some}
use Rattle.pattern.specs.declared.branch.BranchShape.{BranchShape}
use Rattle.pattern.specs.declared.cursor.Cursor.{Cursor}
use Rattle.pattern.specs.declared.shape.Moves.{Moves}
use Rattle.pattern.specs.declared.shape.Shape.{Shape}
use Rattle.brackets.specs.Sets.{Sets, set_of}
use Rattle.brackets.specs.Brackets.{Parsed, parsed, fault}
use Rattle.pattern.specs.Reader.{read_rest, read_branch}
use Rattle.pattern.specs.Tables.{keys_after, enter_after, shape_of}
use Rattle.pattern.specs.Cycle.{Moved, left, byte_at}
use Rattle.pattern.specs.Form.{Expr, Branch, atoms_in}

-- the shape of the empty part
abbrev pub empty_shape : Shape
empty_shape = record { nothing = true; first = 0; last = 0 }

-- the shape and the tables of a branch's pieces; "A branch with no pieces takes the empty part."
abbrev pub shape_in : ℕ → Option Expr → Shape
shape_in b none = empty_shape
shape_in b (some e) = shape_of b e

abbrev pub keys_in : Sets → ℕ → Option Expr → List ℕ → List ℕ
keys_in S b none keys = keys
keys_in S b (some e) keys = keys_after S b e keys

abbrev pub enter_in : ℕ → Option Expr → List ℕ → List ℕ
enter_in b none enter = enter
enter_in b (some e) enter = enter_after b e enter

-- a branch read up to the cursor c, and past a `$` where t tells that one stands there
abbrev pub EndBy : Bool → Cursor → Bool → Shape → Cursor × BranchShape → Type 0
EndBy t c start p r = Moved c (cond t (c.at + 1) c.at) c.atoms r.0 × (r.1 ≡ record { start = start; pieces = p; end = t })

-- the optional `$` at the cursor
abbrev pub EndDone : Cursor → Bool → Shape → Cursor × BranchShape → Type 0
EndDone c start p r = EndBy (eqb (byte_at c) 36) c start p r

-- what a reader of a branch hands out: the cursor behind it, and its shape; or none
abbrev pub BranchRead : Type 0
BranchRead = prelude.Option (Cursor × BranchShape)

-- a branch was read at cursor c, up to the bytes `rest`: its shape, and what it makes of the tables
pub record BranchMade (c : Cursor) (b : Branch) (rest : List ℕ) (t : Moves) (r : Cursor × BranchShape) (t' : Moves) : Type 0 where
  pub moved : Moved c (length c.bytes.now - length rest) (c.atoms + atoms_in b.pieces) r.0
  pub shape : r.1 ≡ record { start = b.start; pieces = shape_in c.atoms b.pieces; end = b.end }
  pub keyed : t'.keys ≡ keys_in (set_of c.case) c.atoms b.pieces t.keys
  pub entered : t'.enter ≡ enter_in c.atoms b.pieces t.enter

-- what a reader of a branch at cursor c answers, and what it makes of the tables
abbrev pub BranchDone : Cursor → Moves → BranchRead → Moves → Parsed Branch → Type 0
BranchDone c t (Some r) t' (parsed b rest) = BranchMade c b rest t r t'
BranchDone c t (Some r) t' fault = ⊥
BranchDone c t None t' (parsed b rest) = ⊥
BranchDone c t None t' fault = ⊤

-- the answer at cursor c for a branch, and for what is left of one behind its `^` or without one
abbrev pub ReadsBranch : Cursor → Moves → BranchRead → Moves → Type 0
ReadsBranch c t r t' = BranchDone c t r t' (read_branch (left c))

abbrev pub ReadsRest : Bool → Cursor → Moves → BranchRead → Moves → Type 0
ReadsRest start c t r t' = BranchDone c t r t' (read_rest start (left c))
