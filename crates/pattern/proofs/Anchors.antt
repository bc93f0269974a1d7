-- Whole branches: the anchors around pieces, and one law for each way out.
use Prim.Native.Nat.{ℕ, ◌+◌, ◌-◌, ◌*◌, ◌≤◌}
use native.Mathlib.Omega.{arith}
use mathlib.Core.Path.{◌≡◌, refl, ◌∙◌}
use mathlib.Core.Bool.{Bool, true, false}
use mathlib.Core.List.{List}
use mathlib.Core.Option.{Option, some}
use lib.Dec.{eqb}
use lib.ListN.{length, length-drop}
use borrow.Author.Tests.{ne_eqb}
use Rattle.brackets.specs.Sets.{set_of}
use Rattle.std.specs.Prelude.{Some, None}
use Rattle.pattern.specs.declared.branch.BranchShape.{BranchShape}
use Rattle.pattern.specs.declared.cursor.Cursor.{Cursor}
use Rattle.pattern.specs.declared.shape.Moves.{Moves}
use Rattle.pattern.specs.declared.shape.Shape.{Shape}
use Rattle.brackets.specs.Brackets.{Parsed, parsed, fault, at}
use Rattle.pattern.specs.Reader.{Mode, ends_pieces, enough, ended_by, anchored, read_rest, read_branch}
use Rattle.pattern.specs.Cycle.{Moved, Past, left, byte_at, Reads}
use Rattle.pattern.specs.Branches.{shape_in, keys_in, enter_in, EndBy, EndDone, BranchRead, BranchDone, ReadsBranch, ReadsRest}
use Rattle.pattern.proofs.Cycles.{View, view, byte-behind, from-behind, past-left, then-skip, then-still}
use Rattle.pattern.specs.Form.{Expr, Branch, atoms_in}

-- pieces, or none, were read from the cursor c up to d: the bytes left, their shape, and what they make of the tables
record PiecesRead (c d : Cursor) (e : Option Expr) (rest : List ℕ) (p : Shape) (moves moves' : Moves) : Type 0 where
  here : rest ≡ left d
  moved : Moved c (length c.bytes.now - length rest) (c.atoms + atoms_in e) d
  shape : p ≡ shape_in c.atoms e
  keyed : moves'.keys ≡ keys_in (set_of c.case) c.atoms e moves.keys
  entered : moves'.enter ≡ enter_in c.atoms e moves.enter

-- and an optional `$` stands there
module _ {rest : List ℕ} {moves moves' : Moves} {c d : Cursor} {e : Option Expr} {p : Shape} (start : Bool) (v : PiecesRead c d e rest p moves moves') where
  done_end : (r : Cursor × BranchShape) → EndDone d start p r → BranchDone c moves (Some r) moves' (anchored start e rest)
  done_end r f = rw (byte-behind d v.here refl) (go (eqb (byte_at d) 36) f)
    where
      go : (t : Bool) → EndBy t d start p r → BranchDone c moves (Some r) moves' (ended_by t start e rest)
      go true (m, q) = record { moved = then-skip rest v.here v.moved m; shape = q ∙ rw v.shape refl; keyed = v.keyed; entered = v.entered }
      go false (m, q) = record { moved = then-still v.moved m; shape = q ∙ rw v.shape refl; keyed = v.keyed; entered = v.entered }

module _ (c : Cursor) (moves : Moves) (start : Bool) (b : ℕ) (eb : b ≡ byte_at c) (t : Bool) (et : t ≡ ends_pieces b) where
  front : at 0 (left c) ≡ b
  front = byte-behind c refl eb

  -- pieces
  module _ (some-piece : t ≡ false) (moves' : Moves) where
    bound : 4 * (length c.bytes.now - c.at) + 2 ≤ enough (left c)
    bound = rw length-drop (omega arith)

    pub rest-pieces : (d : Cursor) (p : Shape) (r : Cursor × BranchShape) → Reads Mode.branch c moves (Some (d, p)) moves' → EndDone d start p r → ReadsRest start c moves (Some r) moves'
    rest-pieces d p r h f = go (view Mode.branch c moves moves' (d, p) h (enough (left c)) bound)
      where
        go : View Mode.branch c moves (d, p) moves' (enough (left c)) → ReadsRest start c moves (Some r) moves'
        go v =
            let m = v.made in
            let pieces : PiecesRead c d (some v.expr) v.rest p moves moves' =
            record { here = v.here; moved = m.moved; shape = m.shape; keyed = m.keyed; entered = m.entered } in
            rw (front, ← et, some-piece, v.reading) (done_end start pieces r f)

-- the optional `^`
module _ (c : Cursor) (moves moves' : Moves) (b : ℕ) (eb : b ≡ byte_at c) (y : BranchRead) where
  pub branch-start : b ≡ 94 → (n : Cursor) → Past c n → ReadsRest true n moves y moves' → ReadsBranch c moves y moves'
  unfolding read_branch
  branch-start e n en h = rw (byte-behind c refl eb, e, ← past-left en) (same y (read_rest true (left n)) h)
    where
      same : (y : BranchRead) (z : Parsed Branch) → BranchDone n moves y moves' z → BranchDone c moves y moves' z
      same (Some r) (parsed t rest) k =
          record {
            moved = from-behind _ _ en k.moved;
            shape = k.shape ∙ rw en.many refl;
            keyed = k.keyed ∙ rw (en.many, en.held) refl;
            entered = k.entered ∙ rw en.many refl;
          }
      same (Some r) fault k = k
      same None (parsed t rest) k = k
      same None fault k = k

  pub branch-free : (b ≡ 94 → ⊥) → ReadsRest false c moves y moves' → ReadsBranch c moves y moves'
  unfolding read_branch
  branch-free e h = let front : at 0 (left c) ≡ b = byte-behind c refl eb in rw (front, ne_eqb _ _ e) (rw front at h)
