-- The branches of a pattern, one after the other: what an answer says of a branch, and one law for each way out.
use Prim.Native.Nat.{ℕ, zero, suc, ◌+◌, ◌-◌, ◌<◌, ◌≤◌}
use native.Mathlib.Omega.{arith}
use native.Mathlib.Nat.{add_assoc, add-zero}
use mathlib.Core.Path.{◌≡◌, refl, sym, ap, ◌∙◌}
use mathlib.Core.Bool.{Bool, true, false, ◌||◌}
use mathlib.Core.List.{List, ◌∷◌}
use mathlib.Core.Option.{Option, none, some}
use lib.Dec.{eqb}
use lib.ListN.{length, drop, length-append}
use borrow.Author.Tests.{eq-eqb, ne_eqb}
use Rattle.letters.specs.declared.Case.{Case}
use Rattle.brackets.specs.Sets.{set_of}
use Rattle.std.specs.Prelude.{Some, None}
use Rattle.pattern.specs.declared.branch.BranchShape.{BranchShape}
use Rattle.pattern.specs.declared.cursor.Cursor.{Cursor}
use Rattle.pattern.specs.declared.shape.Moves.{Moves}
use Rattle.pattern.specs.declared.summary.Summary.{Summary}
use Rattle.brackets.specs.Brackets.{Parsed, parsed, fault, at, next, done}
use Rattle.pattern.specs.Reader.{read_branch, read_branches}
use Rattle.pattern.specs.Cycle.{Past, left, byte_at}
use Rattle.pattern.specs.Branches.{keys_in, enter_in, BranchMade, BranchDone, ReadsBranch}
use Rattle.pattern.specs.Summaries.{branch_summary, with_branch, summary_of, through, PatternRead, PatternDone, ReadsBranches}
use Rattle.pattern.proofs.Branches.{mark, behind_branch, branch-from}
use Rattle.pattern.proofs.Atoms.{reached}
use Rattle.pattern.proofs.Cycles.{atoms-some, atoms-written, byte-behind, nonzero, long, behind, past-left}
use Rattle.pattern.specs.Form.{Expr, Branch, Pattern, atoms_in, atom_count, write_pieces, write_branch, formed_pieces, formed_branch}
use Rattle.runs.proofs.Tests.{clash}
use Rattle.runs.proofs.KeyLaws.{line-drop}

-- how many bytes a branch is written with
abbrev bytes_of : Bool → Option Expr → Bool → ℕ
bytes_of s p e = length (mark 94 s) + (length (write_pieces p) + length (mark 36 e))

-- a branch has a byte, and at least as many as atoms
branch-long : (b : Branch) → formed_branch b ≡ true → (atoms_in b.pieces ≤ length (write_branch b)) × (1 ≤ length (write_branch b))
unfolding formed_branch write_branch
branch-long b h = rw (length-append, length-append) (go b.start b.pieces b.end h)
  where
    go : (s : Bool) (p : Option Expr) (e : Bool) → formed_pieces (s || e) p ≡ true → (atoms_in p ≤ bytes_of s p e) × (1 ≤ bytes_of s p e)
    go true none e f = (omega arith, omega arith)
    go false none true f = (omega arith, omega arith)
    go false none false f = clash (cc)
    go s (some x) e f = let many = atoms-written x in let one = atoms-some x in (omega arith, omega arith)

-- what follows a branch decides
stepped : (f : ℕ) (l m : List ℕ) (t : Branch) (b : ℕ) → read_branch l ≡ parsed t m → at 0 m ≡ b → read_branches (suc f) l ≡ behind_branch f t (eqb b 0) (eqb b 124) m
unfolding read_branches
stepped f l m t b e g = rw (e, g) refl

same_answer : {n k : ℕ} {a b : Summary} → n ≡ k → a ≡ b → ◌≡◌ {A = PatternRead} (Some (n, a)) (Some (k, b))
same_answer e f = rw (e, f)

-- an answer of the branch's reader says what was read, and where reading goes on
pub record BranchView (c : Cursor) (moves : Moves) (r : Cursor × BranchShape) (moves' : Moves) : Type 0 where
  pub tree : Branch
  pub rest : List ℕ
  pub reading : read_branch (left c) ≡ parsed tree rest
  pub made : BranchMade c tree rest moves r moves'
  pub here : rest ≡ left r.0
  pub on : c.at < r.0.at

module _ (c : Cursor) (moves moves' : Moves) where
  pub branch-unread : ReadsBranch c moves None moves' → read_branch (left c) ≡ fault
  branch-unread h = go (read_branch (left c)) refl h
    where
      go : (y : Parsed Branch) → read_branch (left c) ≡ y → BranchDone c moves None moves' y → read_branch (left c) ≡ fault
      go (parsed t rest) q i = absurd i
      go fault q i = q

  pub branch-view : (r : Cursor × BranchShape) → ReadsBranch c moves (Some r) moves' → BranchView c moves r moves'
  branch-view r h = go (read_branch (left c)) refl h
    where
      go : (y : Parsed Branch) → read_branch (left c) ≡ y → BranchDone c moves (Some r) moves' y → BranchView c moves r moves'
      go (parsed t rest) q made =
          let (split, formed-t) = branch-from (left c) rest t (line-drop c.at c.bytes.now c.clean) q in
          let one : 1 ≤ length (write_branch t) = (branch-long t formed-t).1 in
          record { tree = t; rest = rest; reading = q; made = made; here = behind c r.0 (write_branch t) rest split made.moved; on = omega (arith, made.moved.place, reached c (write_branch t) rest split) }
      go fault q i = absurd i

  module _ (a : Summary) where
    pub branches-fault : ReadsBranch c moves None moves' → ReadsBranches c a moves None moves'
    unfolding read_branches
    branches-fault h zero g = refl
    branches-fault h (suc f) g = rw (branch-unread h) refl

    module _ (d : Cursor) (shape : BranchShape) (h : ReadsBranch c moves (Some (d, shape)) moves') where
      v : BranchView c moves (d, shape) moves'
      v = branch-view (d, shape) h

      many : d.atoms ≡ c.atoms + atoms_in v.tree.pieces
      many = v.made.moved.many

      -- bytes are left while there is a branch
      some_left : length c.bytes.now - c.at ≤ 0 → ⊥
      some_left g = omega (arith, v.on, d.inside, long v.made.moved)

      -- the byte b stands behind it, and `sum` is the summary with it
      module _ (sum : Summary) (es : sum ≡ branch_summary a shape.start shape.pieces shape.end) (b : ℕ) (eb : b ≡ byte_at d) where
        step : (f : ℕ) → read_branches (suc f) (left c) ≡ behind_branch f v.tree (eqb b 0) (eqb b 124) v.rest
        step f = stepped f (left c) v.rest v.tree b v.reading (byte-behind d v.here eb)

        whole : sum ≡ with_branch c.atoms v.tree a
        whole = es ∙ ap (λ (z : BranchShape). branch_summary a z.start z.pieces z.end) v.made.shape

        pub branches-end : b ≡ 0 → ReadsBranches c a moves (Some (d.atoms, sum)) moves'
        unfolding summary_of through atom_count
        branches-end n zero g = absurd (some_left g)
        branches-end n (suc f) g = rw (step f, eq-eqb _ _ n) (same_answer (many ∙ rw add-zero) whole, v.made.keyed, v.made.entered)

        pub branches-other : (b ≡ 0 → ⊥) → (b ≡ 124 → ⊥) → ReadsBranches c a moves None moves'
        branches-other m n zero g = absurd (some_left g)
        branches-other m n (suc f) g = rw (step f, ne_eqb _ _ m, ne_eqb _ _ n) refl

        module _ (n : b ≡ 124) (m : Cursor) (em : Past d m) where
          -- fewer bytes are left behind the bar
          fewer : length m.bytes.now - m.at < length c.bytes.now - c.at
          fewer = omega (arith, v.on, m.inside, em.place, long em, long v.made.moved)

          pub branches-falls : (t : ℕ) → length c.bytes.now - c.at ≡ t → length m.bytes.now - m.at < t
          branches-falls t h = omega (arith, fewer)

          pub branches-more : (y : PatternRead) (moves'' : Moves) → ReadsBranches m sum moves' y moves'' → ReadsBranches c a moves y moves''
          unfolding summary_of through atom_count
          branches-more y moves'' g zero k = absurd (some_left k)
          branches-more y moves'' g (suc f) k =
              rw (step f, ne_eqb _ _ (nonzero b 124 (omega arith) n), eq-eqb _ _ n, ap (drop 1) v.here ∙ sym (past-left em))
              (go (read_branches f (left m)) (g f (omega (arith, fewer))))
            where
              atoms : m.atoms ≡ c.atoms + atoms_in v.tree.pieces
              atoms = em.many ∙ many

              later : {A B : Type 0} {a b : A} (f : ℕ → A → B) → a ≡ b → f m.atoms a ≡ f (c.atoms + atoms_in v.tree.pieces) b
              later {a = a} f e = ap (λ (n : ℕ). f n a) atoms ∙ ap (f (c.atoms + atoms_in v.tree.pieces)) e

              go : (z : Parsed Pattern) → PatternDone m sum moves' y moves'' z → PatternDone c a moves y moves'' (next z (λ ts. done (v.tree ∷ ts)))
              go (parsed ts rest) (i, j, k) = (
                i ∙ same_answer (ap (λ (n : ℕ). n + atom_count ts) atoms ∙ add_assoc c.atoms (atoms_in v.tree.pieces) (atom_count ts)) (later (λ n a. summary_of n ts a) whole),
                j ∙ ap (λ (f : Case). through (keys_in (set_of f)) m.atoms ts moves'.keys) (em.held ∙ v.made.moved.held) ∙ later (λ n l. through (keys_in (set_of c.case)) n ts l) v.made.keyed,
                k ∙ later (λ n l. through enter_in n ts l) v.made.entered,
              )
              go fault i = i
