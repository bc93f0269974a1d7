-- Branches and whole patterns: reading and writing undo one another.
use Prim.Native.Nat.{ℕ, zero, suc, ◌+◌, ◌*◌, ◌≤◌}
use native.Mathlib.Omega.{arith}
use mathlib.Core.Path.{◌≡◌, refl, sym, ◌∙◌}
use mathlib.Core.Bool.{Bool, true, false, ◌||◌, cond}
use mathlib.Core.List.{List, [], ◌∷◌, ◌++◌, append_assoc, append-nil}
use mathlib.Core.Option.{Option, none, some}
use lib.Dec.{eqb}
use lib.ListN.{length, drop, length-append}
use Rattle.brackets.specs.Brackets.{Parsed, parsed, fault, next, done, at}
use Rattle.pattern.specs.Reader.{ends_pieces, Mode, read_expr, enough, ended_by, anchored, read_rest, read_branch, read_branches}
use Rattle.brackets.proofs.Parses.{same-parsed, test-parsed, next-parsed, made-parsed, front, clean_end}
use Rattle.pattern.proofs.TreesFrom.{expr-from}
use Rattle.pattern.proofs.TreesBack.{expr-starts, expr-long, expr-back, expr-clean}
use Rattle.pattern.specs.Form.{Expr, Branch, Pattern, write, write_pieces, write_branch, write_pattern, formed_pieces, formed_branch, formed_branches, formed_pattern}
use Rattle.runs.specs.Keys.{line_key, is_line}
use Rattle.runs.proofs.Tests.{clash, and_parts}
use Rattle.runs.proofs.KeyLaws.{line_after, line-drop, line-append, line-cons}

-- From the bytes.

-- the bytes of an anchor that is there or not
abbrev pub mark : ℕ → Bool → List ℕ
mark c t = cond t (c ∷ []) []

-- a branch of its parts, and the bytes of its pieces and its end before others
abbrev branch_of : Bool → Option Expr → Bool → Branch
branch_of s p t = record { start = s; pieces = p; end = t }

abbrev ending : Option Expr → Bool → List ℕ → List ℕ
ending p t rest = write_pieces p ++ (mark 36 t ++ rest)

-- what a branch is whose end was read, where t tells whether it is a `$`
abbrev EndedAs : Bool → Bool → Option Expr → List ℕ → Branch → List ℕ → Type 0
EndedAs t s p m b rest = (b ≡ branch_of s p t) × (m ≡ mark 36 t ++ rest)

-- the end of a branch that was read
anchored-from : (s : Bool) (p : Option Expr) (m rest : List ℕ) (b : Branch) → anchored s p m ≡ parsed b rest → EndedAs (eqb (at 0 m) 36) s p m b rest
anchored-from s p m rest b r = go (eqb (at 0 m) 36) refl r
  where
    go : (t : Bool) → eqb (at 0 m) 36 ≡ t → ended_by t s p m ≡ parsed b rest → EndedAs t s p m b rest
    go true e q = let (same, after) = same-parsed q in (sym same, rw (← after) (front m 36 (omega arith) e))
    go false e q = let (same, after) = same-parsed q in (sym same, after)

-- what a branch that was read is
abbrev Branch-from : List ℕ → Branch → List ℕ → Type 0
Branch-from l b rest = (l ≡ write_branch b ++ rest) × (formed_branch b ≡ true)

-- three parts, one after the other
spelled : (a p z l mid rest : List ℕ) → l ≡ p ++ mid → mid ≡ z ++ rest → a ++ l ≡ (a ++ (p ++ z)) ++ rest
spelled a p z l mid rest h g = rw (append_assoc a (p ++ z) rest, append_assoc p z rest, ← g, ← h)

-- what is read after the `^` or without one, where t tells whether there are no pieces
abbrev rest_by : Bool → Bool → List ℕ → Parsed Branch
rest_by t s l = cond t (cond (s || eqb (at 0 l) 36) (anchored s none l) fault) (next (read_expr (enough l) Mode.branch l) (λ e. anchored s (some e)))

-- a branch after its `^` or without one
rest_from : (s : Bool) (l rest : List ℕ) (b : Branch) → is_line l ≡ true → read_rest s l ≡ parsed b rest → Branch-from (mark 94 s ++ l) b rest
unfolding write_branch formed_branch
rest_from s l rest b h r = go (ends_pieces (at 0 l)) refl r
  where
    go : (t : Bool) → ends_pieces (at 0 l) ≡ t → rest_by t s l ≡ parsed b rest → Branch-from (mark 94 s ++ l) b rest
    go true t q =
        let (has, a) = test-parsed (s || eqb (at 0 l) 36) (anchored s none l) b rest q in
        let (same, ends) = anchored-from s none l rest b a in
        rw same (spelled (mark 94 s) [] (mark 36 (eqb (at 0 l) 36)) l l rest refl ends, has)
    go false t q =
        let (e, mid, one, a) = next-parsed (read_expr (enough l) Mode.branch l) (λ e. anchored s (some e)) b rest q in
        let (there, formed-e) = expr-from (enough l) Mode.branch l mid e h one in
        let (same, ends) = anchored-from s (some e) mid rest b a in
        rw same (spelled (mark 94 s) (write e) (mark 36 (eqb (at 0 mid) 36)) l mid rest there ends, formed-e)

-- a branch that was read is what the bytes begin with, and of the form
pub branch-from : (l rest : List ℕ) (b : Branch) → is_line l ≡ true → read_branch l ≡ parsed b rest → Branch-from l b rest
unfolding read_branch
branch-from l rest b h r = go (eqb (at 0 l) 94) refl r
  where
    go : (t : Bool) → eqb (at 0 l) 94 ≡ t → cond t (read_rest true (drop 1 l)) (read_rest false l) ≡ parsed b rest → Branch-from l b rest
    go true t q = let (there, formed-b) = rest_from true (drop 1 l) rest b (line-drop 1 l h) q in (front l 94 (omega arith) t ∙ there, formed-b)
    go false t q = rest_from false l rest b h q

-- what branches that were read are: all of the bytes, and of the form
abbrev Pattern-from : List ℕ → Pattern → Type 0
Pattern-from l t = (write_pattern t ≡ l) × (formed_pattern t ≡ true)

-- so are those behind a bar
abbrev Others-from : ℕ → List ℕ → List ℕ → Type 0
Others-from f mid rest = (bs : Pattern) → read_branches f (drop 1 mid) ≡ parsed bs rest → Pattern-from (drop 1 mid) bs

-- what is read behind the branch b: nothing at the end, the others behind a bar
abbrev pub behind_branch : ℕ → Branch → Bool → Bool → List ℕ → Parsed Pattern
behind_branch f b end bar m = cond end (parsed (b ∷ []) m) (cond bar (next (read_branches f (drop 1 m)) (λ bs. done (b ∷ bs))) fault)

-- the last branch
last-from : (l mid : List ℕ) (b : Branch) → mid ≡ [] → Branch-from l b mid → Pattern-from l (b ∷ [])
unfolding write_pattern formed_pattern formed_branches
last-from l mid b none_left h = (rw (h.0, none_left, append-nil), rw h.1)

-- a branch before others
more-from : (l mid : List ℕ) (b : Branch) (bs : Pattern) → eqb (at 0 mid) 124 ≡ true → Branch-from l b mid → Pattern-from (drop 1 mid) bs → Pattern-from l (b ∷ bs)
unfolding write_pattern formed_pattern formed_branches
more-from l mid b [] t h g = clash (cc)
more-from l mid b (c ∷ bs) t h g = (rw (h.0, g.0, ← front mid 124 (omega arith) t), rw h.1 g.1)

-- a branch and what stands behind it
module _ (f : ℕ) (l mid rest : List ℕ) (b : Branch) (t : Pattern) (this : Branch-from l b mid) (clean : is_line mid ≡ true) (others-from : Others-from f mid rest) where
  behind-from : (z : Bool) → eqb (at 0 mid) 0 ≡ z → behind_branch f b z (eqb (at 0 mid) 124) mid ≡ parsed t rest → Pattern-from l t
  behind-from true z q = let (same, after) = same-parsed q in rw (← same) (last-from l mid b (clean_end mid clean z) this)
  behind-from false z q =
      let (bar, s) = test-parsed (eqb (at 0 mid) 124) (next (read_branches f (drop 1 mid)) (λ bs. done (b ∷ bs))) t rest q in
      let (bs, same, others) = made-parsed (read_branches f (drop 1 mid)) (λ bs. b ∷ bs) t rest s in
      rw same (more-from l mid b bs bar this (others-from bs others))

-- branches that were read are all of the bytes, and of the form
pub branches-from : (f : ℕ) (l rest : List ℕ) (t : Pattern) → is_line l ≡ true → read_branches f l ≡ parsed t rest → Pattern-from l t
unfolding read_branches
branches-from zero l rest t h r = clash (cc)
branches-from (suc f) l rest t h r =
    let (b, mid, one, others) = next-parsed (read_branch l) (λ b m. behind_branch f b (eqb (at 0 m) 0) (eqb (at 0 m) 124) m) t rest r in
    let this = branch-from l mid b h one in
    let clean : is_line mid ≡ true = line_after (write_branch b) mid (rw this.0 at h) in
    behind-from f l mid rest b t this clean (λ bs s. branches-from f (drop 1 mid) rest bs (line-drop 1 mid clean) s) (eqb (at 0 mid) 0) refl others

-- And back.

-- the end of a branch is read again
anchored-back : (s : Bool) (p : Option Expr) (t : Bool) (rest : List ℕ) → eqb (at 0 rest) 36 ≡ false → anchored s p (mark 36 t ++ rest) ≡ parsed (branch_of s p t) rest
anchored-back s p true rest h = refl
anchored-back s p false rest h = rw h

-- it ends the pieces
mark-ends : (t : Bool) (rest : List ℕ) → ends_pieces (at 0 rest) ≡ true → ends_pieces (at 0 (mark 36 t ++ rest)) ≡ true
mark-ends true rest h = refl
mark-ends false rest h = h

-- a `$` is there if it has to be
mark-needed : (s t : Bool) (rest : List ℕ) → s || t ≡ true → s || eqb (at 0 (mark 36 t ++ rest)) 36 ≡ true
mark-needed true t rest h = refl
mark-needed false true rest h = refl
mark-needed false false rest h = clash (cc)

-- a branch after its `^` or without one is read again
abbrev RestAgain : Bool → Option Expr → Bool → List ℕ → Type 0
RestAgain s p t rest = read_rest s (ending p t rest) ≡ parsed (branch_of s p t) rest

rest_back : (s : Bool) (p : Option Expr) (t : Bool) (rest : List ℕ) → formed_pieces (s || t) p ≡ true → ends_pieces (at 0 rest) ≡ true → eqb (at 0 rest) 36 ≡ false → RestAgain s p t rest
rest_back s none t rest h e d = rw (mark-ends t rest e, mark-needed s t rest h) (anchored-back s none t rest d)
rest_back s (some p) t rest h e d =
    let (on, start, mark-not) = expr-starts p 2 (mark 36 t ++ rest) h in
    let long : 4 * length (write p) + 2 ≤ enough (write p ++ (mark 36 t ++ rest)) = rw length-append (omega arith) in
    rw (on, expr-back (enough (write p ++ (mark 36 t ++ rest))) Mode.branch p (mark 36 t ++ rest) h (mark-ends t rest e) long)
    (anchored-back s (some p) t rest d)

-- a branch without a `^` does not begin with one
start-not : (p : Option Expr) (t : Bool) (rest : List ℕ) → formed_pieces t p ≡ true → eqb (at 0 (ending p t rest)) 94 ≡ false
start-not none true rest h = refl
start-not none false rest h = clash (cc)
start-not (some e) t rest h = (expr-starts e 2 (mark 36 t ++ rest) h).1

-- a branch of the form is read again
pub branch_back : (b : Branch) (rest : List ℕ) → formed_branch b ≡ true → ends_pieces (at 0 rest) ≡ true → eqb (at 0 rest) 36 ≡ false → read_branch (write_branch b ++ rest) ≡ parsed b rest
unfolding read_branch write_branch formed_branch
branch_back b rest h e d =
    rw (append_assoc (mark 94 b.start) (write_pieces b.pieces ++ mark 36 b.end) rest, append_assoc (write_pieces b.pieces) (mark 36 b.end) rest)
    (go b.start b.pieces b.end h)
  where
    go : (s : Bool) (p : Option Expr) (t : Bool) → formed_pieces (s || t) p ≡ true → read_branch (mark 94 s ++ ending p t rest) ≡ parsed (branch_of s p t) rest
    go true p t g = rest_back true p t rest g e d
    go false p t g = rw (start-not p t rest g) (rest_back false p t rest g e d)

-- branches of the form are read again
pub branches-back : (f : ℕ) (t : Pattern) → formed_pattern t ≡ true → length t ≤ f → read_branches f (write_pattern t) ≡ parsed t []
unfolding read_branches write_pattern formed_pattern formed_branches
branches-back f [] h l = clash (cc)
branches-back zero (b ∷ bs) h l = absurd (omega arith)
branches-back (suc f) (b ∷ []) h l =
    let one : read_branch (write_branch b) ≡ parsed b [] = rw append-nil at (branch_back b [] (and_parts (formed_branch b) true h).0 refl refl) in
    rw one
branches-back (suc f) (b ∷ c ∷ bs) h l =
    let (one, others) = and_parts (formed_branch b) (formed_branches (c ∷ bs)) h in
    rw (branch_back b (124 ∷ write_pattern (c ∷ bs)) one refl refl, branches-back f (c ∷ bs) others (omega arith))

-- a branch of the form has a byte
branch-long : (b : Branch) → formed_branch b ≡ true → 1 ≤ length (write_branch b)
unfolding write_branch formed_branch
branch-long b h = go b.start b.pieces b.end h
  where
    go : (s : Bool) (p : Option Expr) (t : Bool) → formed_pieces (s || t) p ≡ true → 1 ≤ length (mark 94 s ++ (write_pieces p ++ mark 36 t))
    go true p t g = omega arith
    go false none true g = omega arith
    go false none false g = clash (cc)
    go false (some e) t g = rw (length-append (write e) (mark 36 t)) (omega (arith, expr-long e))

-- so there are no more branches than bytes
pattern-long : (t : Pattern) → formed_branches t ≡ true → length t ≤ length (write_pattern t)
unfolding write_pattern formed_branches
pattern-long [] h = omega arith
pattern-long (b ∷ []) h = branch-long b (and_parts (formed_branch b) true h).0
pattern-long (b ∷ c ∷ bs) h =
    let (one, others) = and_parts (formed_branch b) (formed_branches (c ∷ bs)) h in
    rw length-append (omega (arith, pattern-long (c ∷ bs) others))

-- a pattern of the form is read again
pub pattern-back : (t : Pattern) → formed_pattern t ≡ true → read_branches (length (write_pattern t)) (write_pattern t) ≡ parsed t []
unfolding formed_pattern
pattern-back [] h = clash (cc)
pattern-back (b ∷ bs) h = branches-back (length (write_pattern (b ∷ bs))) (b ∷ bs) h (pattern-long (b ∷ bs) h)

-- a branch of the form is written as bytes of a pattern
branch-clean : (b : Branch) → formed_branch b ≡ true → is_line (write_branch b) ≡ true
unfolding write_branch formed_branch
branch-clean b h = line-append (mark 94 b.start) _ (anchor 94 b.start refl) (line-append (write_pieces b.pieces) (mark 36 b.end) (inside b.pieces h) (anchor 36 b.end refl))
  where
    anchor : (c : ℕ) (t : Bool) → line_key c ≡ true → is_line (mark c t) ≡ true
    anchor c true g = line-cons c [] g refl
    anchor c false g = refl

    inside : (p : Option Expr) → formed_pieces (b.start || b.end) p ≡ true → is_line (write_pieces p) ≡ true
    inside none g = refl
    inside (some e) g = expr-clean e 2 g

-- and so is a pattern
branches-clean : (t : Pattern) → formed_branches t ≡ true → is_line (write_pattern t) ≡ true
unfolding write_pattern formed_branches
branches-clean [] h = refl
branches-clean (b ∷ []) h = branch-clean b (and_parts (formed_branch b) true h).0
branches-clean (b ∷ c ∷ bs) h =
    let (one, others) = and_parts (formed_branch b) (formed_branches (c ∷ bs)) h in
    line-append (write_branch b) (124 ∷ write_pattern (c ∷ bs)) (branch-clean b one) (branches-clean (c ∷ bs) others)

-- the same for a pattern of at least one branch
pub pattern-clean : (t : Pattern) → formed_pattern t ≡ true → is_line (write_pattern t) ≡ true
unfolding formed_pattern
pattern-clean [] h = clash (cc)
pattern-clean (b ∷ bs) h = branches-clean (b ∷ bs) h
