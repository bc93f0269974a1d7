-- Document 02, S-1: the case of a line plays no part where case is ignored; and what matches without the choice still matches with it, where no
-- bracket is negated.
use Prim.Native.Nat.{ℕ}
use mathlib.Core.Path.{◌≡◌, refl, ap, ◌∙◌}
use mathlib.Core.Logic.{◌↔◌}
use mathlib.Core.Bool.{Bool, true, not}
use mathlib.Core.List.{List, [], ◌∷◌, ◌++◌}
use mathlib.Core.Option.{Option, none, some}
use borrow.Author.Tests.{not-true}
use Rattle.runs.proofs.Tests.{and-fst, and-snd, tests-ext}
use Rattle.letters.specs.declared.Case.{Case}
use Rattle.letters.specs.Letters.{SameLetter, Each, SameLetters}
use Rattle.letters.proofs.Lists.{each-split, each_none, each-one, each-refl, letters-sym}
use Rattle.brackets.specs.Form.{Atom}
use Rattle.brackets.specs.Sets.{Sets, negated, set_of}
use Rattle.brackets.proofs.SetLaws.{letter-set, more-set}
use Rattle.pattern.specs.Form.{Expr, atom, group, star, plus, opt, seq, alt, Branch, Pattern, every_atom, every_in, every_of}
use Rattle.pattern.specs.Meaning.{Takes, TakesPieces, MatchesBranch, Matches, matches, query}
use Rattle.pattern.proofs.Meaning.{matches-iff}

-- Another line, read with other sets: where the keys of atoms that have P stay in their sets, what matches stays so.
module _ (S T : Sets) (R : ℕ → ℕ → Type 0) (P : Atom → Bool) (keeps : (a : Atom) → P a ≡ true → (j k : ℕ) → R j k → S a j ≡ true → T a k ≡ true) where
  -- e takes the other line too
  abbrev Kept : Expr → List ℕ → Type 0
  Kept e u = (v : List ℕ) → Each R u v → Takes T e v

  -- two parts, one after the other
  parts : {A B : List ℕ → Type 0} {C : List ℕ → Type 0} (u x w : List ℕ) → w ≡ u ++ x → ((v : List ℕ) → Each R u v → A v) → ((v : List ℕ) → Each R x v → B v) → ((s t v : List ℕ) → v ≡ s ++ t → A s → B t → C v) → (v : List ℕ) → Each R w v → C v
  parts u x w e f g h v r =
      let s = each-split R u x v (rw e at r) in
      h s.left s.right v s.whole (f s.left s.front) (g s.right s.back)

  takes-kept : {e : Expr} {u : List ℕ} → every_atom P e ≡ true → Takes S e u → Kept e u
  unfolding every_atom
  takes-kept h (Takes.key {a} {k} i s) v r =
      let (j, e, c) = each-one R k v (rw s at r) in
      Takes.key (keeps a h k j c i) e
  takes-kept h (Takes.after {p} {q} {u} {v = x} {w} t n s) v r =
      parts u x w s (takes-kept (and-fst (every_atom P p) (every_atom P q) h) t) (takes-kept (and-snd (every_atom P p) (every_atom P q) h) n) (λ a b c e i j. Takes.after i j e) v r
  takes-kept h (Takes.inside t) v r = Takes.inside (takes-kept h t v r)
  takes-kept h (Takes.left {p} {q} t) v r = Takes.left (takes-kept (and-fst (every_atom P p) (every_atom P q) h) t v r)
  takes-kept h (Takes.right {p} {q} t) v r = Takes.right (takes-kept (and-snd (every_atom P p) (every_atom P q) h) t v r)
  takes-kept h (Takes.never {w} s) v r = Takes.never (each_none R w v s r)
  takes-kept h (Takes.again {u} {v = x} {w} t n s) v r = parts u x w s (takes-kept h t) (takes-kept h n) (λ a b c e i j. Takes.again i j e) v r
  takes-kept h (Takes.once t) v r = Takes.once (takes-kept h t v r)
  takes-kept h (Takes.more {u} {v = x} {w} t n s) v r = parts u x w s (takes-kept h t) (takes-kept h n) (λ a b c e i j. Takes.more i j e) v r
  takes-kept h (Takes.absent {w} s) v r = Takes.absent (each_none R w v s r)
  takes-kept h (Takes.present t) v r = Takes.present (takes-kept h t v r)

  pieces_kept : (o : Option Expr) (u : List ℕ) → every_in P o ≡ true → TakesPieces S o u → (v : List ℕ) → Each R u v → TakesPieces T o v
  pieces_kept none u h t v r = each_none R u v t r
  pieces_kept (some e) u h t v r = takes-kept h t v r

  branch_kept : (b : Branch) (u v : List ℕ) → every_in P b.pieces ≡ true → Each R u v → MatchesBranch S b u → MatchesBranch T b v
  branch_kept b u v h r m =
      let x = each-split R m.before (m.part ++ m.behind) v (rw m.whole at r) in
      let y = each-split R m.part m.behind x.right x.back in
      record {
        before = x.left;
        part = y.left;
        behind = y.right;
        whole = x.whole ∙ ap (λ (l : List ℕ). x.left ++ l) y.whole;
        taken = pieces_kept b.pieces m.part h m.taken y.left y.front;
        from_start = λ e. each_none R m.before x.left (m.from_start e) x.front;
        to_end = λ e. each_none R m.behind y.right (m.to_end e) y.back;
      }

  pub matches-kept : (t : Pattern) (u v : List ℕ) → every_of P t ≡ true → Each R u v → Matches S t u → Matches T t v
  unfolding every_of
  matches-kept (b ∷ t) u v h r (Matches.here m) = Matches.here (branch_kept b u v (and-fst (every_in P b.pieces) (every_of P t) h) r m)
  matches-kept (b ∷ t) u v h r (Matches.later m) = Matches.later (matches-kept t u v (and-snd (every_in P b.pieces) (every_of P t) h) r m)
  matches-kept [] u v h r x3 = elim x3 [ ]

-- every atom is one
every-atom : (e : Expr) → every_atom (λ a. true) e ≡ true
unfolding every_atom
every-atom (atom a) = refl
every-atom (group e) = every-atom e
every-atom (star e) = every-atom e
every-atom (plus e) = every-atom e
every-atom (opt e) = every-atom e
every-atom (seq p q) = rw (every-atom p, every-atom q) refl
every-atom (alt p q) = rw (every-atom p, every-atom q) refl

every_of_lem : (t : Pattern) → every_of (λ a. true) t ≡ true
unfolding every_of
every_of_lem [] = refl
every_of_lem (b ∷ t) = rw (pieces b.pieces, every_of_lem t) refl
  where
    pieces : (o : Option Expr) → every_in (λ a. true) o ≡ true
    pieces none = refl
    pieces (some e) = every-atom e

-- The case of a line plays no part: "Two programmers type GO and go as they please, and patterns should catch both."
module _ (t : Pattern) where
  letters-kept : (u v : List ℕ) → SameLetters u v → Matches (set_of Case.Ignored) t u → Matches (set_of Case.Ignored) t v
  letters-kept u v r =
      matches-kept (set_of Case.Ignored) (set_of Case.Ignored) SameLetter (λ a. true) (λ a p j k s h. letter-set a j k s ∙ h) t u v (every_of_lem t) r

  pub letters-match : (u v : List ℕ) → SameLetters u v → Matches (set_of Case.Ignored) t u ↔ Matches (set_of Case.Ignored) t v
  letters-match u v r = (letters-kept u v r, letters-kept v u (letters-sym u v r))

  -- the same, as a test
  pub letters-same : (u v : List ℕ) → SameLetters u v → matches (query Case.Ignored t) u ≡ matches (query Case.Ignored t) v
  letters-same u v r =
      let m = letters-match u v r in
      let i = matches-iff (query Case.Ignored t) u in
      let j = matches-iff (query Case.Ignored t) v in
      tests-ext (matches (query Case.Ignored t) u) (matches (query Case.Ignored t) v) (λ h. j.1 (m.0 (i.0 h))) (λ h. i.1 (m.1 (j.0 h)))

  -- What matches without the choice matches with it, where no bracket is negated.
  pub ignored-matches : (w : List ℕ) → every_of (λ a. not (negated a)) t ≡ true → Matches (set_of Case.Sensitive) t w → Matches (set_of Case.Ignored) t w
  ignored-matches w h =
      matches-kept (set_of Case.Sensitive) (set_of Case.Ignored) (λ j k. k ≡ j) (λ a. not (negated a))
      (λ a p j k e i. rw e (more-set Case.Ignored a j (not-true (negated a) p) i))
      t w w h (each-refl (λ j k. k ≡ j) (λ k. refl) w)
