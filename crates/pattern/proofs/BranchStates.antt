-- What a branch may still match from each of its states.
use Prim.Native.Nat.{ℕ}
use mathlib.Core.Path.{◌≡◌, refl, sym, ap, ◌∙◌}
use mathlib.Core.Logic.{◌⊎◌, inl, inr, ⊎_elim}
use mathlib.Core.Bool.{Bool, true, false, not, ◌&&◌, false≢true}
use mathlib.Core.List.{List, [], ◌∷◌, ◌++◌}
use mathlib.Core.Option.{Option, none, some}
use borrow.Author.Tests.{not-true}
use Rattle.brackets.specs.Sets.{Sets}
use Rattle.pattern.specs.Meaning.{TakesPieces, MatchesBranch}
use Rattle.pattern.specs.States.{first, last, follow, holds, nothing_in, in_pieces}
use Rattle.pattern.proofs.Leaves.{Leaves, takes-leaves, leaves-takes}
use Rattle.pattern.proofs.Numbering.{Within, first-within, follow-within, holds-within}
use Rattle.pattern.proofs.Continuations.{Cont, Step, EndsOr, lifted, starts, goes_on, nothing-leaves, last-cont, first-leaves, follow-cont, cont-within}
use Rattle.pattern.proofs.SomeBranch.{Tells}
use Rattle.runs.proofs.Tests.{clash, torn, and_both, and-fst, and-snd}
use Rattle.pattern.specs.Form.{Expr, Branch, atoms_in}

-- a line with a key is not empty
pub no_key : {A : Type 0} {c : ℕ} {w : List ℕ} → [] ≡ c ∷ w → A
no_key e = absurd (clash (cc))

module _ (b : ℕ) where
  -- what can come first, end and follow in a branch
  abbrev pub first_of : Branch → ℕ → Bool
  first_of r k = in_pieces (λ e. first b e k) r.pieces

  abbrev pub last_of : Branch → ℕ → Bool
  last_of r k = in_pieces (λ e. last b e k) r.pieces

  abbrev pub follow_of : Branch → ℕ → ℕ → Bool
  follow_of r k j = in_pieces (λ e. follow b e k j) r.pieces

-- each tells the branch
tells : (b : ℕ) (f : Expr → Bool) (k : ℕ) → ((e : Expr) → f e ≡ true → Within b (atoms_in (some e)) k) → (o : Option Expr) → in_pieces f o ≡ true → Within b (atoms_in o) k
tells b f k g none h = absurd (false≢true h)
tells b f k g (some e) h = g e h

pub first-tells : (k : ℕ) → Tells k (λ b r. first_of b r k ≡ true)
first-tells k b r = tells b (λ e. first b e k) k (λ e. first-within b e k) r.pieces

pub follow-tells : (k j : ℕ) → Tells j (λ b r. follow_of b r k j ≡ true)
follow-tells k j b r = tells b (λ e. follow b e k j) j (λ e. follow-within b e k j) r.pieces

module _ (S : Sets) where
  -- the pieces take a first part of w and leave v; and so after atom k
  abbrev pub LeavesIn : Option Expr → List ℕ → List ℕ → Type 0
  LeavesIn none w v = w ≡ v
  LeavesIn (some e) w v = Leaves S e w v

  abbrev pub ContIn : ℕ → Option Expr → ℕ → List ℕ → List ℕ → Type 0
  ContIn b none k w v = ⊥
  ContIn b (some e) k w v = Cont S b e k w v

  -- what holds a key in a branch
  abbrev pub holds_of : ℕ → Branch → ℕ → ℕ → Bool
  holds_of b r k c = in_pieces (λ e. holds S b e k c) r.pieces

  pub holds-tells : (k c : ℕ) → Tells k (λ b r. holds_of b r k c ≡ true)
  holds-tells k c b r = tells b (λ e. holds S b e k c) k (λ e. holds-within S b e k c) r.pieces

  pub cont-tells : (b : ℕ) (o : Option Expr) (k : ℕ) (w v : List ℕ) → ContIn b o k w v → Within b (atoms_in o) k
  cont-tells b (some e) k w v c = cont-within S b e k w v c
  cont-tells b none k w v c = elim c [ ]

  -- the pieces take nothing and may end, or take a step
  abbrev GoesIn : Bool → (ℕ → Bool) → ℕ → Option Expr → List ℕ → List ℕ → Type 0
  GoesIn ends may b o w v = EndsOr ends may (λ k c. in_pieces (λ e. holds S b e k c) o) (λ k r. ContIn b o k r v) w v

  -- the laws of expressions, for the pieces of a branch
  starts-in : (b : ℕ) (o : Option Expr) (w v : List ℕ) → LeavesIn o w v → GoesIn (nothing_in o) (λ k. in_pieces (λ e. first b e k) o) b o w v
  starts-in b none w v l = inl (refl, l)
  starts-in b (some e) w v l = starts S b e w v l

  goes_in : (b : ℕ) (o : Option Expr) (k : ℕ) (w v : List ℕ) → ContIn b o k w v → GoesIn (in_pieces (λ e. last b e k) o) (λ j. in_pieces (λ e. follow b e k j) o) b o w v
  goes_in b (some e) k w v c = goes_on S b e k w v c
  goes_in b none k w v c = elim c [ ]

  pub nothing-in : (o : Option Expr) (w : List ℕ) → nothing_in o ≡ true → LeavesIn o w w
  nothing-in none w h = refl
  nothing-in (some e) w h = nothing-leaves S e w h

  last-in : (b : ℕ) (o : Option Expr) (k : ℕ) (w : List ℕ) → in_pieces (λ e. last b e k) o ≡ true → ContIn b o k w w
  last-in b none k w h = absurd (false≢true h)
  last-in b (some e) k w h = last-cont S b e k w h

  first-in : (b : ℕ) (o : Option Expr) (k c : ℕ) (w v : List ℕ) → in_pieces (λ e. first b e k) o ≡ true → in_pieces (λ e. holds S b e k c) o ≡ true → ContIn b o k w v → LeavesIn o (c ∷ w) v
  first-in b (some e) k c w v f h t = first-leaves S b e k c w v f h t
  first-in b none k c w v f h t = elim t [ ]

  follow-in : (b : ℕ) (o : Option Expr) (k j c : ℕ) (w v : List ℕ) → in_pieces (λ e. follow b e k j) o ≡ true → in_pieces (λ e. holds S b e j c) o ≡ true → ContIn b o j w v → ContIn b o k (c ∷ w) v
  follow-in b (some e) k j c w v f h t = follow-cont S b e k j c w v f h t
  follow-in b none k j c w v f h t = elim t [ ]

  -- the branch matches a part of the line that begins here
  pub record At (r : Branch) (w : List ℕ) : Type 0 where
    pub behind : List ℕ
    pub leaves : LeavesIn r.pieces w behind
    pub to_end : r.end ≡ true → behind ≡ []

  -- after atom k the branch matches on
  pub record After (b : ℕ) (r : Branch) (k : ℕ) (w : List ℕ) : Type 0 where
    pub behind : List ℕ
    pub goes : ContIn b r.pieces k w behind
    pub to_end : r.end ≡ true → behind ≡ []

  -- the branch takes a key with an atom that may come, and matches on after it
  abbrev pub BranchStep : (ℕ → Branch → ℕ → Bool) → ℕ → Branch → List ℕ → Type 0
  BranchStep may b r w = Step (may b r) (holds_of b r) (After b r) w

  module _ (b : ℕ) (r : Branch) where
    -- it begins by taking nothing, or with a first atom
    pub at-begins : (w : List ℕ) → At r w → ((nothing_in r.pieces ≡ true) × (r.end ≡ true → w ≡ [])) ⊎ BranchStep first_of b r w
    at-begins w a =
        ⊎_elim
        (λ i. inl (i.0, λ e. i.1 ∙ a.to_end e))
        (λ s. inr (lifted s refl (λ k i. i) (λ k c i. i) (λ k v c. record { behind = a.behind; goes = c; to_end = a.to_end })))
        (starts-in b r.pieces w a.behind a.leaves)

    pub begins-at : (w : List ℕ) → BranchStep first_of b r w → At r w
    begins-at w s =
        let g = s.goes in
        record {
          behind = g.behind;
          leaves = rw s.whole (first-in b r.pieces s.which s.taken s.rest g.behind s.comes s.holding g.goes);
          to_end = g.to_end;
        }

    -- state of atom k: in a branch with `$` it matches on to the end; in one without, at least one more atom is to come
    abbrev pub Live : ℕ → List ℕ → Type 0
    Live k w = ((r.end ≡ true) × ContIn b r.pieces k w []) ⊎ ((r.end ≡ false) × Step (follow_of b r k) (holds_of b r) (After b r) w)

    module _ (k : ℕ) where
      pub live-after : (w : List ℕ) → Live k w → After b r k w
      live-after w (inl (e, c)) = record { behind = []; goes = c; to_end = λ i. refl }
      live-after w (inr (e, s)) =
          let g = s.goes in
          record {
            behind = g.behind;
            goes = rw s.whole (follow-in b r.pieces k s.which s.taken s.rest g.behind s.comes s.holding g.goes);
            to_end = g.to_end;
          }

      -- an atom that ends a branch without `$` is found already
      pub free-after : (w : List ℕ) → (not r.end && last_of b r k) ≡ true → After b r k w
      free-after w h =
          record {
            behind = w;
            goes = last-in b r.pieces k w (and-snd (not r.end) (last_of b r k) h);
            to_end = λ e. torn r.end e (not-true r.end (and-fst (not r.end) (last_of b r k) h));
          }

      pub after-cases : (w : List ℕ) → After b r k w → ((not r.end && last_of b r k) ≡ true) ⊎ Live k w
      after-cases w a = go r.end refl
        where
          go : (e : Bool) → r.end ≡ e → ((not r.end && last_of b r k) ≡ true) ⊎ Live k w
          go true e = inr (inl (e, rw (a.to_end e) at a.goes))
          go false e =
              ⊎_elim
              (λ i. inl (and_both (not r.end) (last_of b r k) (rw e refl) i.0))
              (λ s. inr (inr (e, lifted s refl (λ j i. i) (λ j c i. i) (λ j v c. record { behind = a.behind; goes = c; to_end = a.to_end }))))
              (goes_in b r.pieces k w a.behind a.goes)

      pub live-step : (c : ℕ) (w : List ℕ) → Live k (c ∷ w) → Step (follow_of b r k) (holds_of b r) (After b r) (c ∷ w)
      live-step c w (inl (e, t)) =
          ⊎_elim
          (λ i. no_key (sym i.1))
          (λ s. lifted s refl (λ j i. i) (λ j c i. i) (λ j v c. record { behind = []; goes = c; to_end = λ i. refl }))
          (goes_in b r.pieces k (c ∷ w) [] t)
      live-step c w (inr (e, s)) = s

      pub step-live : (w : List ℕ) → Step (follow_of b r k) (holds_of b r) (After b r) w → Live k w
      step-live w s = go r.end refl
        where
          go : (e : Bool) → r.end ≡ e → Live k w
          go true e =
              let g = s.goes in
              inl (e, rw s.whole (follow-in b r.pieces k s.which s.taken s.rest [] s.comes s.holding (rw (g.to_end e) at g.goes)))
          go false e = inr (e, s)

      -- the line's end
      pub live_end : Live k [] → (r.end && last_of b r k) ≡ true
      live_end (inl (e, t)) = ⊎_elim (λ i. and_both r.end (last_of b r k) e i.0) (λ s. no_key s.whole) (goes_in b r.pieces k [] [] t)
      live_end (inr (e, s)) = no_key s.whole

      pub end_live : (r.end && last_of b r k) ≡ true → Live k []
      end_live h = inl (and-fst r.end (last_of b r k) h, last-in b r.pieces k [] (and-snd r.end (last_of b r k) h))

  -- where in a line a branch matches
  pub record Place (r : Branch) (line : List ℕ) : Type 0 where
    pub before : List ℕ
    pub from : List ℕ
    pub whole : line ≡ before ++ from
    pub from_start : r.start ≡ true → before ≡ []
    pub at : At r from

  pub matches-place : (r : Branch) (line : List ℕ) → MatchesBranch S r line → Place r line
  matches-place r line m =
      record {
        before = m.before;
        from = m.part ++ m.behind;
        whole = m.whole;
        from_start = m.from_start;
        at = record { behind = m.behind; leaves = go r.pieces m.taken; to_end = m.to_end };
      }
    where
      go : (o : Option Expr) → TakesPieces S o m.part → LeavesIn o (m.part ++ m.behind) m.behind
      go none t = rw t
      go (some e) t = takes-leaves t m.behind

  pub place-matches : (r : Branch) (line : List ℕ) → Place r line → MatchesBranch S r line
  place-matches r line p = go r.pieces (λ u t. t) p.at.leaves
    where
      made : (u : List ℕ) → p.from ≡ u ++ p.at.behind → TakesPieces S r.pieces u → MatchesBranch S r line
      made u e t =
          record {
            before = p.before;
            part = u;
            behind = p.at.behind;
            whole = p.whole ∙ ap (λ (l : List ℕ). p.before ++ l) e;
            taken = t;
            from_start = p.from_start;
            to_end = p.at.to_end;
          }

      go : (o : Option Expr) → ((u : List ℕ) → TakesPieces S o u → TakesPieces S r.pieces u) → LeavesIn o p.from p.at.behind → MatchesBranch S r line
      go none f l = made [] l (f [] refl)
      go (some e) f l = let c = leaves-takes l in made c.part c.whole (f c.part c.taken)
