-- What an expression leaves of a line whose first part it takes. The same as Takes, with a rest in place of `++`.
use Prim.Native.Nat.{ℕ, ◌+◌, ◌≤◌}
use native.Mathlib.Omega.{arith}
use mathlib.Core.Path.{◌≡◌, refl, sym, ap, ◌∙◌}
use mathlib.Core.Bool.{true}
use mathlib.Core.Logic.{◌⊎◌, inl, inr, ⊎_elim, ◌↔◌}
use mathlib.Core.List.{List, [], ◌∷◌, ◌++◌, append-nil, append_assoc}
use lib.ListN.{length, length-append}
use Rattle.brackets.specs.Form.{Atom}
use Rattle.brackets.specs.Sets.{Sets}
use Rattle.pattern.specs.Meaning.{Takes}
use Rattle.pattern.specs.Form.{Expr, atom, group, star, plus, opt, seq, alt}

-- e takes a first part of w and leaves v
pub data Leaves (S : Sets) : Expr → List ℕ → List ℕ → Type 0 where
  key : {a : Atom} {k : ℕ} {w : List ℕ} → S a k ≡ true → Leaves S (atom a) (k ∷ w) w
  after : {p q : Expr} {w x v : List ℕ} → Leaves S p w x → Leaves S q x v → Leaves S (seq p q) w v
  inside : {e : Expr} {w v : List ℕ} → Leaves S e w v → Leaves S (group e) w v
  left : {p q : Expr} {w v : List ℕ} → Leaves S p w v → Leaves S (alt p q) w v
  right : {p q : Expr} {w v : List ℕ} → Leaves S q w v → Leaves S (alt p q) w v
  never : {e : Expr} {w : List ℕ} → Leaves S (star e) w w
  again : {e : Expr} {w x v : List ℕ} → Leaves S e w x → Leaves S (star e) x v → Leaves S (star e) w v
  once : {e : Expr} {w v : List ℕ} → Leaves S e w v → Leaves S (plus e) w v
  more : {e : Expr} {w x v : List ℕ} → Leaves S e w x → Leaves S (plus e) x v → Leaves S (plus e) w v
  absent : {e : Expr} {w : List ℕ} → Leaves S (opt e) w w
  present : {e : Expr} {w v : List ℕ} → Leaves S e w v → Leaves S (opt e) w v

-- a first part of w that e takes, and v behind it
pub record Parts (S : Sets) (e : Expr) (w v : List ℕ) : Type 0 where
  pub part : List ℕ
  pub whole : w ≡ part ++ v
  pub taken : Takes S e part

-- nothing is a list of no length
empty-length : (u : List ℕ) → length u ≡ 0 → u ≡ []
empty-length [] h = refl
empty-length (k ∷ u) h = absurd (omega arith)

module _ {S : Sets} where
  -- what is taken in front of any v leaves v
  pub takes-leaves : {e : Expr} {u : List ℕ} → Takes S e u → (v : List ℕ) → Leaves S e (u ++ v) v
  takes-leaves (Takes.key h s) v = rw s (key h)
  takes-leaves (Takes.after {v = x} t r s) v = rw (s, append_assoc) (after (takes-leaves t (x ++ v)) (takes-leaves r v))
  takes-leaves (Takes.inside t) v = inside (takes-leaves t v)
  takes-leaves (Takes.left t) v = left (takes-leaves t v)
  takes-leaves (Takes.right t) v = right (takes-leaves t v)
  takes-leaves (Takes.never s) v = rw s never
  takes-leaves (Takes.again {v = x} t r s) v = rw (s, append_assoc) (again (takes-leaves t (x ++ v)) (takes-leaves r v))
  takes-leaves (Takes.once t) v = once (takes-leaves t v)
  takes-leaves (Takes.more {v = x} t r s) v = rw (s, append_assoc) (more (takes-leaves t (x ++ v)) (takes-leaves r v))
  takes-leaves (Takes.absent s) v = rw s absent
  takes-leaves (Takes.present t) v = present (takes-leaves t v)

  -- what takes all that p takes takes p's part
  alike : {p e : Expr} {w v : List ℕ} → Parts S p w v → ((u : List ℕ) → Takes S p u → Takes S e u) → Parts S e w v
  alike c f = record { part = c.part; whole = c.whole; taken = f c.part c.taken }

  -- what takes all that p and then q take takes p's part with q's behind it
  both : {p q e : Expr} {w x v : List ℕ} → Parts S p w x → Parts S q x v → ((s t : List ℕ) → Takes S p s → Takes S q t → Takes S e (s ++ t)) → Parts S e w v
  both {v} c d f =
      record {
        part = c.part ++ d.part;
        whole = c.whole ∙ ap (λ (l : List ℕ). c.part ++ l) d.whole ∙ sym (append_assoc c.part d.part v);
        taken = f c.part d.part c.taken d.taken;
      }

  -- the part that was taken
  pub leaves-takes : {e : Expr} {w v : List ℕ} → Leaves S e w v → Parts S e w v
  leaves-takes (key {k} h) = record { part = k ∷ []; whole = refl; taken = Takes.key h refl }
  leaves-takes (after l m) = both (leaves-takes l) (leaves-takes m) (λ s t a b. Takes.after a b refl)
  leaves-takes (inside l) = alike (leaves-takes l) (λ u t. Takes.inside t)
  leaves-takes (left l) = alike (leaves-takes l) (λ u t. Takes.left t)
  leaves-takes (right l) = alike (leaves-takes l) (λ u t. Takes.right t)
  leaves-takes never = record { part = []; whole = refl; taken = Takes.never refl }
  leaves-takes (again l m) = both (leaves-takes l) (leaves-takes m) (λ s t a b. Takes.again a b refl)
  leaves-takes (once l) = alike (leaves-takes l) (λ u t. Takes.once t)
  leaves-takes (more l m) = both (leaves-takes l) (leaves-takes m) (λ s t a b. Takes.more a b refl)
  leaves-takes absent = record { part = []; whole = refl; taken = Takes.absent refl }
  leaves-takes (present l) = alike (leaves-takes l) (λ u t. Takes.present t)

  -- so the two say the same
  pub leaves-iff : {e : Expr} {w v : List ℕ} → Leaves S e w v ↔ Parts S e w v
  leaves-iff {v} = (λ l. leaves-takes l, λ c. rw c.whole (takes-leaves c.taken v))

  -- what is taken to the end of the line leaves nothing
  pub takes_all : {e : Expr} {w : List ℕ} → Takes S e w → Leaves S e w []
  takes_all t = rw append-nil at (takes-leaves t [])

  -- how long the two parts are
  parts-length : {e : Expr} {w v : List ℕ} (c : Parts S e w v) → length w ≡ length c.part + length v
  parts-length {v} c = ap length c.whole ∙ length-append c.part v

  -- what is left is not longer than the line
  pub leaves-length : {e : Expr} {w v : List ℕ} → Leaves S e w v → length v ≤ length w
  leaves-length l = omega (arith, parts-length (leaves-takes l))

  -- and where it is not shorter it is the line
  pub leaves-same : {e : Expr} {w v : List ℕ} → Leaves S e w v → length w ≤ length v → w ≡ v
  leaves-same {v} l h =
      let c = leaves-takes l in
      c.whole ∙ ap (λ (u : List ℕ). u ++ v) (empty-length c.part (omega (arith, parts-length c)))

  -- once or more is any number of times
  pub plus-star : {e : Expr} {w v : List ℕ} → Leaves S (plus e) w v → Leaves S (star e) w v
  plus-star (once l) = again l never
  plus-star (more l m) = again l (plus-star m)

  -- any number of times is none, or once or more
  pub star-cases : {e : Expr} {w v : List ℕ} → Leaves S (star e) w v → (w ≡ v) ⊎ Leaves S (plus e) w v
  star-cases never = inl refl
  star-cases (again l m) = ⊎_elim (λ s. inr (once (rw s at l))) (λ n. inr (more l n)) (star-cases m)
