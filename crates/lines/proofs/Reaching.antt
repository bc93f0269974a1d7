-- Laws of the sets of states that keys lead to.
use Prim.Native.Nat.{ℕ, ◌%◌, ◌^◌, ◌<◌, ◌≤◌}
use native.Mathlib.Omega.{arith}
use mathlib.Core.Path.{◌≡◌, refl, sym, ap, ◌∙◌}
use mathlib.Core.Bool.{Bool, true, false, cond, ◌&&◌}
use mathlib.Core.List.{List, [], ◌∷◌, ◌++◌}
use lib.Dec.{eqb}
use lib.ListN.{get_or}
use lib.Bits.{bit_and, bit_or}
use Rattle.runs.specs.Keys.{line_key, is_line}
use Rattle.stateset.specs.Set.{bit, word, any_below, common, image_of}
use Rattle.stateset.proofs.Sets.{word-ext, word-one, bit_word}
use Rattle.stateset.proofs.Some.{any-ext, any-widen}
use Rattle.stateset.proofs.Common.{common-words}
use Rattle.pattern.specs.Form.{atom_count}
use Rattle.pattern.specs.Meaning.{Query, matches}
use Rattle.pattern.specs.Moves.{states, move, accepting, leads, accepted_from}
use Rattle.pattern.specs.Automata.{Automaton}
use Rattle.pattern.specs.declared.automaton.Accepting.{Accepting}
use Rattle.pattern.proofs.Moving.{advanced}
use Rattle.pattern.proofs.Readings.{always-of, ends_of_lem, accepting-of}
use Rattle.pattern.proofs.AcceptedLines.{states-match}
use Rattle.pattern.proofs.Leading.{leads-none, accepted-is, leads-append, leads_one, leads-below}
use Rattle.lines.specs.Moving.{moved, start_set, reached, has_accepting, looked_up}

-- A move, from what each word of it is.
module _ (keys enter : List ℕ) (a : Accepting) (x k : ℕ) where
  -- line-start, mid-line and found alone
  module _ {start mid found : ℕ} (s : start ≡ start_set) (d : mid ≡ 2 ^ 1 % 2 ^ 64) (f : found ≡ 2 ^ 2 % 2 ^ 64) where
    -- the atoms that are entered
    module _ {i e : ℕ} (p : i ≡ image_of enter x) (q : e ≡ bit_and i (get_or keys k 0)) where
      -- mid-line, from line-start and mid-line
      module _ {u on : ℕ} {m : Bool} (b : u ≡ bit_or start mid) (c : m ≡ common 64 x u) (g : on ≡ cond m mid 0) where
        -- found, from the states that every key leads there, and by the atoms entered
        module _ {always ended : ℕ} {n o : Bool} (h : n ≡ common 64 x a.always) (j : always ≡ cond n found 0) (l : o ≡ common 64 e a.ends) (v : ended ≡ cond o found 0) where
          -- and all of them together
          pub made : {near far r : ℕ} → near ≡ bit_or e on → far ≡ bit_or always ended → r ≡ bit_or near far → r ≡ looked_up keys enter a x k
          unfolding looked_up
          made w y z = rw (z, y, w, v, l, j, h, g, c, b, q, p, f, d, s) refl

-- a move by look-up leads to the states that the pattern's moves lead to
pub looked-up : {t : Query} {keys enter : List ℕ} {a : Accepting} → Automaton t keys enter a → (x k : ℕ) → line_key k ≡ true → looked_up keys enter a x k ≡ moved t x k
unfolding looked_up moved
looked-up {t} d x k l = rw (d.keyed, d.entered, always-of d, ends_of_lem d) (advanced t d.few x k l)

-- line-start alone
pub reached-none : (t : Query) → 1 ≡ reached t []
unfolding reached
reached-none t = word-one 32 0 (omega arith) ∙ word-ext 32 (λ p. eqb 0 p) (leads t 0 []) (λ p h. sym (leads-none t 0 p))

-- from a state of the pattern
module _ (t : Query) (few : atom_count t.tree ≤ 29) (q : ℕ) (inside : q < states t) (w : List ℕ) where
  -- no key leads to a state that the pattern does not have
  pub leads-high : (p : ℕ) → states t ≤ p → leads t q w p ≡ false
  leads-high p h = go (leads t q w p) refl
    where
      go : (b : Bool) → leads t q w p ≡ b → b ≡ false
      go true e = absurd (omega (arith, leads-below t w q p inside e))
      go false e = refl

  wide : (X : ℕ → Bool) → any_below 32 (λ p. leads t q w p && X p) ≡ any_below (states t) (λ p. leads t q w p && X p)
  wide X = any-widen (states t) 32 (λ p. leads t q w p && X p) (omega arith) (λ p h. rw (leads-high p h) refl)

  -- one key more
  pub leads-more : (c : ℕ) → moved t (word 32 (leads t q w)) c ≡ word 32 (leads t q (w ++ (c ∷ [])))
  unfolding moved
  leads-more c =
      word-ext 32 (λ p. any_below 32 (λ r. bit (word 32 (leads t q w)) r && move t r c p)) (leads t q (w ++ (c ∷ [])))
      (λ p h.
      any-ext 32 (λ r. bit (word 32 (leads t q w)) r && move t r c p) (λ r. leads t q w r && move t r c p) (λ r i. ap (λ (b : Bool). b && move t r c p) (bit_word 32 (leads t q w) r i))
      ∙ wide (λ r. move t r c p)
      ∙ any-ext (states t) (λ r. leads t q w r && move t r c p) (λ r. leads t q w r && leads t r (c ∷ []) p) (λ r i. ap (λ (b : Bool). leads t q w r && b) (sym (leads_one t c r p)))
      ∙ sym (leads-append t w (c ∷ []) q p inside))

  -- the line is accepted
  pub leads-accepts : common 64 (word 32 (leads t q w)) (word 32 (accepting t.tree)) ≡ accepted_from t q w
  leads-accepts = common-words 32 (leads t q w) (accepting t.tree) (omega arith) ∙ wide (accepting t.tree) ∙ sym (accepted-is t q w)

-- the same from line-start
module _ (t : Query) (few : atom_count t.tree ≤ 29) (w : List ℕ) where
  pub reached-more : (c : ℕ) → moved t (reached t w) c ≡ reached t (w ++ (c ∷ []))
  unfolding reached
  reached-more c = leads-more t few 0 (omega arith) w c

  pub reached-accepts : common 64 (reached t w) (word 32 (accepting t.tree)) ≡ accepted_from t 0 w
  unfolding reached
  reached-accepts = leads-accepts t few 0 (omega arith) w

-- a set of states accepts exactly if the keys that lead to it match
pub reached-matches : {t : Query} {keys enter : List ℕ} {a : Accepting} → Automaton t keys enter a → (x : ℕ) (w : List ℕ) → x ≡ reached t w → is_line w ≡ true → has_accepting a x ≡ matches t w
reached-matches {t} d x w e l = rw (e, accepting-of d) (reached-accepts t d.few w ∙ states-match t w l)
