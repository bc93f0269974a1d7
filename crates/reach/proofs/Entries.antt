-- Laws of the macros that a run enters.
use Prim.Native.Nat.{ℕ, zero, suc, ◌<◌}
use native.Mathlib.Omega.{arith}
use mathlib.Core.Path.{◌≡◌, refl, sym, ap, ◌∙◌}
use mathlib.Core.Logic.{◌↔◌}
use mathlib.Core.Bool.{true}
use mathlib.Core.List.{List, [], ◌∷◌, ◌++◌, append-nil, append_assoc, map, Memᴰ}
use lib.ListN.{get_or, replicate}
use Rattle.runs.specs.Keys.{member}
use Rattle.runs.specs.Kept.{times}
use Rattle.runs.proofs.KeptLaws.{times_none, times-suc}
use Rattle.runs.proofs.KeyLaws.{member-iff}
use Rattle.book.specs.declared.item.Item.{Item}
use Rattle.book.specs.declared.item.Item.TheVariants.{Key, Call}
use Rattle.book.specs.Format.{Macro, repeated, well_formed}
use Rattle.book.specs.Expansion.{unrolled}
use Rattle.book.specs.Reach.{Reaches}
use Rattle.book.proofs.Expansion.{unrolled-more, calls-lower}
use Rattle.reach.specs.Entries.{entries_of, entries_to, entries}
use Rattle.reach.proofs.Arrivals.{macro_of, arrivals, arrival-enters, enters-arrival, arrivals-entries}
use Rattle.reach.proofs.Places.{enters-reaches, reaches-enters}

-- the same is entered in some items where the same is entered in each call
entries_of-same : (f g : ℕ → List ℕ) (is : List Item) → ((j : ℕ) → Memᴰ (Call j) is → f j ≡ g j) → entries_of f is ≡ entries_of g is
unfolding entries_of
entries_of-same f g [] e = refl
entries_of-same f g (Key k ∷ is) e = entries_of-same f g is (λ j c. e j (mathlib.Core.List.Memᴰ.tail c))
entries_of-same f g (Call i ∷ is) e = rw (e i (mathlib.Core.List.Memᴰ.head refl), entries_of-same f g is (λ j c. e j (mathlib.Core.List.Memᴰ.tail c)))

-- of no items nothing is entered, in a key more nothing, in a call more what the called macro enters, as often as it is called
pub entries_of-none : (f : ℕ → List ℕ) → entries_of f [] ≡ []
unfolding entries_of
entries_of-none f = refl

pub entries_of-append : (f : ℕ → List ℕ) (is js : List Item) → entries_of f (is ++ js) ≡ entries_of f is ++ entries_of f js
unfolding entries_of
entries_of-append f [] js = refl
entries_of-append f (Key x ∷ is) js = entries_of-append f is js
entries_of-append f (Call j ∷ is) js = rw (entries_of-append f is js) (sym (append_assoc (f j) (entries_of f is) (entries_of f js)))

keys-enter : (f : ℕ → List ℕ) (n k : ℕ) → entries_of f (replicate n (Key k)) ≡ []
unfolding entries_of
keys-enter f zero k = refl
keys-enter f (suc n) k = keys-enter f n k

calls-enter : (f : ℕ → List ℕ) (n j : ℕ) → entries_of f (replicate n (Call j)) ≡ times n (f j)
unfolding entries_of
calls-enter f zero j = sym (times_none (f j))
calls-enter f (suc n) j = ap (λ (l : List ℕ). f j ++ l) (calls-enter f n j) ∙ sym (times-suc n (f j))

-- one item more, as often as it stands there
module _ (f : ℕ → List ℕ) (is : Macro) (n : ℕ) where
  more : (x : Item) → entries_of f (unrolled (is ++ (repeated x n ∷ []))) ≡ entries_of f (unrolled is) ++ entries_of f (replicate n x)
  more x = ap (entries_of f) (unrolled-more is (repeated x n)) ∙ entries_of-append f (unrolled is) (replicate n x)

  pub entries_of-key : (k : ℕ) → entries_of f (unrolled (is ++ (repeated (Key k) n ∷ []))) ≡ entries_of f (unrolled is)
  entries_of-key k = more (Key k) ∙ ap (λ (l : List ℕ). entries_of f (unrolled is) ++ l) (keys-enter f n k) ∙ append-nil (entries_of f (unrolled is))

  pub entries_of-call : (j : ℕ) → entries_of f (unrolled (is ++ (repeated (Call j) n ∷ []))) ≡ entries_of f (unrolled is) ++ times n (f j)
  entries_of-call j = more (Call j) ∙ ap (λ (l : List ℕ). entries_of f (unrolled is) ++ l) (calls-enter f n j)

-- the entries are the macros of the arrivals
pub arrived : (ms : List Macro) (m : ℕ) → map macro_of (arrivals (suc m) ms 0 m) ≡ entries ms m
unfolding entries
arrived ms m = arrivals-entries (suc m) ms 0 m

module _ (ms : List Macro) (well : well_formed ms ≡ true) where
  -- the depth is no matter where it is greater than the macro's number
  entries_to-agree : (d e m : ℕ) → m < d → m < e → entries_to d ms m ≡ entries_to e ms m
  unfolding entries_to
  entries_to-agree zero e m p q = absurd (omega arith)
  entries_to-agree (suc d) zero m p q = absurd (omega arith)
  entries_to-agree (suc d) (suc e) m p q =
      ap (λ (l : List ℕ). m ∷ l)
      (entries_of-same (λ j. entries_to d ms j) (λ j. entries_to e ms j) (unrolled (get_or ms m [])) λ j c.
      let lower : j < m = calls-lower ms well {m = m} c in
      entries_to-agree d e j (omega arith) (omega arith))

  -- the entries of m are m, then, for each of its items in order, the entries of the macro that the item calls
  pub entries-law : (m : ℕ) → entries ms m ≡ m ∷ entries_of (λ j. entries ms j) (unrolled (get_or ms m []))
  unfolding entries entries_to
  entries-law m =
      ap (λ (l : List ℕ). m ∷ l)
      (entries_of-same (λ j. entries_to m ms j) (λ j. entries ms j) (unrolled (get_or ms m [])) λ j c.
      let lower : j < m = calls-lower ms well {m = m} c in
      entries_to-agree m (suc j) j (omega arith) (omega arith))

  -- they are what m reaches
  pub entries-iff : (m j : ℕ) → (member j (entries ms m) ≡ true) ↔ Reaches ms m j
  entries-iff m j = (reached, entered)
    where
      reached : member j (entries ms m) ≡ true → Reaches ms m j
      reached h =
          let in-entries : Memᴰ j (map macro_of (arrivals (suc m) ms 0 m)) = rw (arrived ms m) ((member-iff j (entries ms m)).0 h) in
          let (a, n, e) = mathlib.Core.List.Memᴰ.of_map macro_of (arrivals (suc m) ms 0 m) in-entries in
          let (p, f, r) = arrival-enters (suc m) ms 0 m a n in
          rw e at (enters-reaches r)

      entered : Reaches ms m j → member j (entries ms m) ≡ true
      entered r =
          let (p, s) = reaches-enters r in
          let n = mathlib.Core.List.Memᴰ.map macro_of (enters-arrival ms well s (suc m) 0 (omega arith)) in
          (member-iff j (entries ms m)).1 (rw (arrived ms m) at n)
