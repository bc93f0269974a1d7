-- The macros that a run enters, in order, each with the number of keys before it; that these are the places of `Enters`, and rise.
use Prim.Native.Nat.{ℕ, zero, suc, ◌+◌, ◌<◌, ◌≤◌}
use native.Mathlib.Nat.{add-zero}
use native.Mathlib.Omega.{arith}
use mathlib.Core.Path.{◌≡◌, refl, ap, ◌∙◌}
use mathlib.Core.Logic.{⊎_elim}
use mathlib.Core.Bool.{true}
use mathlib.Core.List.{List, [], ◌∷◌, ◌++◌, map, map-append, Memᴰ}
use lib.ListN.{length, get_or}
use Rattle.book.specs.declared.item.Item.{Item}
use Rattle.book.specs.declared.item.Item.TheVariants.{Key, Call}
use Rattle.book.specs.Format.{Macro, well_formed}
use Rattle.book.specs.Expansion.{unrolled, expansion}
use Rattle.book.specs.Reach.{Reaches}
use Rattle.book.proofs.Expansion.{calls-lower}
use Rattle.reach.specs.Entries.{entries_of, entries_to}
use Rattle.reach.specs.Places.{keys_in, Enters}
use Rattle.reach.specs.Places.Enters.{itself as at_once, through as within}
use Rattle.reach.proofs.Places.{parted-call, keys_none, keys-key, keys-call, enters-reaches, enters-inside}

abbrev pub macro_of : ℕ × ℕ → ℕ
macro_of a = a.0

-- those in some items that stand behind `at` keys; `called` gives those in a macro that does
arrivals_of : (ℕ → ℕ → List (ℕ × ℕ)) → List Macro → ℕ → List Item → List (ℕ × ℕ)
arrivals_of called ms at [] = []
arrivals_of called ms at (Key k ∷ is) = arrivals_of called ms (at + 1) is
arrivals_of called ms at (Call j ∷ is) = called at j ++ arrivals_of called ms (at + length (expansion ms j)) is

-- those in macro m, entered behind `at` keys
pub arrivals : ℕ → List Macro → ℕ → ℕ → List (ℕ × ℕ)
arrivals zero ms at m = []
arrivals (suc d) ms at m = (m, at) ∷ arrivals_of (λ b j. arrivals d ms b j) ms at (unrolled (get_or ms m []))

abbrev Called : Type 0
Called = ℕ → ℕ → List (ℕ × ℕ)

-- an arrival in some items is one in a call among them
items-from : (called : Called) (ms : List Macro) (at : ℕ) (is : List Item) (a : ℕ × ℕ) → Memᴰ a (arrivals_of called ms at is) → (before : List Item) × (i : ℕ) × (after : List Item) × (is ≡ before ++ (Call i ∷ after)) × Memᴰ a (called (at + keys_in ms before) i)
unfolding arrivals_of
items-from called ms at [] a m = absurd (mathlib.Core.List.Memᴰ.not-nil m)
items-from called ms at (Key k ∷ is) a m =
    let (before, i, after, e, n) = items-from called ms (at + 1) is a m in
    let place : at + keys_in ms (Key k ∷ before) ≡ at + 1 + keys_in ms before = omega (arith, keys-key ms k before) in
    (Key k ∷ before, i, after, ap (λ (r : List Item). Key k ∷ r) e, rw place n)
items-from called ms at (Call j ∷ is) a m =
    let place : at + keys_in ms [] ≡ at = omega (arith, keys_none ms) in
    ⊎_elim
    (λ n. ([], j, is, refl, rw place n))
    (λ n.
    let (before, i, after, e, o) = items-from called ms (at + length (expansion ms j)) is a n in
    let behind : at + keys_in ms (Call j ∷ before) ≡ at + length (expansion ms j) + keys_in ms before = omega (arith, keys-call ms j before) in
    (Call j ∷ before, i, after, ap (λ (r : List Item). Call j ∷ r) e, rw behind o))
    (mathlib.Core.List.Memᴰ.append_cases (called at j) m)

-- and one in a call is one in the items
items-in : (called : Called) (ms : List Macro) (at : ℕ) (before : List Item) (i : ℕ) (after : List Item) (a : ℕ × ℕ) → Memᴰ a (called (at + keys_in ms before) i) → Memᴰ a (arrivals_of called ms at (before ++ (Call i ∷ after)))
unfolding arrivals_of
items-in called ms at [] i after a m =
    let place : at + keys_in ms [] ≡ at = omega (arith, keys_none ms) in
    mathlib.Core.List.Memᴰ.append_left (arrivals_of called ms (at + length (expansion ms i)) after) (rw place at m)
items-in called ms at (Key k ∷ before) i after a m =
    let place : at + keys_in ms (Key k ∷ before) ≡ at + 1 + keys_in ms before = omega (arith, keys-key ms k before) in
    items-in called ms (at + 1) before i after a (rw place at m)
items-in called ms at (Call j ∷ before) i after a m =
    let place : at + keys_in ms (Call j ∷ before) ≡ at + length (expansion ms j) + keys_in ms before = omega (arith, keys-call ms j before) in
    mathlib.Core.List.Memᴰ.append_right (called at j) (items-in called ms (at + length (expansion ms j)) before i after a (rw place at m))

-- each arrival is a place where the run enters that macro
pub arrival-enters : (d : ℕ) (ms : List Macro) (at m : ℕ) (a : ℕ × ℕ) → Memᴰ a (arrivals d ms at m) → (p : ℕ) × (a.1 ≡ at + p) × Enters ms m a.0 p
unfolding arrivals
arrival-enters zero ms at m a h = absurd (mathlib.Core.List.Memᴰ.not-nil h)
arrival-enters (suc d) ms at m a h =
    ⊎_elim
    (λ e. (0, rw e (omega arith), rw e at_once))
    (λ n.
    let (before, i, after, e, o) = items-from (λ b j. arrivals d ms b j) ms at (unrolled (get_or ms m [])) a n in
    let (q, f, r) = arrival-enters d ms (at + keys_in ms before) i a o in
    (keys_in ms before + q, omega arith, within before after e r refl))
    (mathlib.Core.List.Memᴰ.cases_cons h)

-- and each such place is an arrival
module _ (ms : List Macro) (well : well_formed ms ≡ true) where
  pub enters-arrival : {m j p : ℕ} → Enters ms m j p → (d at : ℕ) → m < d → Memᴰ (j, at + p) (arrivals d ms at m)
  unfolding arrivals
  enters-arrival r zero at h = absurd (omega arith)
  enters-arrival at_once (suc d) at h = rw (add-zero at) (mathlib.Core.List.Memᴰ.head refl)
  enters-arrival (within {m} {i} {j} {p} {q} before after e r f) (suc d) at h =
      let lower : i < m = calls-lower ms well {m = m} (parted-call (unrolled (get_or ms m [])) before i after e) in
      let place : at + p ≡ at + keys_in ms before + q = omega arith in
      let inner = enters-arrival r d (at + keys_in ms before) (omega arith) in
      rw (place, e) (mathlib.Core.List.Memᴰ.tail (items-in (λ b k. arrivals d ms b k) ms at before i after (j, at + keys_in ms before + q) inner))

-- without the places they are the entries
items-entries : (called : Called) (f : ℕ → List ℕ) (ms : List Macro) → ((b j : ℕ) → map macro_of (called b j) ≡ f j) → (at : ℕ) (is : List Item) → map macro_of (arrivals_of called ms at is) ≡ entries_of f is
unfolding arrivals_of entries_of
items-entries called f ms e at [] = refl
items-entries called f ms e at (Key k ∷ is) = items-entries called f ms e (at + 1) is
items-entries called f ms e at (Call j ∷ is) =
    map-append macro_of (called at j) (arrivals_of called ms (at + length (expansion ms j)) is)
    ∙ rw (e at j, items-entries called f ms e (at + length (expansion ms j)) is)

pub arrivals-entries : (d : ℕ) (ms : List Macro) (at m : ℕ) → map macro_of (arrivals d ms at m) ≡ entries_to d ms m
unfolding arrivals entries_to
arrivals-entries zero ms at m = refl
arrivals-entries (suc d) ms at m = ap (λ (l : List ℕ). m ∷ l) (items-entries (λ b j. arrivals d ms b j) (λ j. entries_to d ms j) ms (λ b j. arrivals-entries d ms b j) at (unrolled (get_or ms m [])))

-- The order of arrivals.

-- b comes behind a: at a later key, or at the same key in what a's macro reaches
abbrev pub Precedes : List Macro → ℕ × ℕ → ℕ × ℕ → Type 0
Precedes ms a b = (a.1 ≤ b.1) × (a.1 ≡ b.1 → Reaches ms a.0 b.0)

pub data Ordered (ms : List Macro) : List (ℕ × ℕ) → Type 0 where
  none : Ordered ms []
  first : {a : ℕ × ℕ} {l : List (ℕ × ℕ)} → ((b : ℕ × ℕ) → Memᴰ b l → Precedes ms a b) → Ordered ms l → Ordered ms (a ∷ l)

ordered-append : {ms : List Macro} {l r : List (ℕ × ℕ)} → Ordered ms l → Ordered ms r → ((a b : ℕ × ℕ) → Memᴰ a l → Memᴰ b r → Precedes ms a b) → Ordered ms (l ++ r)
ordered-append Ordered.none s h = s
ordered-append (Ordered.first {a} {l} f o) s h =
    Ordered.first (λ b m. ⊎_elim (f b) (λ n. h a b (mathlib.Core.List.Memᴰ.head refl) n) (mathlib.Core.List.Memᴰ.append_cases l m)) (ordered-append o s (λ x y m n. h x y (mathlib.Core.List.Memᴰ.tail m) n))

-- what stands before an arrival precedes it
pub ordered-parted : {ms : List Macro} (before : List (ℕ × ℕ)) (b : ℕ × ℕ) (after : List (ℕ × ℕ)) → Ordered ms (before ++ (b ∷ after)) → (a : ℕ × ℕ) → Memᴰ a before → Precedes ms a b
ordered-parted [] b after o a m = absurd (mathlib.Core.List.Memᴰ.not-nil m)
ordered-parted (x ∷ before) b after (Ordered.first f o) a m =
    ⊎_elim (λ e. rw e (f b (mathlib.Core.List.Memᴰ.append_right before (mathlib.Core.List.Memᴰ.head refl)))) (λ n. ordered-parted before b after o a n) (mathlib.Core.List.Memᴰ.cases_cons m)

-- arrivals in items are ordered if those in each call are, and stay within the keys of the call
items-ordered : (called : Called) (ms : List Macro) (at : ℕ) (is : List Item) → ((b j : ℕ) → Memᴰ (Call j) is → Ordered ms (called b j)) → ((b j : ℕ) → Memᴰ (Call j) is → (a : ℕ × ℕ) → Memᴰ a (called b j) → (b ≤ a.1) × (a.1 < b + length (expansion ms j))) → Ordered ms (arrivals_of called ms at is)
unfolding arrivals_of
items-ordered called ms at [] o f = Ordered.none
items-ordered called ms at (Key k ∷ is) o f = items-ordered called ms (at + 1) is (λ b j c. o b j (mathlib.Core.List.Memᴰ.tail c)) (λ b j c. f b j (mathlib.Core.List.Memᴰ.tail c))
items-ordered called ms at (Call j ∷ is) o f =
    let behind = at + length (expansion ms j) in
    ordered-append (o at j (mathlib.Core.List.Memᴰ.head refl))
    (items-ordered called ms behind is (λ b i c. o b i (mathlib.Core.List.Memᴰ.tail c)) (λ b i c. f b i (mathlib.Core.List.Memᴰ.tail c)))
    λ x y m n.
    let (before, i, after, e, p) = items-from called ms behind is y n in
    let call : Memᴰ (Call i) is = parted-call is before i after e in
    let earlier : x.1 < at + length (expansion ms j) = (f at j (mathlib.Core.List.Memᴰ.head refl) x m).1 in
    let later : at + length (expansion ms j) + keys_in ms before ≤ y.1 = (f (behind + keys_in ms before) i (mathlib.Core.List.Memᴰ.tail call) y p).0 in
    (omega arith, λ s. absurd (omega arith))

module _ (ms : List Macro) (well : well_formed ms ≡ true) where
  pub arrivals-ordered : (d at m : ℕ) → m < d → m < length ms → Ordered ms (arrivals d ms at m)
  unfolding arrivals
  arrivals-ordered zero at m h l = absurd (omega arith)
  arrivals-ordered (suc d) at m h l =
      Ordered.first {a = (m, at)}
      (λ b n. let (p, e, r) = arrival-enters (suc d) ms at m b (mathlib.Core.List.Memᴰ.tail n) in (omega arith, λ s. enters-reaches r))
      (items-ordered (λ b j. arrivals d ms b j) ms at (unrolled (get_or ms m []))
      (λ b j c. let lower : j < m = calls-lower ms well {m = m} c in arrivals-ordered d b j (omega arith) (omega arith))
      (λ b j c a n.
      let lower : j < m = calls-lower ms well {m = m} c in
      let (p, e, r) = arrival-enters d ms b j a n in
      let inside : p < length (expansion ms j) = enters-inside ms well (omega arith) r in
      (omega arith, omega arith)))
