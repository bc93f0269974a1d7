-- The reach list: what it has, and in which order (document 02, S-5).
use Prim.Native.Nat.{ℕ, zero, suc, ◌+◌, ◌<◌, ◌≤◌}
use native.Mathlib.Omega.{arith}
use native.Mathlib.Nat.{zero-add, eq-or-lt_of_le}
use mathlib.Core.Path.{◌≡◌, refl, sym, ap, subst, ◌∙◌}
use mathlib.Core.Logic.{◌↔◌, ◌⊎◌, inl, inr, ⊎_elim}
use mathlib.Core.Bool.{true, false, ◌||◌}
use mathlib.Core.List.Memᴰ
use mathlib.Core.List.{List, [], ◌∷◌, ◌++◌, map, map-append, head-eq_of_cons-eq, tail-eq_of_cons-eq, Memᴰ}
use lib.Dec.{eqb}
use lib.ListN.{length, get_or}
use borrow.Author.Tests.{eqb-true, eqb-false, eq-eqb}
use Rattle.runs.specs.Keys.{member}
use Rattle.runs.proofs.KeyLaws.{member-at, member-iff}
use Rattle.runs.proofs.Tests.{by-test, or_cases, or_left, or_right, torn}
use Rattle.book.specs.Format.{Macro, well_formed}
use Rattle.book.specs.Expansion.{unrolled}
use Rattle.book.specs.Reach.{Reaches}
use Rattle.book.proofs.Reach.{reach-lower}
use Rattle.reach.specs.Entries.{entries_of, entries_to, entries, without, firsts, reach_list}
use Rattle.reach.specs.Places.{Enters, FirstEnters}
use Rattle.reach.proofs.Arrivals.{macro_of, arrivals, arrival-enters, enters-arrival, Ordered, ordered-parted, arrivals-ordered}
use Rattle.reach.proofs.Entries.{arrived, entries-iff}
use Rattle.reach.proofs.Places.{parted, reaches-enters}
use Rattle.reach.proofs.Firsts.{firsts-front, firsts-has, firsts-once, once-places, once-length}

module _ (ms : List Macro) (m : ℕ) where
  -- "the named macro at the front"
  pub list-front : (rest : List ℕ) × (reach_list ms m ≡ m ∷ rest)
  unfolding reach_list entries entries_to
  list-front = let others = entries_of (λ j. entries_to m ms j) (unrolled (get_or ms m [])) in (without m (firsts others), firsts-front m others)

  -- "each once": no number stands at two places
  pub list-once : (d e : ℕ) → d < length (reach_list ms m) → e < length (reach_list ms m) → get_or (reach_list ms m) d 0 ≡ get_or (reach_list ms m) e 0 → d ≡ e
  unfolding reach_list
  list-once d e a b s = once-places (reach_list ms m) (firsts-once (entries ms m)) d e a b s

module _ (ms : List Macro) (well : well_formed ms ≡ true) where
  -- the list has what m reaches
  pub list-iff : (m j : ℕ) → (member j (reach_list ms m) ≡ true) ↔ Reaches ms m j
  unfolding reach_list
  list-iff m j = rw (firsts-has (entries ms m) j) (entries-iff ms well m j)

  -- "The list holds the same numbers as before": it has no number that m does not reach,
  pub list-only : (m e : ℕ) → e < length (reach_list ms m) → Reaches ms m (get_or (reach_list ms m) e 0)
  list-only m e h = (list-iff m (get_or (reach_list ms m) e 0)).0 (member-at (get_or (reach_list ms m) e 0) (reach_list ms m) e h refl)

  -- and each that m reaches;
  pub list-every : (m j : ℕ) → Reaches ms m j → (e : ℕ) × (e < length (reach_list ms m)) × (get_or (reach_list ms m) e 0 ≡ j)
  list-every m j r = place (reach_list ms m) j ((list-iff m j).1 r)
    where
      place : (l : List ℕ) (j : ℕ) → member j l ≡ true → (e : ℕ) × (e < length l) × (get_or l e 0 ≡ j)
      place [] j h = torn false h refl
      place (x ∷ l) j h =
          ⊎_elim (λ s. (0, omega arith, sym (eqb-true j x s))) (λ n. let (e, i, s) = place l j n in (suc e, omega arith, s)) (or_cases (eqb j x) (member j l) h)

  -- all are m or lower, so m + 1 entries are enough
  pub list-enough : (m : ℕ) → length (reach_list ms m) ≤ m + 1
  unfolding reach_list
  list-enough m = once-length (m + 1) (reach_list ms m) (firsts-once (entries ms m)) (λ j h. omega (arith, reach-lower ms well ((list-iff m j).0 h)))

-- Running order.

-- x stands in a list, and y behind it
abbrev Before : ℕ → ℕ → List ℕ → Type 0
Before x y [] = ⊥
Before x y (z ∷ l) = ((x ≡ z) × (member y l ≡ true)) ⊎ Before x y l

before-places : (l : List ℕ) (d e : ℕ) → d < e → e < length l → Before (get_or l d 0) (get_or l e 0) l
before-places [] d e h b = absurd (omega arith)
before-places (x ∷ l) d zero h b = absurd (omega arith)
before-places (x ∷ l) zero (suc e) h b = inl (refl, member-at (get_or l e 0) l e (omega arith) refl)
before-places (x ∷ l) (suc d) (suc e) h b = inr (before-places l d e (omega arith) (omega arith))

-- what is left without a number
without-has : (z : ℕ) (l : List ℕ) (k : ℕ) → member k (without z l) ≡ true → (member k l ≡ true) × (k ≡ z → ⊥)
unfolding without
without-has z [] k h = torn false h refl
without-has z (y ∷ l) k h =
    by-test (eqb y z)
    (λ e. let (m, n) = without-has z l k (rw e at h) in (or_right (eqb k y) (member k l) m, n))
    (λ e.
    let cases : eqb k y || member k (without z l) ≡ true = rw e at h in
    ⊎_elim
    (λ s. (or_left (eqb k y) (member k l) s, λ t. eqb-false y z e (sym (eqb-true k y s) ∙ t)))
    (λ m. let (i, n) = without-has z l k m in (or_right (eqb k y) (member k l) i, n))
    (or_cases (eqb k y) (member k (without z l)) cases))

without-before : (z : ℕ) (l : List ℕ) (x y : ℕ) → Before x y (without z l) → Before x y l × (y ≡ z → ⊥)
unfolding without
without-before z [] x y b = absurd b
without-before z (w ∷ l) x y b =
    by-test (eqb w z)
    (λ e. let (c, n) = without-before z l x y (rw e at b) in (inr c, n))
    (λ e.
    let cases : ((x ≡ w) × (member y (without z l) ≡ true)) ⊎ Before x y (without z l) = rw e at b in
    ⊎_elim
    (λ (s, m). let (i, n) = without-has z l y m in (inl (s, i), n))
    (λ c. let (i, n) = without-before z l x y c in (inr i, n))
    cases)

-- before each occurrence of y there is one of x, where x is before y among the first ones
firsts-before : (l : List ℕ) (x y : ℕ) → Before x y (firsts l) → (before after : List ℕ) → l ≡ before ++ (y ∷ after) → member x before ≡ true
unfolding firsts
firsts-before [] x y b before after e = absurd b
firsts-before (z ∷ l) x y b [] after e =
    absurd (⊎_elim (λ (s, m). (without-has z (firsts l) y m).1 (sym (head-eq_of_cons-eq e))) (λ c. (without-before z (firsts l) x y c).1 (sym (head-eq_of_cons-eq e))) b)
firsts-before (z ∷ l) x y b (w ∷ before) after e =
    ⊎_elim
    (λ (s, m). or_left (eqb x w) (member x before) (eq-eqb x w (s ∙ head-eq_of_cons-eq e)))
    (λ c. or_right (eqb x w) (member x before) (firsts-before l x y (without-before z (firsts l) x y c).0 before after (tail-eq_of_cons-eq e)))
    b

-- of the arrivals in a macro one is the foremost
foremost : {ms : List Macro} (l : List (ℕ × ℕ)) (j q : ℕ) → Ordered ms l → Memᴰ (j, q) l → (p : ℕ) × Memᴰ (j, p) l × ((u : ℕ) → Memᴰ (j, u) l → p ≤ u)
foremost [] j q o h = absurd (Memᴰ.not-nil h)
foremost {ms} (a ∷ l) j q (Ordered.first f o) h =
    by-test (eqb a.0 j)
    (λ e.
    let same : a.0 ≡ j = eqb-true a.0 j e in
    (a.1, Memᴰ.head (ap (λ (k : ℕ). (k, a.1)) (sym same)), λ u n. ⊎_elim (λ s. omega (arith, ap (λ (b : ℕ × ℕ). b.1) s)) (λ i. (f (j, u) i).0) (Memᴰ.cases_cons n)))
    (λ e.
    let behind : (u : ℕ) → Memᴰ (j, u) (a ∷ l) → Memᴰ (j, u) l = λ u n. ⊎_elim (λ s. absurd (eqb-false a.0 j e (sym (ap (λ (b : ℕ × ℕ). b.0) s)))) (λ i. i) (Memᴰ.cases_cons n) in
    let (p, n, least) = foremost l j q o (behind q h) in
    (p, Memᴰ.tail n, λ u i. least u (behind u i)))

module _ (ms : List Macro) (well : well_formed ms ≡ true) (m : ℕ) (inside : m < length ms) where
  ordered : Ordered ms (arrivals (suc m) ms 0 m)
  ordered = arrivals-ordered ms well (suc m) 0 m (omega arith) inside

  arrival : {j p : ℕ} → Enters ms m j p → Memᴰ (j, p) (arrivals (suc m) ms 0 m)
  arrival {j} {p} r = rw (zero-add p) at (enters-arrival ms well r (suc m) 0 (omega arith))

  -- each time that the run enters y it has entered x before, at an earlier key, or at the same key and further out
  abbrev EnteredBefore : ℕ → ℕ → ℕ → Type 0
  EnteredBefore x y q = (p : ℕ) × Enters ms m x p × (p ≤ q) × (p ≡ q → Reaches ms x y)

  arrived-before : (x y q : ℕ) → Before x y (reach_list ms m) → (before after : List (ℕ × ℕ)) → arrivals (suc m) ms 0 m ≡ before ++ ((y, q) ∷ after) → EnteredBefore x y q
  unfolding reach_list
  arrived-before x y q b before after e =
      let parts : entries ms m ≡ map macro_of before ++ (y ∷ map macro_of after) = sym (arrived ms m) ∙ ap (map macro_of) e ∙ map-append macro_of before ((y, q) ∷ after) in
      let there : member x (map macro_of before) ≡ true = firsts-before (entries ms m) x y b (map macro_of before) (map macro_of after) parts in
      let (a, n, s) = Memᴰ.of_map macro_of before ((member-iff x (map macro_of before)).0 there) in
      let (below, outer) = ordered-parted before (y, q) after (rw e at ordered) a n in
      let (p, f, i) = arrival-enters (suc m) ms 0 m a (subst (λ (l : List (ℕ × ℕ)). Memᴰ a l) (sym e) (Memᴰ.append_left ((y, q) ∷ after) n)) in
      let place : p ≡ a.1 = omega arith in
      (p, subst (λ (k : ℕ). Enters ms m k p) s i, omega arith, λ t. let same : a.1 ≡ q = omega arith in subst (λ (k : ℕ). Reaches ms k y) s (outer same))

  entered-before : (x y : ℕ) → Before x y (reach_list ms m) → (q : ℕ) → Enters ms m y q → EnteredBefore x y q
  entered-before x y b q r = let (before, after, e) = parted (arrivals (suc m) ms 0 m) (arrival r) in arrived-before x y q b before after e

  -- "a macro stands at the place where the run first enters it, the outer one first where two are entered at the same key": of two macros
  -- of the list the run first enters the one that stands first at an earlier key, or at the same key, and then it reaches the other
  pub running-order : (d e : ℕ) → d < e → e < length (reach_list ms m) → (p q : ℕ) → FirstEnters ms m (get_or (reach_list ms m) d 0) p → FirstEnters ms m (get_or (reach_list ms m) e 0) q → (p < q) ⊎ ((p ≡ q) × Reaches ms (get_or (reach_list ms m) d 0) (get_or (reach_list ms m) e 0))
  running-order d e h b p q f g =
      let (o, i, below, outer) = entered-before (get_or (reach_list ms m) d 0) (get_or (reach_list ms m) e 0) (before-places (reach_list ms m) d e h b) q g.enters in
      let low : p ≤ o = f.first o i in
      let within : p ≤ q = omega arith in
      ⊎_elim
      (λ s. let t : o ≡ q = omega arith in inr (s, outer t))
      (λ l. inl l)
      (eq-or-lt_of_le within)

  -- each macro of the list is entered first at some key
  pub first-place : (j : ℕ) → Reaches ms m j → (p : ℕ) × FirstEnters ms m j p
  first-place j r =
      let (q, s) = reaches-enters r in
      let (p, n, least) = foremost (arrivals (suc m) ms 0 m) j q ordered (arrival s) in
      let (o, f, i) = arrival-enters (suc m) ms 0 m (j, p) n in
      let place : o ≡ p = omega arith in
      (p, record { enters = rw place at i; first = λ u t. least u (arrival t) })
