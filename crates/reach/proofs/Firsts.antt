-- Laws of first occurrences, and of numbers listed behind others if they are new.
use Prim.Native.Nat.{ℕ, zero, suc, ◌+◌, ◌-◌, ◌<◌, ◌≤◌}
use native.Mathlib.Omega.{arith}
use mathlib.Core.Path.{◌≡◌, refl, sym, ap, ◌∙◌}
use mathlib.Core.Logic.{⊎_elim}
use mathlib.Core.Bool.{Bool, true, false, not, ◌||◌, cond, or_assoc, or-false, or-true}
use mathlib.Core.List.{List, [], ◌∷◌, ◌++◌, append_assoc, append-nil}
use lib.Dec.{eqb}
use lib.ListN.{length, get_or, length-append}
use borrow.Author.Tests.{eqb-true, eqb-false, eq-eqb, ne_eqb, not-true}
use Rattle.runs.specs.Keys.{member}
use Rattle.runs.specs.Counts.{count_below}
use Rattle.runs.proofs.CountLaws.{count-ext, count-le, count-more, count_none}
use Rattle.runs.specs.Kept.{times}
use Rattle.runs.proofs.KeptLaws.{times_more, times-member}
use Rattle.runs.proofs.KeyLaws.{member-iff, member-at, member-first, member-more, member-rest}
use Rattle.runs.proofs.Tests.{and_parts, by-test, or_cases, or_left, or_right, torn}
use Rattle.reach.specs.Entries.{without, firsts}
use Rattle.reach.specs.Promises.{extend, once}

-- what two lists have, one behind the other
pub member-append : (k : ℕ) (l r : List ℕ) → member k (l ++ r) ≡ member k l || member k r
member-append k [] r = refl
member-append k (x ∷ l) r = rw (member-append k l r) (sym (or_assoc (eqb k x) (member k l) (member k r)))

-- Numbers listed behind others if they are new.

pub extend-none : (listed : List ℕ) → extend listed [] ≡ listed
unfolding extend
extend-none listed = refl

pub extend-old : (listed : List ℕ) (j : ℕ) (js : List ℕ) → member j listed ≡ true → extend listed (j ∷ js) ≡ extend listed js
unfolding extend
extend-old listed j js h = rw h

pub extend-new : (listed : List ℕ) (j : ℕ) (js : List ℕ) → member j listed ≡ false → extend listed (j ∷ js) ≡ extend (listed ++ (j ∷ [])) js
unfolding extend
extend-new listed j js h = rw h

-- some after others
pub extend-append : (listed js ks : List ℕ) → extend listed (js ++ ks) ≡ extend (extend listed js) ks
unfolding extend
extend-append listed [] ks = refl
extend-append listed (j ∷ js) ks = extend-append (cond (member j listed) listed (listed ++ (j ∷ []))) js ks

-- none of them is new
pub extend-all : (listed js : List ℕ) → ((j : ℕ) → member j js ≡ true → member j listed ≡ true) → extend listed js ≡ listed
extend-all listed [] h = extend-none listed
extend-all listed (j ∷ js) h =
    extend-old listed j js (h j (or_left (eqb j j) (member j js) (eq-eqb j j refl)))
    ∙ extend-all listed js (λ k m. h k (or_right (eqb k j) (member k js) m))

-- what is listed then: what was, and these
pub extend-has : (listed js : List ℕ) (k : ℕ) → member k (extend listed js) ≡ member k listed || member k js
extend-has listed [] k = rw (extend-none listed) (sym (or-false (member k listed)))
extend-has listed (j ∷ js) k =
    by-test (member j listed)
    (λ h. rw (extend-old listed j js h, extend-has listed js k) (by-test (eqb k j) (λ e. rw (rw (← eqb-true k j e) at h)) (λ e. rw e)))
    (λ h. rw (extend-new listed j js h, extend-has (listed ++ (j ∷ [])) js k, member-append k listed (j ∷ [])) (swap (member k listed) (eqb k j) (member k js)))
  where
    swap : (a b c : Bool) → (a || (b || false)) || c ≡ a || (b || c)
    swap true b c = refl
    swap false true c = refl
    swap false false c = refl

-- some numbers again and again list no more than once
pub extend-times : (listed js : List ℕ) (n : ℕ) → 1 ≤ n → extend listed (times n js) ≡ extend listed js
extend-times listed js n h =
    let again : n ≡ (n - 1) + 1 = omega arith in
    ap (λ (k : ℕ). extend listed (times k js)) again
    ∙ ap (extend listed) (times_more (n - 1) js)
    ∙ extend-append listed js (times (n - 1) js)
    ∙ extend-all (extend listed js) (times (n - 1) js) (λ j m. rw (extend-has listed js j) (or_right (member j listed) (member j js) ((member-iff j js).1 (times-member (n - 1) js ((member-iff j (times (n - 1) js)).0 m)))))

-- what is listed then is not less than what was
pub extend-longer : (listed js : List ℕ) → length listed ≤ length (extend listed js)
extend-longer listed [] = rw (extend-none listed) (omega arith)
extend-longer listed (j ∷ js) =
    by-test (member j listed)
    (λ h. rw (extend-old listed j js h) (extend-longer listed js))
    (λ h. rw (extend-new listed j js h) (omega (arith, extend-longer (listed ++ (j ∷ [])) js, length-append listed (j ∷ []))))

-- each once
pub once_more : (l : List ℕ) (j : ℕ) → once l ≡ true → member j l ≡ false → once (l ++ (j ∷ [])) ≡ true
unfolding once
once_more [] j o h = refl
once_more (x ∷ l) j o h =
    let (out, rest) = and_parts (not (member x l)) (once l) o in
    let other : eqb x j ≡ false = ne_eqb x j (λ e. eqb-false j x (member-first j x l h) (sym e)) in
    rw (member-more x l j (not-true (member x l) out) other) (once_more l j rest (member-rest j x l h))

pub extend-once : (listed js : List ℕ) → once listed ≡ true → once (extend listed js) ≡ true
extend-once listed [] o = rw (extend-none listed) o
extend-once listed (j ∷ js) o =
    by-test (member j listed)
    (λ h. rw (extend-old listed j js h) (extend-once listed js o))
    (λ h. rw (extend-new listed j js h) (extend-once (listed ++ (j ∷ [])) js (once_more listed j o h)))

pub once-none : once [] ≡ true
unfolding once
once-none = refl

-- so no number stands at two places
pub once-places : (l : List ℕ) → once l ≡ true → (d e : ℕ) → d < length l → e < length l → get_or l d 0 ≡ get_or l e 0 → d ≡ e
unfolding once
once-places [] o d e a b s = absurd (omega arith)
once-places (x ∷ l) o zero zero a b s = refl
once-places (x ∷ l) o zero (suc e) a b s = torn (member x l) (member-at x l e (omega arith) (sym s)) (not-true (member x l) (and_parts (not (member x l)) (once l) o).0)
once-places (x ∷ l) o (suc d) zero a b s = torn (member x l) (member-at x l d (omega arith) s) (not-true (member x l) (and_parts (not (member x l)) (once l) o).0)
once-places (x ∷ l) o (suc d) (suc e) a b s = ap suc (once-places l (and_parts (not (member x l)) (once l) o).1 d e (omega arith) (omega arith) s)

-- and there are no more than a bound below which they all are
count-one : (n x : ℕ) (X : ℕ → Bool) → x < n → X x ≡ false → count_below n (λ j. eqb j x || X j) ≡ count_below n X + 1
count-one zero x X h f = absurd (omega arith)
count-one (suc n) x X h f =
    rw (count-more n (λ j. eqb j x || X j), count-more n X)
    (by-test (eqb n x)
    (λ e.
    let same : n ≡ x = eqb-true n x e in
    rw (e, same, f, count-ext x (λ j. eqb j x || X j) X (λ k l. rw (ne_eqb k x (omega arith)))) (omega arith))
    (λ e.
    let other : n ≡ x → ⊥ = eqb-false n x e in
    let below : x < n = omega arith in
    rw (e, count-one n x X below f) (omega arith)))

once-count : (n : ℕ) (l : List ℕ) → once l ≡ true → ((j : ℕ) → member j l ≡ true → j < n) → count_below n (λ j. member j l) ≡ length l
unfolding once
once-count n [] o h = count_none n (λ j. false) (λ k. refl)
once-count n (x ∷ l) o h =
    let (out, rest) = and_parts (not (member x l)) (once l) o in
    let here : x < n = h x (or_left (eqb x x) (member x l) (eq-eqb x x refl)) in
    let ih = once-count n l rest (λ j m. h j (or_right (eqb j x) (member j l) m)) in
    count-one n x (λ j. member j l) here (not-true (member x l) out) ∙ rw ih (omega arith)

pub once-length : (n : ℕ) (l : List ℕ) → once l ≡ true → ((j : ℕ) → member j l ≡ true → j < n) → length l ≤ n
once-length n l o h = omega (arith, once-count n l o h, count-le n (λ k. member k l))

once-cons : (l : List ℕ) (j : ℕ) → once l ≡ true → member j l ≡ false → once (j ∷ l) ≡ true
unfolding once
once-cons l j o new = rw (new, o)

-- so there is room for one that is not among them
pub once-room : (n : ℕ) (l : List ℕ) (j : ℕ) → once l ≡ true → ((k : ℕ) → member k l ≡ true → k < n) → j < n → member j l ≡ false → length l < n
once-room n l j o h below new =
    let all : (k : ℕ) → member k (j ∷ l) ≡ true → k < n = λ k m. ⊎_elim (λ e. rw (eqb-true k j e) below) (λ i. h k i) (or_cases (eqb k j) (member k l) m) in
    omega (arith, once-length n (j ∷ l) (once-cons l j o new) all)

-- First occurrences.

-- the numbers that are not among others
lacking : List ℕ → List ℕ → List ℕ
lacking listed [] = []
lacking listed (j ∷ js) = cond (member j listed) (lacking listed js) (j ∷ lacking listed js)

lacking-old : (listed js : List ℕ) (j : ℕ) → member j listed ≡ true → lacking listed (without j js) ≡ lacking listed js
unfolding without lacking
lacking-old listed [] j h = refl
lacking-old listed (k ∷ js) j h =
    by-test (eqb k j)
    (λ e. rw (e, rw (← eqb-true k j e) at h) (lacking-old listed js j h))
    (λ e. rw (e, lacking-old listed js j h))

lacking-new : (listed js : List ℕ) (j : ℕ) → member j listed ≡ false → lacking (listed ++ (j ∷ [])) js ≡ lacking listed (without j js)
unfolding without lacking
lacking-new listed [] j h = refl
lacking-new listed (k ∷ js) j h =
    rw (member-append k listed (j ∷ []), lacking-new listed js j h)
    (by-test (eqb k j)
    (λ e. rw (e, or-true (member k listed)))
    (λ e. rw e (go (member k listed))))
  where
    go : (t : Bool) → cond (t || false) (lacking listed (without j js)) (k ∷ lacking listed (without j js)) ≡ cond t (lacking listed (without j js)) (k ∷ lacking listed (without j js))
    go true = refl
    go false = refl

-- what is new of some numbers is listed in the order of its first occurrences
extend-lacking : (listed js : List ℕ) → extend listed js ≡ listed ++ lacking listed (firsts js)
unfolding firsts lacking
extend-lacking listed [] = extend-none listed ∙ sym (append-nil listed)
extend-lacking listed (j ∷ js) =
    by-test (member j listed)
    (λ h. rw (extend-old listed j js h, h, lacking-old listed (firsts js) j h) (extend-lacking listed js))
    (λ h. rw (extend-new listed j js h, h, ← (lacking-new listed (firsts js) j h)) (extend-lacking (listed ++ (j ∷ [])) js ∙ append_assoc listed (j ∷ []) (lacking (listed ++ (j ∷ [])) (firsts js))))

lacking-none : (js : List ℕ) → lacking [] js ≡ js
unfolding lacking
lacking-none [] = refl
lacking-none (j ∷ js) = ap (λ (l : List ℕ). j ∷ l) (lacking-none js)

-- so from nothing on they are the first occurrences
pub extend-firsts : (js : List ℕ) → extend [] js ≡ firsts js
extend-firsts js = extend-lacking [] js ∙ lacking-none (firsts js)

-- the same numbers, each once
pub firsts-has : (js : List ℕ) (k : ℕ) → member k (firsts js) ≡ member k js
firsts-has js k = rw (← (extend-firsts js)) (extend-has [] js k)

pub firsts-once : (js : List ℕ) → once (firsts js) ≡ true
firsts-once js = rw (← (extend-firsts js)) (extend-once [] js once-none)

-- the first number stays in front
pub firsts-front : (j : ℕ) (js : List ℕ) → firsts (j ∷ js) ≡ j ∷ without j (firsts js)
unfolding firsts
firsts-front j js = refl
