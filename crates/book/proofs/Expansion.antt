-- Laws of a macro's written-out run.
use Prim.Native.Nat.{ℕ, zero, suc, ◌+◌, ◌<◌, ◌≤◌}
use native.Mathlib.Nat.{add-zero, add-suc, suc-add, zero-add}
use native.Mathlib.Omega.{arith}
use mathlib.Core.Path.{◌≡◌, refl, sym, ap, ◌∙◌}
use mathlib.Core.Logic.{⊎_elim}
use mathlib.Core.Bool.{true, ◌&&◌, and-eq-true_iff}
use mathlib.Core.List.{List, [], ◌∷◌, ◌++◌, append_assoc, append-nil, Memᴰ}
use lib.Dec.{leb}
use lib.ListN.{length, get_or, replicate, length-append}
use borrow.Author.Tests.{ltb-true, leb-true}
use Rattle.book.specs.declared.item.Item.{Item}
use Rattle.book.specs.declared.item.Item.TheVariants.{Key, Call}
use Rattle.book.specs.Format.{repeated, Macro, sound_target, sound_item, sound_items, sound_macro, sound_macros, well_formed}
use Rattle.book.specs.declared.item.Repeated.{Repeated}
use Rattle.book.specs.Reach.{Calls}
use Rattle.book.specs.Expansion.{keys_of, expand, unrolled, expand_to, expansion}
use Rattle.runs.specs.Keys.{is_key, is_run}
use Rattle.runs.specs.Kept.{times}
use Rattle.runs.proofs.Tests.{and_parts}
use Rattle.runs.proofs.KeyLaws.{run-keys}
use Rattle.runs.proofs.KeptLaws.{times_none, times-suc, times-one}

-- what a sound macro has: an item, and sound items
macro-parts : (n : ℕ) (m : Macro) → sound_macro n m ≡ true → (1 ≤ length m) × (sound_items n m ≡ true)
unfolding sound_macro
macro-parts n m h =
    let p = (and-eq-true_iff (leb 1 (length m)) (leb (length m) 64 && sound_items n m)).0 h in
    (leb-true 1 (length m) p.0, ((and-eq-true_iff (leb (length m) 64) (sound_items n m)).0 p.1).1)

-- what a sound list of macros has: a sound first macro, and sound others
macros-parts : (n : ℕ) (m : Macro) (ms : List Macro) → sound_macros n (m ∷ ms) ≡ true → (1 ≤ length m) × (sound_items n m ≡ true) × (sound_macros (suc n) ms ≡ true)
unfolding sound_macros
macros-parts n m ms h =
    let p = (and-eq-true_iff (sound_macro n m) (sound_macros (suc n) ms)).0 h in
    let q = macro-parts n m p.0 in
    (q.0, q.1, p.1)

-- the items at place i of a sound list that starts at number n are sound for macro n + i; where the list has ended there are none
sound-items : (ms : List Macro) (n : ℕ) → sound_macros n ms ≡ true → (i : ℕ) → sound_items (n + i) (get_or ms i []) ≡ true
unfolding sound_items
sound-items [] n h i = refl
sound-items (m ∷ ms) n h zero = rw add-zero (macros-parts n m ms h).1
sound-items (m ∷ ms) n h (suc i) = rw (add-suc, ← suc-add) (sound-items ms (suc n) (macros-parts n m ms h).2 i)

-- and each macro of the list has an item
sound-nonempty : (ms : List Macro) (n : ℕ) → sound_macros n ms ≡ true → (i : ℕ) → i < length ms → 1 ≤ length (get_or ms i [])
sound-nonempty [] n h i l = absurd (omega arith)
sound-nonempty (m ∷ ms) n h zero l = (macros-parts n m ms h).0
sound-nonempty (m ∷ ms) n h (suc i) l = sound-nonempty ms (suc n) (macros-parts n m ms h).2 i (omega arith)

-- and no more than 64
sound-short : (ms : List Macro) (n : ℕ) → sound_macros n ms ≡ true → (i : ℕ) → length (get_or ms i []) ≤ 64
unfolding sound_macros sound_macro
sound-short [] n h i = omega arith
sound-short (m ∷ ms) n h zero =
    let p = (and-eq-true_iff (sound_macro n m) (sound_macros (suc n) ms)).0 h in
    let q = (and-eq-true_iff (leb 1 (length m)) (leb (length m) 64 && sound_items n m)).0 p.0 in
    leb-true (length m) 64 ((and-eq-true_iff (leb (length m) 64) (sound_items n m)).0 q.1).0
sound-short (m ∷ ms) n h (suc i) = sound-short ms (suc n) (macros-parts n m ms h).2 i

-- a sound book is a sound list of macros, numbered from 0
well-macros : (ms : List Macro) → well_formed ms ≡ true → sound_macros 0 ms ≡ true
unfolding well_formed
well-macros ms h =
    ((and-eq-true_iff (leb (length ms) 1024) (sound_macros 0 ms)).0
    ((and-eq-true_iff (leb 1 (length ms)) (leb (length ms) 1024 && sound_macros 0 ms)).0 h).1
    ).1

-- so the items of its macro i are sound for i
well-items : (ms : List Macro) → well_formed ms ≡ true → (i : ℕ) → sound_items i (get_or ms i []) ≡ true
well-items ms h i = rw zero-add at (sound-items ms 0 (well-macros ms h) i)

-- and each of its macros has an item
pub well-nonempty : (ms : List Macro) → well_formed ms ≡ true → (i : ℕ) → i < length ms → 1 ≤ length (get_or ms i [])
well-nonempty ms h = sound-nonempty ms 0 (well-macros ms h)

pub well-short : (ms : List Macro) → well_formed ms ≡ true → (i : ℕ) → length (get_or ms i []) ≤ 64
well-short ms h = sound-short ms 0 (well-macros ms h)

-- what sound items have: a sound first one, and sound others
items-parts : (n : ℕ) (i : Repeated) (is : Macro) → sound_items n (i ∷ is) ≡ true → (sound_item n i ≡ true) × (sound_items n is ≡ true)
unfolding sound_items
items-parts n i is h = and_parts (sound_item n i) (sound_items n is) h

-- what a sound item has: a key or a lower macro, and a repeat count
item-parts : (n : ℕ) (i : Repeated) → sound_item n i ≡ true → (sound_target n i.item ≡ true) × (1 ≤ i.times)
unfolding sound_item
item-parts n i h =
    let p = and_parts (sound_target n i.item) (leb 1 i.times) h in
    (p.0, leb-true 1 i.times p.1)

-- each item of a macro is sound for it
item-sound : (n : ℕ) {i : Repeated} (is : Macro) → sound_items n is ≡ true → Memᴰ i is → sound_item n i ≡ true
item-sound n [] h m = absurd (mathlib.Core.List.Memᴰ.not-nil m)
item-sound n (j ∷ is) h m = ⊎_elim (λ e. rw e (items-parts n j is h).0) (λ l. item-sound n is (items-parts n j is h).1 l) (mathlib.Core.List.Memᴰ.cases_cons m)

-- Items as often as they stand there.

pub unrolled-none : unrolled [] ≡ []
unfolding unrolled
unrolled-none = refl

pub unrolled-append : (is js : Macro) → unrolled (is ++ js) ≡ unrolled is ++ unrolled js
unfolding unrolled
unrolled-append [] js = refl
unrolled-append (i ∷ is) js = ap (λ (l : List Item). replicate i.times i.item ++ l) (unrolled-append is js) ∙ sym (append_assoc (replicate i.times i.item) (unrolled is) (unrolled js))

pub unrolled-one : (i : Repeated) → unrolled (i ∷ []) ≡ replicate i.times i.item
unfolding unrolled
unrolled-one i = append-nil (replicate i.times i.item)

-- one item more
pub unrolled-more : (is : Macro) (i : Repeated) → unrolled (is ++ (i ∷ [])) ≡ unrolled is ++ replicate i.times i.item
unrolled-more is i = unrolled-append is (i ∷ []) ∙ ap (λ (l : List Item). unrolled is ++ l) (unrolled-one i)

replicate-member : {x y : Item} (n : ℕ) → Memᴰ x (replicate n y) → (x ≡ y) × (1 ≤ n)
replicate-member zero m = absurd (mathlib.Core.List.Memᴰ.not-nil m)
replicate-member (suc n) m = ⊎_elim (λ e. (e, omega arith)) (λ h. ((replicate-member n h).0, omega arith)) (mathlib.Core.List.Memᴰ.cases_cons m)

member-replicate : (n : ℕ) (x : Item) → 1 ≤ n → Memᴰ x (replicate n x)
member-replicate zero x h = absurd (omega arith)
member-replicate (suc n) x h = mathlib.Core.List.Memᴰ.head refl

-- what is written out is one of the items
pub unrolled-from : {x : Item} (is : Macro) → Memᴰ x (unrolled is) → (n : ℕ) × Memᴰ (repeated x n) is
unfolding unrolled
unrolled-from [] m = absurd (mathlib.Core.List.Memᴰ.not-nil m)
unrolled-from {x} (i ∷ is) m =
    ⊎_elim
    (λ h. (i.times, mathlib.Core.List.Memᴰ.head (ap (λ (y : Item). repeated y i.times) (replicate-member i.times h).0)))
    (λ h. let (n, c) = unrolled-from is h in (n, mathlib.Core.List.Memᴰ.tail c))
    (mathlib.Core.List.Memᴰ.append_cases (replicate i.times i.item) m)

-- and each item that stands there is written out
pub unrolled-in : {i : Repeated} (is : Macro) → Memᴰ i is → 1 ≤ i.times → Memᴰ i.item (unrolled is)
unfolding unrolled
unrolled-in [] m h = absurd (mathlib.Core.List.Memᴰ.not-nil m)
unrolled-in {i} (j ∷ is) m h =
    ⊎_elim
    (λ e. let here : Memᴰ i.item (replicate j.times j.item) = rw (← e) (member-replicate i.times i.item h) in mathlib.Core.List.Memᴰ.append_left (unrolled is) here)
    (λ c. mathlib.Core.List.Memᴰ.append_right (replicate j.times j.item) (unrolled-in is c h))
    (mathlib.Core.List.Memᴰ.cases_cons m)

module _ (ms : List Macro) (well : well_formed ms ≡ true) where
  -- what each item of macro m has
  item-well : (m : ℕ) {i : Repeated} → Memᴰ i (get_or ms m []) → (sound_target m i.item ≡ true) × (1 ≤ i.times)
  item-well m {i} c = item-parts m i (item-sound m (get_or ms m []) (well-items ms well m) c)

  -- each key is one from 1 to 255
  pub well-key : (m : ℕ) {k n : ℕ} → Memᴰ (repeated (Key k) n) (get_or ms m []) → is_key k ≡ true
  unfolding sound_target
  well-key m c = (item-well m c).0

  -- each call goes to a lower macro
  pub well-call : (m : ℕ) {j n : ℕ} → Memᴰ (repeated (Call j) n) (get_or ms m []) → j < m
  unfolding sound_target
  well-call m {j} c = ltb-true j m (item-well m c).0

  -- each item stands there once or more
  pub well-times : (m : ℕ) {i : Repeated} → Memᴰ i (get_or ms m []) → 1 ≤ i.times
  well-times m c = (item-well m c).1

  -- calls go to lower macros
  pub calls-lower : {m j : ℕ} → Calls ms m j → j < m
  calls-lower {m} c = let (n, i) = unrolled-from (get_or ms m []) c in well-call m i

-- What is written.

-- the same is written where the called runs are the same
pub expand-same : (f g : ℕ → List ℕ) (is : List Item) → ((j : ℕ) → Memᴰ (Call j) is → f j ≡ g j) → expand f is ≡ expand g is
unfolding expand
expand-same f g [] e = refl
expand-same f g (Key k ∷ is) e = ap (λ (l : List ℕ). k ∷ l) (expand-same f g is (λ j c. e j (mathlib.Core.List.Memᴰ.tail c)))
expand-same f g (Call i ∷ is) e = rw (e i (mathlib.Core.List.Memᴰ.head refl), expand-same f g is (λ j c. e j (mathlib.Core.List.Memᴰ.tail c)))

-- nothing is written of no items
pub expand-none : (called : ℕ → List ℕ) → expand called [] ≡ []
unfolding expand
expand-none called = refl

-- of one item its keys
pub expand-one : (called : ℕ → List ℕ) (i : Item) → expand called (i ∷ []) ≡ keys_of called i
unfolding expand
expand-one called i = append-nil (keys_of called i)

-- of some items after others what they write, one after the other
pub expand-append : (called : ℕ → List ℕ) (is js : List Item) → expand called (is ++ js) ≡ expand called is ++ expand called js
unfolding expand
expand-append called [] js = refl
expand-append called (i ∷ is) js =
    ap (λ (l : List ℕ). keys_of called i ++ l) (expand-append called is js)
    ∙ sym (append_assoc (keys_of called i) (expand called is) (expand called js))

-- of an item that stands there n times its keys n times
pub expand-times : (called : ℕ → List ℕ) (n : ℕ) (i : Item) → expand called (replicate n i) ≡ times n (keys_of called i)
unfolding expand
expand-times called zero i = sym (times_none (keys_of called i))
expand-times called (suc n) i = ap (λ (l : List ℕ). keys_of called i ++ l) (expand-times called n i) ∙ sym (times-suc n (keys_of called i))

-- so one item more writes its keys behind, as often as it stands there
pub expand-more : (called : ℕ → List ℕ) (is : Macro) (i : Repeated) → expand called (unrolled (is ++ (i ∷ []))) ≡ expand called (unrolled is) ++ times i.times (keys_of called i.item)
expand-more called is i =
    ap (expand called) (unrolled-more is i)
    ∙ expand-append called (unrolled is) (replicate i.times i.item)
    ∙ ap (λ (l : List ℕ). expand called (unrolled is) ++ l) (expand-times called i.times i.item)

-- what a macro's items write: an item's keys as often as it stands there, and then the others'
pub expand-cons : (called : ℕ → List ℕ) (i : Repeated) (is : Macro) → expand called (unrolled (i ∷ is)) ≡ times i.times (keys_of called i.item) ++ expand called (unrolled is)
unfolding unrolled
expand-cons called i is = expand-append called (replicate i.times i.item) (unrolled is) ∙ ap (λ (l : List ℕ). l ++ expand called (unrolled is)) (expand-times called i.times i.item)

pub expand-both : (called : ℕ → List ℕ) (is js : Macro) → expand called (unrolled (is ++ js)) ≡ expand called (unrolled is) ++ expand called (unrolled js)
expand-both called is js = ap (expand called) (unrolled-append is js) ∙ expand-append called (unrolled is) (unrolled js)

-- of an item that stands there once its keys
pub expand-single : (called : ℕ → List ℕ) (i : Item) → expand called (unrolled (repeated i 1 ∷ [])) ≡ keys_of called i
expand-single called i = ap (expand called) (unrolled-one (repeated i 1)) ∙ expand-times called 1 i ∙ times-one (keys_of called i)

-- something is written if there is an item, and each called run is not empty
expand-nonempty : (f : ℕ → List ℕ) (is : List Item) → 1 ≤ length is → ((j : ℕ) → Memᴰ (Call j) is → 0 < length (f j)) → 0 < length (expand f is)
unfolding expand
expand-nonempty f [] h e = absurd (omega arith)
expand-nonempty f (Key k ∷ is) h e = omega arith
expand-nonempty f (Call i ∷ is) h e = simp length-append (omega (arith, e i (mathlib.Core.List.Memᴰ.head refl)))

-- "An item from 1 to 255 is a key."
abbrev Keyed : ℕ → Type 0
Keyed k = (1 ≤ k) × (k ≤ 255)

-- what items write are keys, if theirs and those of the called runs are
expand-keys : (f : ℕ → List ℕ) (is : List Item) → ((k : ℕ) → Memᴰ (Key k) is → is_key k ≡ true) → ((j k : ℕ) → Memᴰ k (f j) → Keyed k) → (k : ℕ) → Memᴰ k (expand f is) → Keyed k
unfolding expand
expand-keys f [] h e k c = absurd (mathlib.Core.List.Memᴰ.not-nil c)
expand-keys f (Key x ∷ is) h e k c =
    let q = and_parts (leb 1 x) (leb x 255) (h x (mathlib.Core.List.Memᴰ.head refl)) in
    ⊎_elim (λ s. omega (arith, leb-true 1 x q.0, leb-true x 255 q.1)) (λ d. expand-keys f is (λ y m. h y (mathlib.Core.List.Memᴰ.tail m)) e k d) (mathlib.Core.List.Memᴰ.cases_cons c)
expand-keys f (Call j ∷ is) h e k c =
    ⊎_elim (e j k) (λ d. expand-keys f is (λ y m. h y (mathlib.Core.List.Memᴰ.tail m)) e k d) (mathlib.Core.List.Memᴰ.append_cases (f j) c)

module _ (ms : List Macro) (well : well_formed ms ≡ true) where
  -- the depth is no matter where it is greater than the macro's number
  expand_to-agree : (d e m : ℕ) → m < d → m < e → expand_to d ms m ≡ expand_to e ms m
  unfolding expand_to
  expand_to-agree zero e m p q = absurd (omega arith)
  expand_to-agree (suc d) zero m p q = absurd (omega arith)
  expand_to-agree (suc d) (suc e) m p q =
      expand-same (λ j. expand_to d ms j) (λ j. expand_to e ms j) (unrolled (get_or ms m [])) λ j c.
      let lower : j < m = calls-lower ms well c in
      expand_to-agree d e j (omega arith) (omega arith)

  -- "The run of a macro, written out, is its items in order, each call replaced by the called macro's written-out run."
  pub expansion-law : (m : ℕ) → expansion ms m ≡ expand (λ j. expansion ms j) (unrolled (get_or ms m []))
  unfolding expansion expand_to
  expansion-law m =
      expand-same (λ j. expand_to m ms j) (λ j. expansion ms j) (unrolled (get_or ms m [])) λ j c.
      let lower : j < m = calls-lower ms well c in
      expand_to-agree m (suc j) j (omega arith) (omega arith)

  -- a macro of the book has an item that stands there
  unrolled-nonempty : (m : ℕ) → m < length ms → 1 ≤ length (unrolled (get_or ms m []))
  unrolled-nonempty m h = go (get_or ms m []) (well-nonempty ms well m h) (λ i c. well-times ms well m c)
    where
      some : {x : Item} (l : List Item) → Memᴰ x l → 1 ≤ length l
      some [] c = absurd (mathlib.Core.List.Memᴰ.not-nil c)
      some (y ∷ l) c = omega arith

      go : (is : Macro) → 1 ≤ length is → ((i : Repeated) → Memᴰ i is → 1 ≤ i.times) → 1 ≤ length (unrolled is)
      go [] l f = absurd (omega arith)
      go (i ∷ is) l f = some (unrolled (i ∷ is)) (unrolled-in (i ∷ is) (mathlib.Core.List.Memᴰ.head refl) (f i (mathlib.Core.List.Memᴰ.head refl)))

  -- a macro of the book writes something, at any depth greater than its number
  expand_to-nonempty : (d m : ℕ) → m < d → m < length ms → 0 < length (expand_to d ms m)
  unfolding expand_to
  expand_to-nonempty zero m h l = absurd (omega arith)
  expand_to-nonempty (suc d) m h l =
      expand-nonempty (λ j. expand_to d ms j) (unrolled (get_or ms m [])) (unrolled-nonempty m l) λ j c.
      let lower : j < m = calls-lower ms well c in
      expand_to-nonempty d j (omega arith) (omega arith)

  -- so it has a run that is not empty
  pub expansion-nonempty : (m : ℕ) → m < length ms → 0 < length (expansion ms m)
  unfolding expansion
  expansion-nonempty m h = expand_to-nonempty (suc m) m (omega arith) h

  -- to any depth, what is written are keys
  expand_to-keys : (d m k : ℕ) → Memᴰ k (expand_to d ms m) → Keyed k
  unfolding expand_to
  expand_to-keys zero m k c = absurd (mathlib.Core.List.Memᴰ.not-nil c)
  expand_to-keys (suc d) m k c = expand-keys (λ j. expand_to d ms j) (unrolled (get_or ms m [])) (λ x n. let (often, i) = unrolled-from (get_or ms m []) n in well-key ms well m i) (λ j i s. expand_to-keys d j i s) k c

  -- so a run holds keys alone
  pub expansion-keys : (m k : ℕ) → Memᴰ k (expansion ms m) → (1 ≤ k) × (k ≤ 255)
  unfolding expansion
  expansion-keys m k c = expand_to-keys (suc m) m k c

  -- and is one
  pub expansion-run : (m : ℕ) → is_run (expansion ms m) ≡ true
  expansion-run m = run-keys (expansion ms m) (expansion-keys m)
