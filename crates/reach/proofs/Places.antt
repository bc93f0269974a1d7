-- Laws of the places where a run enters a macro.
use Prim.Native.Nat.{ℕ, ◌+◌, ◌<◌}
use native.Mathlib.Omega.{arith}
use mathlib.Core.Path.{◌≡◌, refl, sym, ap, ◌∙◌}
use mathlib.Core.Logic.{⊎_elim}
use mathlib.Core.Bool.{true}
use mathlib.Core.List.Memᴰ
use mathlib.Core.List.{List, [], ◌∷◌, ◌++◌, append-nil, append_assoc, Memᴰ}
use lib.ListN.{length, get_or, length-append}
use Rattle.book.specs.declared.item.Item.{Item}
use Rattle.book.specs.declared.item.Item.TheVariants.{Key, Call}
use Rattle.book.specs.Format.{Macro, well_formed}
use Rattle.book.specs.Expansion.{expand, unrolled, expansion}
use Rattle.book.specs.Reach.{Reaches}
use Rattle.book.specs.Reach.Reaches.{itself, through}
use Rattle.book.proofs.Expansion.{expand-none, expand-one, expand-append, expansion-law, expansion-nonempty}
use Rattle.book.proofs.Reach.{reach-lower}
use Rattle.reach.specs.Places.{keys_in, Enters}
use Rattle.reach.specs.Places.Enters.{itself as at_once, through as within}

-- a list that has an element is what stands before it, the element, and what stands behind
pub parted : {A : Type 0} {a : A} (l : List A) → Memᴰ a l → (before after : List A) × (l ≡ before ++ (a ∷ after))
parted [] m = absurd (Memᴰ.not-nil m)
parted {A} {a} (x ∷ l) m =
    ⊎_elim
    (λ e. ([], l, ap (λ (y : A). y ∷ l) (sym e)))
    (λ n. let (before, after, e) = parted l n in (x ∷ before, after, ap (λ (r : List A). x ∷ r) e))
    (Memᴰ.cases_cons m)

-- Keys.

module _ (ms : List Macro) where
  pub keys_none : keys_in ms [] ≡ 0
  keys_none = rw (expand-none (λ j. expansion ms j))

  pub keys-append : (is js : List Item) → keys_in ms (is ++ js) ≡ keys_in ms is + keys_in ms js
  keys-append is js = rw (expand-append (λ j. expansion ms j) is js) (length-append (expand (λ j. expansion ms j) is) (expand (λ j. expansion ms j) js))

  pub keys-key : (k : ℕ) (is : List Item) → keys_in ms (Key k ∷ is) ≡ 1 + keys_in ms is
  keys-key k is = keys-append (Key k ∷ []) is ∙ rw (expand-one (λ j. expansion ms j) (Key k))

  pub keys-call : (j : ℕ) (is : List Item) → keys_in ms (Call j ∷ is) ≡ length (expansion ms j) + keys_in ms is
  keys-call j is = keys-append (Call j ∷ []) is ∙ rw (expand-one (λ j. expansion ms j) (Call j))

-- Entering and reaching.

pub parted-call : (is before : List Item) (i : ℕ) (after : List Item) → is ≡ before ++ (Call i ∷ after) → Memᴰ (Call i) is
parted-call is before i after e = rw e (Memᴰ.append_right before (Memᴰ.head refl))

-- what a run enters its macro reaches
pub enters-reaches : {ms : List Macro} {m j p : ℕ} → Enters ms m j p → Reaches ms m j
enters-reaches at_once = itself
enters-reaches {ms} (within {m} {i} before after e r f) = through (parted-call (unrolled (get_or ms m [])) before i after e) (enters-reaches r)

-- and what it reaches its run enters
pub reaches-enters : {ms : List Macro} {m j : ℕ} → Reaches ms m j → (p : ℕ) × Enters ms m j p
reaches-enters itself = (0, at_once)
reaches-enters {ms} (through {m} {i} c r) =
    let (before, after, e) = parted (unrolled (get_or ms m [])) c in
    let (q, s) = reaches-enters r in
    (keys_in ms before + q, within before after e s refl)

regroup : (a u x v b : List ℕ) → a ++ ((u ++ (x ++ v)) ++ b) ≡ (a ++ u) ++ (x ++ (v ++ b))
regroup a u x v b = rw (append_assoc a u (x ++ (v ++ b)), append_assoc u (x ++ v) b, append_assoc x v b)

-- Behind p keys the called macro's run follows.
pub enters-run : (ms : List Macro) → well_formed ms ≡ true → {m j p : ℕ} → Enters ms m j p → (before after : List ℕ) × (expansion ms m ≡ before ++ (expansion ms j ++ after)) × (length before ≡ p)
enters-run ms well (at_once {m}) = ([], [], sym (append-nil (expansion ms m)), refl)
enters-run ms well (within {m} {i} {j} before after e r f) =
    let called : ℕ → List ℕ = λ k. expansion ms k in
    let (u, v, split, long) = enters-run ms well r in
    let run : expansion ms m ≡ expand called before ++ (expansion ms i ++ expand called after) =
    expansion-law ms well m
    ∙ ap (expand called) e
    ∙ expand-append called before (Call i ∷ after)
    ∙ ap (λ (l : List ℕ). expand called before ++ l) (expand-append called (Call i ∷ []) after ∙ ap (λ (l : List ℕ). l ++ expand called after) (expand-one called (Call i)))
    in (
      expand called before ++ u,
      v ++ expand called after,
      run ∙ ap (λ (l : List ℕ). expand called before ++ (l ++ expand called after)) split ∙ regroup (expand called before) u (expansion ms j) v (expand called after),
      length-append (expand called before) u ∙ ap (λ (k : ℕ). keys_in ms before + k) long ∙ sym f,
    )

-- so it enters it before its last key: a macro writes something
pub enters-inside : (ms : List Macro) → well_formed ms ≡ true → {m j p : ℕ} → m < length ms → Enters ms m j p → p < length (expansion ms m)
enters-inside ms well {m} {j} h r =
    let (before, after, e, long) = enters-run ms well r in
    let some : 0 < length (expansion ms j) = expansion-nonempty ms well j (omega (arith, reach-lower ms well (enters-reaches r))) in
    rw (e, length-append before (expansion ms j ++ after), length-append (expansion ms j) after) (omega arith)
