-- Laws of extents: of the empty run, of one key, of runs one behind the other, of a repeated run.
use Prim.Native.Nat.{ℕ, zero, suc, ◌+◌, ◌*◌, ◌≤◌}
use native.Mathlib.Omega.{arith}
use mathlib.Core.Path.{◌≡◌, refl, sym, ap, ◌∙◌}
use mathlib.Core.Bool.{Bool, true, false, cond}
use mathlib.Core.List.{List, [], ◌∷◌, ◌++◌, append-nil}
use lib.Dec.{eqb}
use lib.ListN.{length, length-append}
use borrow.Author.Tests.{eqb-true, eqb-false, ne_eqb}
use Rattle.runs.specs.Keys.{line_end}
use Rattle.runs.specs.Kept.{times}
use Rattle.runs.proofs.Tests.{by-test, eqb_swap}
use Rattle.runs.proofs.KeptLaws.{times_none, times-suc, times-length}
use Rattle.lines.specs.Parts.{first_part, later_parts, last_part}
use Rattle.lines.proofs.PartLaws.{first-whole, first-into, first-kept, later-into, later-kept, later-none, later-cons, first-cons, last_one, last_more, last-open, last-closed}
use Rattle.extents.specs.declared.extent.Extent.{Extent}
use Rattle.extents.specs.Capped.{most, capped}
use Rattle.extents.specs.Extents.{end_count, open_part, extent_of}
use Rattle.extents.specs.Operations.{no_extent, key_extent, joined_extents, repeated_extent}
use Rattle.extents.proofs.CappedLaws.{capped_small, capped-zero, capped-sum, capped-product}

-- Line ends.

pub ends-none : end_count [] ≡ 0
unfolding end_count
ends-none = refl

pub ends-cons : (c : ℕ) (w : List ℕ) → end_count (c ∷ w) ≡ cond (eqb line_end c) 1 0 + end_count w
unfolding end_count
ends-cons c w = refl

pub ends-append : (u v : List ℕ) → end_count (u ++ v) ≡ end_count u + end_count v
unfolding end_count
ends-append [] v = omega arith
ends-append (c ∷ u) v = omega (arith, ends-append u v)

pub ends-times : (n : ℕ) (w : List ℕ) → end_count (times n w) ≡ end_count w * n
ends-times zero w = ap end_count (times_none w) ∙ ends-none ∙ let e : 0 ≡ end_count w * 0 = omega arith in e
ends-times (suc n) w = ap end_count (times-suc n w) ∙ ends-append w (times n w) ∙ ap (λ (k : ℕ). end_count w + k) (ends-times n w) ∙ let e : end_count w + end_count w * n ≡ end_count w * suc n = omega arith in e

-- each begins a part
pub later-length : (w : List ℕ) → length (later_parts w) ≡ end_count w
later-length [] = ap length later-none ∙ sym ends-none
later-length (c ∷ w) = ap length (later-cons c w) ∙ go (eqb line_end c) (later-length w) ∙ sym (ends-cons c w)
  where
    go : (b : Bool) → length (later_parts w) ≡ end_count w → length (cond b (first_part w ∷ later_parts w) (later_parts w)) ≡ cond b 1 0 + end_count w
    go true e = omega (arith, e)
    go false e = e ∙ let f : end_count w ≡ 0 + end_count w = omega arith in f

-- a run has later parts exactly if it has line ends
later-empty : (w : List ℕ) → end_count w ≡ 0 → later_parts w ≡ []
later-empty w e = go (later_parts w) (later-length w ∙ e)
  where
    go : (ls : List (List ℕ)) → length ls ≡ 0 → ls ≡ []
    go [] f = refl
    go (l ∷ ls) f = absurd (omega (arith, f))

-- by whether there is a line end
by-ends : {P : Type 0} (w : List ℕ) → (end_count w ≡ 0 → later_parts w ≡ [] → P) → ((l : List ℕ) (ls : List (List ℕ)) → eqb (end_count w) 0 ≡ false → later_parts w ≡ l ∷ ls → P) → P
by-ends {P} w f g = go (later_parts w) refl
  where
    go : (ls : List (List ℕ)) → later_parts w ≡ ls → P
    go [] e = f (sym (later-length w) ∙ ap length e) e
    go (l ∷ ls) e = g l ls (ne_eqb (end_count w) 0 (λ z. no_none (sym (ap length e) ∙ later-length w ∙ z))) e
      where
        no_none : length (l ∷ ls) ≡ 0 → ⊥
        no_none z = omega (arith, z)

-- The keys at the two ends.

pub open_is : (w : List ℕ) → open_part w ≡ last_part (first_part w) (later_parts w)
unfolding open_part
open_is w = refl

-- without a line end they are all keys
pub first-all : (w : List ℕ) → end_count w ≡ 0 → first_part w ≡ w
first-all w e = first-whole w (later-empty w e)

pub open-all : (w : List ℕ) → end_count w ≡ 0 → open_part w ≡ w
open-all w e = open_is w ∙ ap (last_part (first_part w)) (later-empty w e) ∙ last_one (first_part w) ∙ first-all w e

-- of runs one behind the other
pub first-both : (u v : List ℕ) → first_part (u ++ v) ≡ cond (eqb (end_count u) 0) (u ++ first_part v) (first_part u)
first-both u v = by-ends u (λ e n. first-into u v n ∙ rw e refl) (λ l ls e n. first-kept u v n ∙ rw e refl)

pub open-both : (u v : List ℕ) → open_part (u ++ v) ≡ cond (eqb (end_count v) 0) (open_part u ++ v) (open_part v)
open-both u v = by-ends v (λ e n. without e n ∙ rw e refl) (λ m ms e n. with-end m ms n ∙ rw e refl)
  where
    without : end_count v ≡ 0 → later_parts v ≡ [] → open_part (u ++ v) ≡ open_part u ++ v
    without e n =
        by-ends u
        (λ f k. open-all (u ++ v) (ends-append u v ∙ rw (e, f) refl) ∙ sym (ap (λ (l : List ℕ). l ++ v) (open-all u f)))
        (λ l ls f k.
        open_is (u ++ v) ∙ ap (last_part (first_part (u ++ v))) (later-kept u v k) ∙ last_more _ _ _ ∙ last-open l ls v n
        ∙ ap (λ (x : List ℕ). x ++ v) (sym (open_is u ∙ ap (last_part (first_part u)) k ∙ last_more (first_part u) l ls)))

    with-end : (m : List ℕ) (ms : List (List ℕ)) → later_parts v ≡ m ∷ ms → open_part (u ++ v) ≡ open_part v
    with-end m ms n =
        let right : open_part v ≡ last_part m ms = open_is v ∙ ap (last_part (first_part v)) n ∙ last_more (first_part v) m ms in
        by-ends u
        (λ f k. open_is (u ++ v) ∙ ap (last_part (first_part (u ++ v))) (later-into u v k ∙ n) ∙ last_more _ m ms ∙ sym right)
        (λ l ls f k. open_is (u ++ v) ∙ ap (last_part (first_part (u ++ v))) (later-kept u v k) ∙ last_more _ _ _ ∙ last-closed l ls v n ∙ sym right)

-- Extents.

-- their four numbers
pub extent-fields : (w : List ℕ) → extent_of w ≡ record { ends = capped (end_count w); first = capped (length (first_part w)); last = capped (length (open_part w)); keys = capped (length w) }
unfolding extent_of
extent-fields w = refl

extent-same : {a b c d e f g h : ℕ} → a ≡ e → b ≡ f → c ≡ g → d ≡ h → ◌≡◌ {A = Extent} (record { ends = a; first = b; last = c; keys = d }) (record { ends = e; first = f; last = g; keys = h })
extent-same p q r s = rw (p, q, r, s) refl

-- an extent by the numbers themselves
extent-by : (w : List ℕ) {a b c d : ℕ} → end_count w ≡ a → length (first_part w) ≡ b → length (open_part w) ≡ c → length w ≡ d → extent_of w ≡ record { ends = capped a; first = capped b; last = capped c; keys = capped d }
extent-by w p q r s = extent-fields w ∙ extent-same (ap capped p) (ap capped q) (ap capped r) (ap capped s)

few : (a b c d : ℕ) → a ≤ most → b ≤ most → c ≤ most → d ≤ most → ◌≡◌ {A = Extent} (record { ends = capped a; first = capped b; last = capped c; keys = capped d }) (record { ends = a; first = b; last = c; keys = d })
few a b c d p q r s = extent-same (capped_small a p) (capped_small b q) (capped_small c r) (capped_small d s)

pub no-extent : no_extent ≡ extent_of []
no-extent = sym (extent-by [] ends-none (ap length (first-all [] ends-none)) (ap length (open-all [] ends-none)) refl ∙ few 0 0 0 0 (omega arith) (omega arith) (omega arith) (omega arith))

-- one key
pub key-extent : (k : ℕ) → key_extent k ≡ extent_of (k ∷ [])
unfolding key_extent
key-extent k = by-test (eqb line_end k) (λ e. rw (eqb_swap k line_end ∙ e) (an-end e)) (λ e. rw (eqb_swap k line_end ∙ e) (a_key e))
  where
    an-end : eqb line_end k ≡ true → record { ends = 1; first = 0; last = 0; keys = 1 } ≡ extent_of (k ∷ [])
    an-end e =
        let one : end_count (k ∷ []) ≡ 1 = ends-cons k [] ∙ rw (e, ends-none) refl in
        let first : first_part (k ∷ []) ≡ [] = first-cons k [] ∙ rw e refl in
        let none : first_part [] ≡ [] = first-all [] ends-none in
        let last : open_part (k ∷ []) ≡ [] = open_is (k ∷ []) ∙ ap (last_part (first_part (k ∷ []))) (later-cons k [] ∙ rw (e, later-none) refl) ∙ last_more _ (first_part []) [] ∙ last_one (first_part []) ∙ none in
        sym (extent-by (k ∷ []) one (ap length first) (ap length last) refl ∙ few 1 0 0 1 (omega arith) (omega arith) (omega arith) (omega arith))

    a_key : eqb line_end k ≡ false → record { ends = 0; first = 1; last = 1; keys = 1 } ≡ extent_of (k ∷ [])
    a_key e =
        let none : end_count (k ∷ []) ≡ 0 = ends-cons k [] ∙ rw (e, ends-none) refl in
        sym (extent-by (k ∷ []) none (ap length (first-all (k ∷ []) none)) (ap length (open-all (k ∷ []) none)) refl ∙ few 0 1 1 1 (omega arith) (omega arith) (omega arith) (omega arith))

-- one run after the other
pub join-extents : (u v : List ℕ) → joined_extents (extent_of u) (extent_of v) ≡ extent_of (u ++ v)
unfolding joined_extents extent_of
join-extents u v =
    extent-same
    (capped-sum (end_count u) (end_count v) ∙ ap capped (sym (ends-append u v)))
    (rw (capped-zero (end_count u)) (by-test (eqb (end_count u) 0) (λ e. rw e (opens e)) (λ e. rw e (ap (λ (l : List ℕ). capped (length l)) (sym (kept-first e))))))
    (rw (capped-zero (end_count v)) (by-test (eqb (end_count v) 0) (λ e. rw e (closes e)) (λ e. rw e (ap (λ (l : List ℕ). capped (length l)) (sym (kept-open e))))))
    (capped-sum (length u) (length v) ∙ ap capped (sym (length-append u v)))
  where
    kept-first : eqb (end_count u) 0 ≡ false → first_part (u ++ v) ≡ first_part u
    kept-first e = first-both u v ∙ rw e refl

    kept-open : eqb (end_count v) 0 ≡ false → open_part (u ++ v) ≡ open_part v
    kept-open e = open-both u v ∙ rw e refl

    joined-open : eqb (end_count v) 0 ≡ true → open_part (u ++ v) ≡ open_part u ++ v
    joined-open e = open-both u v ∙ rw e refl

    joined-first : eqb (end_count u) 0 ≡ true → first_part (u ++ v) ≡ u ++ first_part v
    joined-first e = first-both u v ∙ rw e refl

    opens : eqb (end_count u) 0 ≡ true → capped (capped (length (first_part u)) + capped (length (first_part v))) ≡ capped (length (first_part (u ++ v)))
    opens e =
        let all : first_part u ≡ u = first-all u (eqb-true (end_count u) 0 e) in
        capped-sum (length (first_part u)) (length (first_part v))
        ∙ ap (λ (l : List ℕ). capped (length l + length (first_part v))) all
        ∙ ap capped (sym (length-append u (first_part v)))
        ∙ ap (λ (l : List ℕ). capped (length l)) (sym (joined-first e))

    closes : eqb (end_count v) 0 ≡ true → capped (capped (length (open_part v)) + capped (length (open_part u))) ≡ capped (length (open_part (u ++ v)))
    closes e =
        let all : open_part v ≡ v = open-all v (eqb-true (end_count v) 0 e) in
        let turned : length v + length (open_part u) ≡ length (open_part u) + length v = omega arith in
        capped-sum (length (open_part v)) (length (open_part u))
        ∙ ap (λ (l : List ℕ). capped (length l + length (open_part u))) all
        ∙ ap capped (turned ∙ sym (length-append (open_part u) v))
        ∙ ap (λ (l : List ℕ). capped (length l)) (sym (joined-open e))

-- A run n times, once or more.
module _ (w : List ℕ) where
  -- with a line end the keys at the two ends are those of one pass
  first-times : (n : ℕ) → eqb (end_count w) 0 ≡ false → first_part (times (suc n) w) ≡ first_part w
  first-times n e = ap first_part (times-suc n w) ∙ first-both w (times n w) ∙ rw e refl

  open-times : (n : ℕ) → eqb (end_count w) 0 ≡ false → open_part (times (suc n) w) ≡ open_part w
  open-times zero e = ap open_part (times-suc 0 w ∙ ap (λ (l : List ℕ). w ++ l) (times_none w) ∙ append-nil w)
  open-times (suc n) e =
      let some : eqb (end_count (times (suc n) w)) 0 ≡ false = ne_eqb (end_count (times (suc n) w)) 0 (λ z. many (sym (ends-times (suc n) w) ∙ z)) in
      ap open_part (times-suc (suc n) w) ∙ open-both w (times (suc n) w) ∙ rw some (open-times n e)
    where
      many : end_count w * suc n ≡ 0 → ⊥
      many z = eqb-false (end_count w) 0 e (omega (arith, z))

  pub repeat-extents : (n : ℕ) → repeated_extent n (extent_of w) ≡ extent_of (times n w)
  unfolding repeated_extent extent_of
  repeat-extents zero = no-extent ∙ ap extent_of (sym (times_none w))
  repeat-extents (suc n) =
      let some : eqb (suc n) 0 ≡ false = ne_eqb (suc n) 0 (omega arith) in
      rw some
      (extent-same
      (capped-product (end_count w) (suc n) ∙ ap capped (sym (ends-times (suc n) w)))
      (rw (capped-zero (end_count w)) (by-test (eqb (end_count w) 0) (λ e. rw e (capped-product (length (first_part w)) (suc n) ∙ ap capped (firsts e))) (λ e. rw e (capped-product (length (first_part w)) 1 ∙ ap capped (once (length (first_part w)) ∙ ap length (sym (first-times n e)))))))
      (rw (capped-zero (end_count w)) (by-test (eqb (end_count w) 0) (λ e. rw e (capped-product (length (open_part w)) (suc n) ∙ ap capped (lasts e))) (λ e. rw e (capped-product (length (open_part w)) 1 ∙ ap capped (once (length (open_part w)) ∙ ap length (sym (open-times n e)))))))
      (capped-product (length w) (suc n) ∙ ap capped (turned ∙ sym (times-length (suc n) w))))
    where
      once : (k : ℕ) → k * 1 ≡ k
      once k = omega arith

      turned : length w * suc n ≡ suc n * length w
      turned = omega arith

      none : eqb (end_count w) 0 ≡ true → end_count (times (suc n) w) ≡ 0
      none e = ends-times (suc n) w ∙ let z : end_count w ≡ 0 = eqb-true (end_count w) 0 e in rw z (omega arith)

      firsts : eqb (end_count w) 0 ≡ true → length (first_part w) * suc n ≡ length (first_part (times (suc n) w))
      firsts e = ap (λ (l : List ℕ). length l * suc n) (first-all w (eqb-true (end_count w) 0 e)) ∙ turned ∙ sym (times-length (suc n) w) ∙ ap length (sym (first-all (times (suc n) w) (none e)))

      lasts : eqb (end_count w) 0 ≡ true → length (open_part w) * suc n ≡ length (open_part (times (suc n) w))
      lasts e = ap (λ (l : List ℕ). length l * suc n) (open-all w (eqb-true (end_count w) 0 e)) ∙ turned ∙ sym (times-length (suc n) w) ∙ ap length (sym (open-all (times (suc n) w) (none e)))
