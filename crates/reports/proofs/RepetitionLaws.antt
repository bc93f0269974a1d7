-- Repetition by doubling: what is known before each turn and at the end, and that it is what is kept of the repeated run.
use Prim.Native.Nat.{ℕ, zero, suc, ◌+◌, ◌-◌, ◌*◌, ◌/◌, ◌%◌, ◌^◌, ◌<◌, ◌≤◌}
use native.Mathlib.Omega.{arith}
use native.Mathlib.Nat.{add-zero, div-div-eq-div-mul, pow-succ', two-pow-succ}
use native.Mathlib.Numerals.{add-one}
use native.Mathlib.Decide.{le_ind}
use mathlib.Core.Path.{◌≡◌, refl, sym, ap, ◌∙◌}
use mathlib.Core.Bool.{Bool, true, false, cond}
use mathlib.Core.List.{List, ◌++◌}
use lib.Arith.{mod-mul}
use lib.Dec.{eqb}
use lib.Pow.{pow_pos}
use borrow.Author.Tests.{eqb-true, eqb-false}
use Rattle.runs.specs.Keys.{is_run}
use Rattle.runs.specs.Kept.{times}
use Rattle.runs.proofs.KeptLaws.{times-one, times_none, times-run, twice, added}
use Rattle.stateset.specs.Set.{bit}
use Rattle.stateset.proofs.Sets.{bit-first, bit-half, bit-zero, bit_high}
use Rattle.pattern.specs.Meaning.{Query}
use Rattle.pattern.specs.Form.{atom_count}
use Rattle.reports.specs.declared.span_count.SpanCount.{SpanCount}
use Rattle.reports.specs.Reports.{span_count, empty_count, joined_counts}
use Rattle.reports.specs.Repetition.{doubled, by_digits, repeated_count}
use Rattle.reports.proofs.ReportLaws.{empty-count, empty-small, count-size, join-counts, joined_small}

-- one digit more
digits_more : (n k : ℕ) (a : SpanCount) → by_digits n (k + 1) a ≡ cond (bit n k) (joined_counts (by_digits n k a) (doubled k a)) (by_digits n k a)
unfolding by_digits
digits_more n k a = rw (add-one k) refl

-- digits that are all 0 add nothing
digits-zero : (n i j : ℕ) (a : SpanCount) → i ≤ j → ((k : ℕ) → i ≤ k → bit n k ≡ false) → by_digits n j a ≡ by_digits n i a
unfolding by_digits
digits-zero n i j a h e = le_ind (λ (m : ℕ). by_digits n m a ≡ by_digits n i a) refl (λ m l f. rw (e m l) f) j h

-- After k turns: `left` is n without its lowest k digits, whose passes are joined; 2^k passes are one part.
pub record Repeating (n : ℕ) (a all part : SpanCount) (left : ℕ) : Type 0 where
  pub turns : ℕ
  pub digits : (j : ℕ) → bit n (turns + j) ≡ bit left j
  pub joined : all ≡ by_digits n turns a
  pub one : part ≡ doubled turns a

pub repeat-none : (n : ℕ) (a : SpanCount) {x : SpanCount} → x ≡ empty_count a.span.s → Repeating n a x a n
unfolding by_digits doubled
repeat-none n a f = record { turns = 0; digits = λ j. let e : 0 + j ≡ j = omega arith in rw e refl; joined = f; one = refl }

module _ {n : ℕ} {a all part : SpanCount} {left : ℕ} (r : Repeating n a all part left) where
  -- the digit of this turn
  here : bit n r.turns ≡ eqb (left % 2) 1
  here = rw (add-zero r.turns) at (r.digits 0) ∙ bit-first left

  higher : (j : ℕ) → bit n (r.turns + 1 + j) ≡ bit (left / 2) j
  higher j =
      let e : r.turns + 1 + j ≡ r.turns + suc j = omega arith in
      rw e (r.digits (suc j) ∙ sym (bit-half left j))

  more : {x : SpanCount} → x ≡ cond (eqb (left % 2) 1) (joined_counts all part) all → x ≡ by_digits n (r.turns + 1) a
  more e = e ∙ rw (← here, r.joined, r.one) (sym (digits_more n r.turns a))

  pub repeat-more : {x y : SpanCount} → x ≡ cond (eqb (left % 2) 1) (joined_counts all part) all → y ≡ joined_counts part part → Repeating n a x y (left / 2)
  unfolding doubled
  repeat-more e f = record { turns = r.turns + 1; digits = higher; joined = more e; one = f ∙ rw (r.one, add-one r.turns) refl }

  pub repeat-done : {x : SpanCount} → n < 65536 → left ≤ 1 → x ≡ cond (eqb left 1) (joined_counts all part) all → x ≡ repeated_count n a
  unfolding repeated_count
  repeat-done {x} small h e =
      let same : left % 2 ≡ left = omega arith in
      let none : left / 2 ≡ 0 = omega arith in
      let last : x ≡ by_digits n (r.turns + 1) a = more (e ∙ ap (λ (k : ℕ). cond (eqb k 1) (joined_counts all part) all) (sym same)) in
      let far : ℕ = r.turns + 1 + 16 in
      let zeros : (k : ℕ) → r.turns + 1 ≤ k → bit n k ≡ false = λ k l. above k l none in
      last ∙ sym (digits-zero n (r.turns + 1) far a (omega arith) zeros) ∙ digits-zero n 16 far a (omega arith) (λ k l. bit_high 16 n k small l)
    where
      above : (k : ℕ) → r.turns + 1 ≤ k → left / 2 ≡ 0 → bit n k ≡ false
      above k l none =
          let e : k ≡ r.turns + 1 + (k - (r.turns + 1)) = omega arith in
          rw e (higher (k - (r.turns + 1)) ∙ rw none (bit-zero (k - (r.turns + 1))))

-- no more than 32 states
digits-small : (n k : ℕ) (a : SpanCount) → (by_digits n k a).span.s ≤ 32
unfolding by_digits
digits-small n zero a = empty-small a.span.s
digits-small n (suc k) a = go (bit n k) (digits-small n k a)
  where
    go : (t : Bool) → (by_digits n k a).span.s ≤ 32 → (cond t (joined_counts (by_digits n k a) (doubled k a)) (by_digits n k a)).span.s ≤ 32
    go true h = joined_small (by_digits n k a) (doubled k a)
    go false h = h

pub repeated-small : (n : ℕ) (a : SpanCount) → (repeated_count n a).span.s ≤ 32
unfolding repeated_count
repeated-small n a = digits-small n 16 a

-- a digit, and the number of the digits up to it
digit-is : (n k : ℕ) → bit n k ≡ eqb (n / 2 ^ k % 2) 1
digit-is n zero = let all : n / 2 ^ 0 ≡ n = omega arith in bit-first n ∙ rw all refl
digit-is n (suc k) =
    let half : n / 2 / 2 ^ k ≡ n / (2 * 2 ^ k) = div-div-eq-div-mul n 2 (2 ^ k) in
    let power : 2 * 2 ^ k ≡ 2 ^ suc k = sym (pow-succ' 2 k) in
    sym (bit-half n k) ∙ digit-is (n / 2) k ∙ ap (λ (m : ℕ). eqb (m % 2) 1) (half ∙ ap (λ (m : ℕ). n / m) power)

low-more : (n k : ℕ) → n % 2 ^ suc k ≡ (n / 2 ^ k % 2) * 2 ^ k + n % 2 ^ k
low-more n k = ap (λ (m : ℕ). n % m) (pow-succ' 2 k) ∙ mod-mul n {m = 2} {c = 2 ^ k} (omega arith) (pow_pos k)

-- Of a run under an accepted pattern it is what is kept of the run, n times.
module _ (t : Query) (few : atom_count t.tree ≤ 29) (w : List ℕ) (run : is_run w ≡ true) where
  joins : (u v : List ℕ) → is_run u ≡ true → is_run v ≡ true → joined_counts (span_count t u) (span_count t v) ≡ span_count t (u ++ v)
  joins u v = join-counts t few u v

  doubled_run : (k : ℕ) → doubled k (span_count t w) ≡ span_count t (times (2 ^ k) w)
  unfolding doubled
  doubled_run zero = ap (span_count t) (sym (times-one w))
  doubled_run (suc k) =
      twice (span_count t) joined_counts (λ u. is_run u ≡ true) joins w (λ m. times-run m w run) (2 ^ k) (doubled_run k)
      ∙ ap (λ (m : ℕ). span_count t (times m w)) (sym (two-pow-succ k))

  digits-run : (n k : ℕ) → by_digits n k (span_count t w) ≡ span_count t (times (n % 2 ^ k) w)
  unfolding by_digits
  digits-run n zero =
      let none : n % 2 ^ 0 ≡ 0 = omega arith in
      ap empty_count (count-size t w) ∙ empty-count t few ∙ ap (span_count t) (sym (ap (λ (m : ℕ). times m w) none ∙ times_none w))
  digits-run n (suc k) = go (bit n k) refl (digits-run n k)
    where
      passes : (x : ℕ) → n / 2 ^ k % 2 ≡ x → n % 2 ^ suc k ≡ x * 2 ^ k + n % 2 ^ k
      passes x e = low-more n k ∙ ap (λ (d : ℕ). d * 2 ^ k + n % 2 ^ k) e

      go : (d : Bool) → bit n k ≡ d → by_digits n k (span_count t w) ≡ span_count t (times (n % 2 ^ k) w)
          → cond d (joined_counts (by_digits n k (span_count t w)) (doubled k (span_count t w))) (by_digits n k (span_count t w)) ≡ span_count t (times (n % 2 ^ suc k) w)
      go true e ih =
          let one : n / 2 ^ k % 2 ≡ 1 = eqb-true (n / 2 ^ k % 2) 1 (sym (digit-is n k) ∙ e) in
          let sum : n % 2 ^ k + 2 ^ k ≡ n % 2 ^ suc k = sym (passes 1 one ∙ omega arith) in
          added (span_count t) joined_counts (λ u. is_run u ≡ true) joins w (λ m. times-run m w run) (n % 2 ^ k) (2 ^ k) ih (doubled_run k)
          ∙ ap (λ (m : ℕ). span_count t (times m w)) sum
      go false e ih =
          let other : n / 2 ^ k % 2 ≡ 1 → ⊥ = eqb-false (n / 2 ^ k % 2) 1 (sym (digit-is n k) ∙ e) in
          let zero_is : n / 2 ^ k % 2 ≡ 0 = omega arith in
          let sum : n % 2 ^ k ≡ n % 2 ^ suc k = sym (passes 0 zero_is ∙ omega arith) in
          ih ∙ ap (λ (m : ℕ). span_count t (times m w)) sum

  -- "The run has the item that many times"; sums at the limit are exact
  pub repeat-counts : (n : ℕ) → n < 65536 → repeated_count n (span_count t w) ≡ span_count t (times n w)
  unfolding repeated_count
  repeat-counts n h = let low : n % 2 ^ 16 ≡ n = omega arith in digits-run n 16 ∙ ap (λ (m : ℕ). span_count t (times m w)) low
