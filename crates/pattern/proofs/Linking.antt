-- The loop that links states: what is known before state q, and one law for each way on and out.
use Prim.Native.Nat.{ℕ, suc, ◌+◌, ◌/◌, ◌%◌, ◌^◌, ◌<◌, ◌≤◌}
use native.Mathlib.Omega.{arith}
use native.Mathlib.Nat.{add-zero, zero-add}
use mathlib.Core.Path.{◌≡◌, sym, ap, ◌∙◌}
use mathlib.Core.Bool.{Bool, cond}
use mathlib.Core.List.{List}
use lib.Dec.{eqb}
use lib.ListN.{get_or, set}
use lib.Bits.{bit_or}
use Rattle.stateset.specs.Set.{bit}
use Rattle.stateset.proofs.Sets.{bit_high, bit-half, bit-first}
use Rattle.pattern.specs.Tables.{linked}
use Rattle.brackets.proofs.Entries.{partly, entry_first, entry_set, entry-last}

module _ (from to : ℕ) where
  -- the entry of one state
  abbrev pub linked_entry : ℕ → ℕ → ℕ
  linked_entry q x = cond (bit from q) (bit_or x to) x

  -- the states below q are linked, and `rest` has the digits of `from` from q on
  pub record Linked (before enter : List ℕ) (rest q : ℕ) : Type 0 where
    pub inside : q ≤ 32
    pub digits : (p : ℕ) → bit rest p ≡ bit from (q + p)
    pub entries : enter ≡ partly linked_entry q before

  pub linked-none : (before : List ℕ) → Linked before before from 0
  linked-none before = record { inside = omega arith; digits = λ p. ap (bit from) (sym (zero-add p)); entries = entry_first linked_entry 0 before (λ k x h. absurd (never h)) }
    where
      never : {k : ℕ} → k < 0 → ⊥
      never h = omega arith

  module _ (before enter : List ℕ) (rest q : ℕ) (l : Linked before enter rest q) where
    pub linked-more : (v : ℕ) → q < 32 → v ≡ cond (eqb (rest % 2) 1) (bit_or (get_or enter q 0) to) (get_or enter q 0) → Linked before (set enter q v) (rest / 2) (q + 1)
    linked-more v h e = record {
      inside = omega arith;
      digits = λ p. bit-half rest p ∙ l.digits (suc p) ∙ ap (bit from) (shift p);
      entries = entry_set 0 linked_entry q enter before l.entries v (e ∙ ap (λ (t : Bool). cond t (bit_or (get_or enter q 0) to) (get_or enter q 0)) (sym (bit-first rest) ∙ l.digits 0 ∙ ap (bit from) (add-zero q)));
    }
      where
        shift : (p : ℕ) → q + suc p ≡ q + 1 + p
        shift p = omega arith

    pub linked-all : from < 2 ^ 32 → 32 ≤ q → enter ≡ linked from to before
    linked-all h g = entry-last 0 linked_entry q enter before l.entries (λ k x i. rw (bit_high 32 from k h (high i)))
      where
        high : {k : ℕ} → q ≤ k → 32 ≤ k
        high i = omega arith
