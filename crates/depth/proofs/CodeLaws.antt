-- What the code does, place by place: the unmatched keys of one key and of two runs, and differences.
use Prim.Native.Nat.{ℕ, zero, suc, ◌+◌, ◌-◌, ◌*◌, ◌^◌, ◌<◌, ◌≤◌, min}
use native.Mathlib.Omega.{arith}
use mathlib.Core.Path.{◌≡◌, refl, sym, ap, subst, ◌∙◌}
use mathlib.Core.Bool.{Bool, true, false, cond}
use mathlib.Core.List.{List, append_assoc}
use lib.Dec.{eqb}
use lib.ListN.{length, set, take, drop}
use lib.Seq.{sets-eq}
use lib.IntN.{ℤ, pos, sub_ℕ, ◌-ℤ◌}
use mir.Syntax.{w64}
use mir.Val.{SFits, bool_byte, to_z, of_z}
use mir.ValLaws.{to_z_pos, to_z-of_z}
use Rattle.runs.proofs.Tests.{either}
use Rattle.book.specs.declared.item.Item.{Item}
use Rattle.book.specs.declared.item.Item.TheVariants.{Key, Call}
use Rattle.depth.specs.declared.unmatched.Delimiters.{Delimiters}
use Rattle.depth.specs.declared.unmatched.Unmatched.{Unmatched}
use Rattle.depth.specs.Answer.{longest, word, width}
use Rattle.depth.specs.Promises.{too_long, followed, times_unmatched, key_unmatched, loaded_at, words_of, stored_at, item_unmatched, InWords}
use Rattle.depth.proofs.Differences.{sub-above, sub-below}
use Rattle.depth.proofs.UnmatchedLaws.{same-unmatched, joined-over, joined-fits, times-over, times-fits}

-- One key.
byte-is : (t : Bool) → bool_byte t ≡ cond t 1 0
byte-is true = refl
byte-is false = refl

pub key-made : (opening closing k : ℕ) {c o : ℕ} → c ≡ bool_byte (eqb k closing) → o ≡ bool_byte (eqb k opening) → record { length = 1; closings = c; openings = o } ≡ key_unmatched opening closing k
unfolding key_unmatched
key-made opening closing k e f = same-unmatched refl (e ∙ byte-is (eqb k closing)) (f ∙ byte-is (eqb k opening))

-- Two runs, by the sum of their lengths, which stops at the last word.
module _ (a b : Unmatched) {n : ℕ} (e : n ≡ min (a.length + b.length) (2 ^ 64 - 1)) where
  pub both_long : longest < n → too_long ≡ followed a b
  both_long h = joined-over a b (omega (arith, e))

  pub both_fit : n ≤ longest → {c o : ℕ} → c ≡ b.closings - a.openings → o ≡ a.openings - b.closings → record { length = n; closings = a.closings + c; openings = b.openings + o } ≡ followed a b
  both_fit h f g = same-unmatched (omega (arith, e)) (rw f refl) (rw g refl) ∙ joined-fits a b (omega (arith, e))

-- A run so many times.
module _ (u : Unmatched) {k p n : ℕ} (d : p ≡ k) (e : n ≡ min (u.length * p) (2 ^ 64 - 1)) where
  length-is : n ≡ min (u.length * k) (2 ^ 64 - 1)
  length-is = rw d at e

  pub passes_long : longest < n → too_long ≡ times_unmatched k u
  passes_long h = times-over k u (omega (arith, length-is))

  pub passes-fit : n ≤ longest → {c o : ℕ} → c ≡ u.closings - u.openings → o ≡ u.openings - u.closings → record { length = n; closings = u.closings + c * (p - 1); openings = u.openings + o * (p - 1) } ≡ times_unmatched k u
  passes-fit h f g = same-unmatched (omega (arith, length-is)) (rw (f, d) refl) (rw (g, d) refl) ∙ times-fits k u (omega (arith, length-is))

-- Differences of small numbers, as whole numbers.
sub-signed : (a b : ℕ) → pos a -ℤ pos b ≡ sub_ℕ a b
sub-signed a zero = let same : a + 0 ≡ a - 0 = omega arith in ap pos same ∙ sym (sub-above a 0 (omega arith))
sub-signed a (suc b) = refl

module _ (a b : ℕ) (small : a ≤ longest) (low : b ≤ longest) where
  difference-fits : SFits w64 (sub_ℕ a b)
  difference-fits =
      either a b
      (λ h. rw (sub-below a b h) (record { sfits = omega arith }))
      (λ h. rw (sub-above a b h) (record { sfits = omega arith }))

  signed-is : to_z w64 a -ℤ to_z w64 b ≡ sub_ℕ a b
  signed-is = rw (to_z_pos w64 a (omega arith), to_z_pos w64 b (omega arith)) (sub-signed a b)

  pub signed-fits : SFits w64 (to_z w64 a -ℤ to_z w64 b)
  signed-fits = subst (SFits w64) (sym signed-is) difference-fits

  -- they come back from their bits
  pub bits_back : {z : ℤ} → z ≡ sub_ℕ a b → to_z w64 (of_z w64 z) ≡ sub_ℕ a b
  bits_back e = ap (λ (x : ℤ). to_z w64 (of_z w64 x)) e ∙ to_z-of_z w64 (sub_ℕ a b) difference-fits

  pub signed-back : to_z w64 (of_z w64 (to_z w64 a -ℤ to_z w64 b)) ≡ sub_ℕ a b
  signed-back = bits_back signed-is

-- One item.
module _ (keys : Delimiters) (work : List ℕ) {item : Item} {r : Unmatched} where
  pub item-key : {k : ℕ} → item ≡ Key k → r ≡ key_unmatched keys.opening keys.closing k → r ≡ item_unmatched keys work item
  unfolding item_unmatched
  item-key e f = rw e f

  pub item-call : {j : ℕ} → item ≡ Call j → r ≡ loaded_at work (j * width) → r ≡ item_unmatched keys work item
  unfolding item_unmatched
  item-call e f = rw e f

pub call-room : (work : List ℕ) {item : Item} {j : ℕ} → InWords work item → item ≡ Call j → j * width + width ≤ length work
unfolding InWords
call-room work {item} {j} h e = rw e at h

-- for every call of `load` in `of_item`
pub ruleset call_rules = (call-room)

-- The words that are stored.
pub stored-words : (work : List ℕ) (at : ℕ) (u : Unmatched) {end lowest : ℕ} → at + width ≤ length work → end ≡ word (sub_ℕ u.openings u.closings) → lowest ≡ word (sub_ℕ 0 u.closings)
    → set (set (set work at u.length) (at + 1) end) (at + 2) lowest ≡ stored_at work at u
stored-words work at u h e f =
    let one : at + 1 ≡ suc at = omega arith in
    let two : at + 2 ≡ suc (suc at) = omega arith in
    rw (e, f, one, two) (sets-eq (words_of u) work at h ∙ append_assoc (take at work) (words_of u) (drop (at + width) work))
