-- Whole numbers in decimal digits with their signs, and the line of two depths.
use Prim.Native.Nat.{ℕ, ◌+◌, ◌^◌, ◌<◌, ◌≤◌}
use native.Mathlib.Omega.{arith}
use mathlib.Core.Path.{◌≡◌, refl, sym, ap, subst, ◌∙◌}
use mathlib.Core.Bool.{true, false}
use mathlib.Core.List.{List, ◌++◌}
use lib.IntN.{ℤ, pos, nat_abs}
use lib.ListN.{length}
use lib.Signed.{mag, lt_z}
use mir.Syntax.{w64}
use mir.Val.{SFits}
use mir.ValLaws.{to_z-of_z}
use Rattle.refusal.specs.declared.Refusal.{Refusal}
use Rattle.refusal.specs.Number.{number}
use Rattle.decimals.specs.Decimals.{numeral}
use Rattle.decimals.specs.Texts.{ascii}
use Rattle.decimals.specs.declared.text.Draft.{Draft}
use Rattle.decimals.specs.Drafts.{Puts}
use Rattle.decimals.proofs.DraftLaws.{puts-as, puts-both, puts-near, puts-wide}
use Rattle.decimals.proofs.WholeLaws.{read, when-negative, when-other}
use Rattle.std.specs.Prelude.{Result, Ok, Err}
use Rattle.depth.specs.declared.reporting.Depths.{Depths}
use Rattle.survey.specs.Depths.{depth_told}
use Rattle.output.specs.Lines.{ending, refused_text, sign_text, whole_text, depths_text, depth_line, Line}
use Rattle.output.proofs.LineLaws.{line_of, three-put, refusal-told}

-- A negative number, and one that is not.
minus-text : (z : ℤ) → SFits w64 z → lt_z (read z) (pos 0) ≡ true → whole_text z ≡ ascii "-" ++ numeral (nat_abs z)
unfolding whole_text
minus-text z f h = when-negative (λ z. sign_text z ++ numeral (nat_abs z) ≡ ascii "-" ++ numeral (nat_abs z)) (λ n l. refl) z f h

plain-text : (z : ℤ) → SFits w64 z → lt_z (read z) (pos 0) ≡ false → whole_text z ≡ numeral (nat_abs z)
unfolding whole_text
plain-text z f h = when-other (λ z. sign_text z ++ numeral (nat_abs z) ≡ numeral (nat_abs z)) (λ n l. refl) z f h

-- A name and a whole number behind it, whose size n is.
module _ (z : ℤ) (f : SFits w64 z) {n : ℕ} (e : n ≡ nat_abs (read z)) (short : length (numeral n) ≤ 20) where
  size_is : n ≡ nat_abs z
  size_is = e ∙ ap nat_abs (to_z-of_z w64 z f)

  minus_is : lt_z (read z) (pos 0) ≡ true → ascii "-" ++ numeral n ≡ whole_text z
  minus_is h = ap (λ (k : ℕ). ascii "-" ++ numeral k) size_is ∙ sym (minus-text z f h)

  plain-is : lt_z (read z) (pos 0) ≡ false → numeral n ≡ whole_text z
  plain-is h = ap numeral size_is ∙ sym (plain-text z f h)

  pub minus-short : lt_z (read z) (pos 0) ≡ true → length (whole_text z) ≤ 21
  minus-short h = rw (← minus_is h) (omega arith)

  pub plain-short : lt_z (read z) (pos 0) ≡ false → length (whole_text z) ≤ 21
  plain-short h = rw (← plain-is h) (omega arith)

-- there is room behind the name
pub name-room : (name : List ℕ) {a b : Draft} → a.length + (length name + 21) ≤ length a.bytes.now → Puts name a b → b.length + 21 ≤ length b.bytes.now
name-room name room p = omega (arith, puts-near p, puts-wide p)

module _ (z : ℤ) (f : SFits w64 z) {n : ℕ} (e : n ≡ nat_abs (read z)) (short : length (numeral n) ≤ 20) (name : List ℕ) {a b c : Draft} (room : a.length + (length name + 21) ≤ length a.bytes.now) (p : Puts name a b) where
  pub minus-puts : lt_z (read z) (pos 0) ≡ true → Puts (ascii "-" ++ numeral n) b c → Puts (name ++ whole_text z) a c
  minus-puts h q = let few = minus-short z f e short h in puts-both name (whole_text z) (omega arith) p (puts-as (minus_is z f e short h) q)

  pub plain-puts : lt_z (read z) (pos 0) ≡ false → Puts (numeral n) b c → Puts (name ++ whole_text z) a c
  plain-puts h q = let few = plain-short z f e short h in puts-both name (whole_text z) (omega arith) p (puts-as (plain-is z f e short h) q)

-- `end E lowest L`
pub depths-put : (old : List ℕ) (end lowest : ℤ) (f : SFits w64 end) (g : SFits w64 lowest) {a b c d : Draft} {new : List ℕ} {l : ℕ} → length old ≡ 128 → length (whole_text (read end)) ≤ 21 → length (whole_text (read lowest)) ≤ 21 → a.bytes.now ≡ old → a.length ≡ 0
    → Puts (ascii "end " ++ whole_text (read end)) a b → Puts (ascii " lowest " ++ whole_text (read lowest)) b c → Puts ending c d → new ≡ d.bytes.now → l ≡ d.length → Line (depths_text end lowest) old new l
depths-put old end lowest f g {new = new} {l = l} wide short small e h p q x y z =
    subst (λ (k : ℤ). Line (depths_text k lowest) old new l) (to_z-of_z w64 end f)
    (subst (λ (k : ℤ). Line (depths_text (read end) k) old new l) (to_z-of_z w64 lowest g)
    (line_of (three-put e h (ascii "end " ++ whole_text (read end)) p (ascii " lowest " ++ whole_text (read lowest)) q ending x (omega arith)) y z))

-- By the answer's case.
pub depth-lines : (k : Depths) → mag k.end < 2 ^ 63 → mag k.lowest < 2 ^ 63 → {old new : List ℕ} {n : ℕ} {d : Result Depths Refusal} → d ≡ Ok k → Line (depths_text (read k.end) (read k.lowest)) old new n → Line (depth_line (depth_told d)) old new n
unfolding depth_line
depth-lines k f g {old} {new} {n} e l =
    rw e
    (subst (λ (z : ℤ). Line (depths_text z k.lowest) old new n) (to_z-of_z w64 k.end (record { sfits = f }))
    (subst (λ (z : ℤ). Line (depths_text (read k.end) z) old new n) (to_z-of_z w64 k.lowest (record { sfits = g })) l))

pub depth-refused : (r : Refusal) {old new : List ℕ} {n : ℕ} {d : Result Depths Refusal} → d ≡ Err r → Line (refused_text (number r)) old new n → Line (depth_line (depth_told d)) old new n
unfolding depth_line
depth-refused r e l = rw (e, refusal-told r) l
