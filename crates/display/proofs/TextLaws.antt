-- Laws of the lines of answers.
use Prim.Native.Nat.{ℕ, ◌+◌, ◌*◌, ◌≤◌, min}
use native.Mathlib.Omega.{arith}
use mathlib.Core.Path.{◌≡◌, sym, ap, ◌∙◌}
use mathlib.Core.List.{List, ◌++◌}
use lib.ListN.{length, take, length-append, length-take}
use lib.Seq.{take_all}
use Rattle.refusal.specs.declared.Refusal.{Refusal}
use Rattle.refusal.specs.Number.{number}
use Rattle.runs.proofs.Tests.{either}
use Rattle.decimals.specs.Decimals.{numeral}
use Rattle.decimals.specs.Texts.{ascii}
use Rattle.decimals.specs.declared.text.Draft.{Draft}
use Rattle.decimals.specs.Drafts.{Puts}
use Rattle.decimals.proofs.DraftLaws.{puts-near, puts-wide, Holds, holds-more}
use Rattle.output.proofs.LineLaws.{line_of, three-put}
use Rattle.output.specs.Lines.{Line, ending, refused_text}
use Rattle.std.specs.Prelude.{Result, Ok, Err}
use Rattle.find.specs.declared.finding.FoundLine.{FoundLine}
use Rattle.display.specs.declared.asked.LineAnswer.{LineAnswer}
use Rattle.display.specs.Shown.{shown_keys}
use Rattle.display.specs.Asked.{told_by}
use Rattle.display.specs.Lines.{shown_text, long_text, line_text}
use Rattle.display.proofs.ShownLaws.{shown-short}

-- no more keys than the buffer has
first-keys : (keys : List ℕ) (l r : ℕ) → length keys ≡ 65536 → r ≡ min l 65536 → take r keys ≡ take l keys
first-keys keys l r full e =
    either 65536 l (λ h. take_all r keys (omega arith) ∙ sym (take_all l keys (omega arith)))
    (λ h. let same : r ≡ l = omega arith in ap (λ (n : ℕ). take n keys) same)

-- Texts put one behind the other from the front of a buffer on.
module _ {old : List ℕ} {a b c d g : Draft} (e : a.bytes.now ≡ old) (f : a.length ≡ 0) (u v w x : List ℕ) (p : Puts u a b) (q : Puts v b c) (r : Puts w c d) (s : Puts x d g) where
  four : length u + length v + length w + length x ≤ length old → Holds old (u ++ v ++ w ++ x) g
  four l = holds-more (three-put e f u p v q w r (omega arith)) x (rw (length-append (u ++ v) w, length-append u v) l) s

-- the keys have room behind `N:`
pub keys-room : (old : List ℕ) (n r : ℕ) {a b c : Draft} → length old ≡ 262208 → length (numeral n) ≤ 20 → r ≤ 65536 → a.bytes.now ≡ old → a.length ≡ 0 → Puts (numeral n) a b → Puts (ascii ":") b c → c.length + 4 * r ≤ length c.bytes.now
keys-room old n r wide short few e f p q = omega (arith, ap length e, wide, f, puts-near p, puts-wide p, puts-near q, puts-wide q, short, few)

module _ (old : List ℕ) (wide : length old ≡ 262208) (n : ℕ) (short : length (numeral n) ≤ 20) {a b c d g : Draft} {new : List ℕ} {m : ℕ} (e : a.bytes.now ≡ old) (f : a.length ≡ 0) (p : Puts (numeral n) a b) where
  -- `N length L`
  pub long-put : (l : ℕ) → length (numeral l) ≤ 20 → Puts (ascii " length ") b c → Puts (numeral l) c d → Puts ending d g → new ≡ g.bytes.now → m ≡ g.length → Line (long_text n l) old new m
  long-put l few q r s = line_of (four e f (numeral n) (ascii " length ") (numeral l) ending p q r s (omega (arith, wide, short, few)))

  -- `N:TEXT`
  pub shown-put : (l r : ℕ) (keys : List ℕ) → length keys ≡ 65536 → r ≡ min l 65536 → Puts (ascii ":") b c → Puts (shown_keys (take r keys)) c d → Puts ending d g → new ≡ g.bytes.now → m ≡ g.length → Line (shown_text n (take l keys)) old new m
  shown-put l r keys full s q x y z =
      let same : take r keys ≡ take l keys = first-keys keys l r full s in
      let few : length (shown_keys (take r keys)) ≤ 4 * 65536 = omega (arith, shown-short (take r keys), length-take r keys, s) in
      rw (← same) (line_of (four e f (numeral n) (ascii ":") (shown_keys (take r keys)) ending p q x y (omega (arith, wide, short, few))) z)

-- By the answer's case.
module _ {found : Result LineAnswer Refusal} (keys : List ℕ) {old new : List ℕ} {k : ℕ} where
  pub answer-shown : {i : FoundLine} → found ≡ Ok (LineAnswer.Shown i) → Line (shown_text i.number (take i.length keys)) old new k → Line (line_text (told_by found keys)) old new k
  unfolding line_text
  answer-shown e x = rw e x

  pub answer-long : {i : FoundLine} → found ≡ Ok (LineAnswer.Long i) → Line (long_text i.number i.length) old new k → Line (line_text (told_by found keys)) old new k
  unfolding line_text
  answer-long e x = rw e x

  pub answer-refused : {r : Refusal} → found ≡ Err r → Line (refused_text (number r)) old new k → Line (line_text (told_by found keys)) old new k
  unfolding line_text
  answer-refused e x = rw e x
