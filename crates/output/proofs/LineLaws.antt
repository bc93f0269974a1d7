-- Laws of the lines that the programs print.
use Prim.Native.Nat.{ℕ, ◌+◌, ◌*◌, ◌<◌, ◌≤◌, min}
use native.Mathlib.Omega.{arith}
use native.Mathlib.Numerals.{add-one}
use mathlib.Core.Path.{◌≡◌, refl, sym, ap, subst, ◌∙◌}
use mathlib.Core.Bool.{Bool, true, false}
use mathlib.Core.List.{List, [], ◌∷◌, ◌++◌, append_assoc, append-nil}
use lib.Dec.{eqb, leb}
use lib.ListN.{length, get_or, take, length-append}
use lib.Seq.{take_all, take-suc}
use borrow.Author.Tests.{ne_eqb, leb-true, leb-false}
use Rattle.refusal.specs.declared.Refusal.{Refusal}
use Rattle.refusal.specs.Number.{number}
use Rattle.refusal.proofs.Number.{number-positive}
use Rattle.std.specs.Prelude.{Result, Ok, Err}
use Rattle.counter.specs.declared.counting.Count.{Count}
use Rattle.command.specs.Input.{told_by}
use Rattle.decimals.specs.Decimals.{numeral}
use Rattle.decimals.specs.Texts.{ascii}
use Rattle.decimals.specs.declared.text.Draft.{Draft}
use Rattle.decimals.specs.Drafts.{Puts}
use Rattle.decimals.proofs.DraftLaws.{puts-none, puts-both, puts-near, puts-wide, Holds, holds-none, holds-more}
use Rattle.reach.specs.Answer.{reached_figures}
use Rattle.survey.specs.declared.facts.Facts.{Facts}
use Rattle.survey.specs.Facts.{survey_figures}
use Rattle.output.specs.Lines.{field, ending, lines_text, refused_text, count_line, facts_text, survey_line, list_text, reach_text, Line}

-- A name and a number behind it.
pub field-puts : (name : List ℕ) (n : ℕ) {a b c : Draft} → a.length + (length name + 20) ≤ length a.bytes.now → length (numeral n) ≤ 20 → Puts name a b → Puts (numeral n) b c → Puts (name ++ numeral n) a c
field-puts name n room short p q = puts-both name (numeral n) (omega arith) p q

-- Texts put one behind the other from the front of a buffer on.
pub line_of : {old text new : List ℕ} {a : Draft} {k : ℕ} → Holds old text a → new ≡ a.bytes.now → k ≡ a.length → Line text old new k
line_of h e f = record { front = e ∙ h.front; long = f ∙ h.place }

module _ {old : List ℕ} {a : Draft} (e : a.bytes.now ≡ old) (f : a.length ≡ 0) (u : List ℕ) {b : Draft} (p : Puts u a b) where
  one-put : length u ≤ length old → Holds old u b
  one-put h = holds-more (holds-none a e f) u (omega arith) p

  module _ (v : List ℕ) {c : Draft} (q : Puts v b c) where
    two-put : length u + length v ≤ length old → Holds old (u ++ v) c
    two-put l = holds-more (one-put (omega arith)) v l q

    module _ (w : List ℕ) {d : Draft} (r : Puts w c d) where
      pub three-put : length u + length v + length w ≤ length old → Holds old (u ++ v ++ w) d
      three-put l = holds-more (two-put (omega arith)) w (rw (length-append u v) l) r

-- `refused R`
pub refused-put : (old : List ℕ) (n r : ℕ) {a b c d : Draft} {new : List ℕ} {k : ℕ} → n ≡ r → length (numeral n) ≤ 20 → a.bytes.now ≡ old → a.length ≡ 0
    → Puts (ascii "refused ") a b → Puts (numeral n) b c → Puts ending c d → new ≡ d.bytes.now → k ≡ d.length → 29 ≤ length old → Line (refused_text r) old new k
refused-put old n r same short e f p q x y z wide = rw (← same) (line_of (three-put e f (ascii "refused ") p (numeral n) q ending x (omega arith)) y z)

-- `lines N steps S`
pub lines-put : (old : List ℕ) (n k : ℕ) {a b c d : Draft} {new : List ℕ} {l : ℕ} → length old ≡ 128 → length (numeral n) ≤ 20 → length (numeral k) ≤ 20 → a.bytes.now ≡ old → a.length ≡ 0
    → Puts (field "lines " n) a b → Puts (field " steps " k) b c → Puts ending c d → new ≡ d.bytes.now → l ≡ d.length → Line (lines_text n k) old new l
lines-put old n k wide short small e f p q x y z = line_of (three-put e f (field "lines " n) p (field " steps " k) q ending x (omega arith)) y z

-- `sound version V macros M items I bytes B`
pub facts-put : (old : List ℕ) (s : Facts) {a b c d g h : Draft} {new : List ℕ} {l : ℕ} → length old ≡ 128 → length (numeral s.version) ≤ 20 → length (numeral s.macros) ≤ 20 → length (numeral s.items) ≤ 20 → length (numeral s.bytes) ≤ 20
    → a.bytes.now ≡ old → a.length ≡ 0 → Puts (field "sound version " s.version) a b → Puts (field " macros " s.macros) b c → Puts (field " items " s.items) c d → Puts (field " bytes " s.bytes) d g → Puts ending g h
    → new ≡ h.bytes.now → l ≡ h.length → Line (facts_text s) old new l
facts-put old s wide short small few less e f p q r x y u z =
    let third = three-put e f (field "sound version " s.version) p (field " macros " s.macros) q (field " items " s.items) r (omega arith) in
    let long : length (field "sound version " s.version ++ field " macros " s.macros ++ field " items " s.items) ≤ 89 =
    rw (length-append (field "sound version " s.version ++ field " macros " s.macros) (field " items " s.items), length-append (field "sound version " s.version) (field " macros " s.macros)) (omega arith)
    in
    let fourth = holds-more third (field " bytes " s.bytes) (omega arith) x in
    line_of (holds-more fourth ending (rw (length-append (field "sound version " s.version ++ field " macros " s.macros ++ field " items " s.items) (field " bytes " s.bytes)) (omega arith)) y) u z

-- By the answer's case.
pub refusal-told : (r : Refusal) → eqb (number r) 0 ≡ false
refusal-told r = ne_eqb (number r) 0 (omega (arith, number-positive r))

pub count-lines : (k : Count) {old new : List ℕ} {n : ℕ} {c : Result Count Refusal} → c ≡ Ok k → Line (lines_text k.lines k.steps) old new n → Line (count_line (told_by c)) old new n
unfolding count_line
count-lines k e l = rw e l

pub count-refused : (r : Refusal) {old new : List ℕ} {n : ℕ} {c : Result Count Refusal} → c ≡ Err r → Line (refused_text (number r)) old new n → Line (count_line (told_by c)) old new n
unfolding count_line
count-refused r e l = rw (e, refusal-told r) l

pub survey-facts : (f : Facts) {old new : List ℕ} {n : ℕ} {s : Result Facts Refusal} → s ≡ Ok f → Line (facts_text f) old new n → Line (survey_line (survey_figures s)) old new n
unfolding survey_line
survey-facts f e l = rw e l

pub survey-refused : (r : Refusal) {old new : List ℕ} {n : ℕ} {s : Result Facts Refusal} → s ≡ Err r → Line (refused_text (number r)) old new n → Line (survey_line (survey_figures s)) old new n
unfolding survey_line
survey-refused r e l = rw (e, refusal-told r) l

pub reach-listed : (n : ℕ) (list : List ℕ) {v old new : List ℕ} {k : ℕ} {r : Result ℕ Refusal} → r ≡ Ok n → Line (list_text v) old new k → v ≡ take (min n 1024) list → length list ≡ 1024 → Line (reach_text (reached_figures r) list) old new k
unfolding reach_text
reach-listed n list {v} {old} {new} {k} e l f long = rw e (subst (λ (v : List ℕ). Line (list_text v) old new k) (f ∙ all (leb n 1024) refl) l)
  where
    all : (b : Bool) → leb n 1024 ≡ b → take (min n 1024) list ≡ take n list
    all true g = let h = leb-true n 1024 g in let same : min n 1024 ≡ n = omega arith in rw same refl
    all false g = let h = leb-false n 1024 g in take_all (min n 1024) list (omega arith) ∙ sym (take_all n list (omega arith))

-- first parts are one where their lengths are
pub first-part : (list : List ℕ) {i j : ℕ} → i ≡ j → take i list ≡ take j list
first-part list e = ap (λ (n : ℕ). take n list) e

pub reach-refused : (q : Refusal) (list : List ℕ) {old new : List ℕ} {k : ℕ} {r : Result ℕ Refusal} → r ≡ Err q → Line (refused_text (number q)) old new k → Line (reach_text (reached_figures r) list) old new k
unfolding reach_text
reach-refused q list e l = rw (e, refusal-told q) l

-- The lines of a list.
list-more : (js : List ℕ) (j : ℕ) → list_text (js ++ (j ∷ [])) ≡ list_text js ++ (numeral j ++ ending)
unfolding list_text
list-more [] j = append-nil (numeral j ++ ending)
list-more (k ∷ js) j = rw (list-more js j) (sym (append_assoc (numeral k ++ ending) (list_text js) (numeral j ++ ending)))

-- a number has 20 digits at the most, so that an entry has 21 bytes
pub entry-puts : (n : ℕ) {a b c : Draft} → a.length + 21 ≤ length a.bytes.now → length (numeral n) ≤ 20 → Puts (numeral n) a b → Puts ending b c → Puts (numeral n ++ ending) a c
entry-puts n room short p q = puts-both (numeral n) ending (omega arith) p q

-- the first i entries are put, each in 21 bytes at the most
pub record Listed (list : List ℕ) (start now : Draft) (i : ℕ) : Type 0 where
  pub room : start.length + length list * 21 ≤ length start.bytes.now
  pub text : Puts (list_text (take i list)) start now
  pub few : length (list_text (take i list)) ≤ i * 21

pub listed-none : (list : List ℕ) (start : Draft) → start.length + length list * 21 ≤ length start.bytes.now → Listed list start start 0
unfolding list_text
listed-none list start room = record { room = room; text = puts-none start (omega arith); few = omega arith }

module _ {list : List ℕ} {start now : Draft} {i : ℕ} (c : Listed list start now i) where
  pub listed-room : i < length list → now.length + 21 ≤ length now.bytes.now
  listed-room h = omega (arith, c.few, c.room, puts-near c.text, puts-wide c.text)

  pub listed_more : {next : Draft} → i < length list → length (numeral (get_or list i 0)) ≤ 20 → Puts (numeral (get_or list i 0) ++ ending) now next → Listed list start next (i + 1)
  listed_more {next} inside short p =
      let j = get_or list i 0 in
      let before = list_text (take i list) in
      let size : length (numeral j ++ ending) ≡ length (numeral j) + 1 = length-append (numeral j) ending in
      let grown : list_text (take (i + 1) list) ≡ before ++ (numeral j ++ ending) = rw (add-one i, take-suc list i 0 (omega arith)) (list-more (take i list) j) in
      record {
        room = c.room;
        text = rw grown (puts-both before (numeral j ++ ending) (omega (arith, c.few, c.room)) c.text p);
        few = rw grown (omega (arith, c.few, length-append before (numeral j ++ ending)));
      }

  module _ (h : length list ≤ i) (e : i ≤ length list) where
    all : take i list ≡ list
    all = take_all i list h

    pub listed-all : Puts (list_text list) start now
    listed-all = subst (λ (v : List ℕ). Puts (list_text v) start now) all c.text

    pub listed-short : length (list_text list) ≤ length list * 21
    listed-short = let long : i ≡ length list = omega arith in subst (λ (v : List ℕ). length (list_text v) ≤ length list * 21) all (rw (← long) c.few)

-- a list from the front of a buffer on
pub list-put : (list old : List ℕ) {a b : Draft} {new : List ℕ} {k : ℕ} → length old ≡ 21504 → length list ≤ 1024 → length (list_text list) ≤ length list * 21 → a.bytes.now ≡ old → a.length ≡ 0
    → Puts (list_text list) a b → new ≡ b.bytes.now → k ≡ b.length → Line (list_text list) old new k
list-put list old wide few short e f p x y = line_of (one-put e f (list_text list) p (omega arith)) x y
