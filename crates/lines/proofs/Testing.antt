-- Laws of the one-line test: what is known after some keys of a line, and what it comes to.
use Prim.Native.Nat.{ℕ, ◌+◌, ◌<◌, ◌≤◌}
use native.Mathlib.Omega.{arith}
use native.Mathlib.Numerals.{add-one}
use mathlib.Core.Path.{◌≡◌, refl, sym, ap, ◌∙◌}
use mathlib.Core.Logic.{◌⊎◌, inl, inr}
use mathlib.Core.Bool.{Bool, true, ◌||◌}
use mathlib.Core.List.{List}
use lib.ListN.{length, get_or, take}
use lib.Seq.{take_all, take-suc}
use borrow.Author.Tests.{ne_eqb}
use Rattle.std.specs.Prelude.{Ok, Err}
use Rattle.refusal.specs.declared.Refusal.TheVariants.{InvalidKey}
use Rattle.runs.specs.Keys.{member, line_key, is_line, line_end}
use Rattle.runs.proofs.Tests.{or_left, or_right}
use Rattle.runs.proofs.KeyLaws.{key-test, line-more, line-without, member-at}
use Rattle.pattern.specs.Meaning.{Query, matches}
use Rattle.pattern.specs.Automata.{Automaton}
use Rattle.pattern.specs.declared.automaton.Tables.{Tables}
use Rattle.lines.specs.Answers.{line_of}
use Rattle.lines.specs.Moving.{moved, start_set, reached, has_accepting, looked_up}
use Rattle.lines.specs.Promises.{TestsLine}
use Rattle.lines.proofs.Reaching.{looked-up, reached-none, reached-more, reached-matches}

-- the key at a place
abbrev pub key_at : List ℕ → ℕ → ℕ
key_at line at = get_or line at 0

-- what is known after `at` keys of a line
pub record LineSoFar (d : Tables) (line : List ℕ) (set at : ℕ) : Type 0 where
  pub inside : at ≤ length line
  pub clean : is_line (take at line) ≡ true
  pub leads : (t : Query) → Automaton t d.keys d.enter d.accepting → set ≡ reached t (take at line)

module _ {d : Tables} {line : List ℕ} where
  pub line-start : {x : ℕ} → x ≡ start_set → LineSoFar d line x 0
  line-start e = record { inside = omega arith; clean = refl; leads = λ t a. e ∙ reached-none t }

  module _ {set at : ℕ} (s : LineSoFar d line set at) where
    pub line_on : {next : ℕ} → at < length line → key_at line at < 256 → (key_at line at ≡ 0 → ⊥) → (key_at line at ≡ 10 → ⊥) → next ≡ looked_up d.keys d.enter d.accepting set (key_at line at) → LineSoFar d line next (at + 1)
    line_on {next} h b zero ten g =
        record {
          inside = omega arith;
          clean = rw (add-one at, take-suc line at 0 h) (line-more (take at line) k s.clean key);
          leads = λ t a. g ∙ looked-up a set k key ∙ ap (λ (x : ℕ). moved t x k) (s.leads t a) ∙ reached-more t a.few (take at line) k ∙ sym (ap (reached t) (rw (add-one at) (take-suc line at 0 h)));
        }
      where
        k : ℕ
        k = get_or line at 0

        key : line_key k ≡ true
        key = sym (key-test k b (ne_eqb k 0 zero)) ∙ rw (ne_eqb k 10 ten) refl

    pub line_refused : at < length line → (key_at line at ≡ 0) ⊎ (key_at line at ≡ 10) → TestsLine d line (Err InvalidKey)
    unfolding line_of TestsLine
    line_refused h f t a = rw (go f) refl
      where
        go : (key_at line at ≡ 0) ⊎ (key_at line at ≡ 10) → (member 0 line || member line_end line) ≡ true
        go (inl z) = or_left (member 0 line) (member line_end line) (member-at 0 line at h z)
        go (inr z) = or_right (member 0 line) (member line_end line) (member-at line_end line at h z)

    -- the whole line
    pub line-whole : length line ≤ at → {m : Bool} → m ≡ has_accepting d.accepting set → TestsLine d line (Ok m)
    unfolding line_of TestsLine
    line-whole h {m} e t a =
        rw (line-without line 0 refl whole, line-without line line_end refl whole, found) refl
      where
        all : take at line ≡ line
        all = take_all at line h

        whole : is_line line ≡ true
        whole = rw all at s.clean

        found : matches t line ≡ m
        found = sym (e ∙ reached-matches a set line (s.leads t a ∙ ap (reached t) all) whole)
