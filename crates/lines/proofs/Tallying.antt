-- Laws of the count over a plain run: what is known after some of its keys, and what it comes to.
use Prim.Native.Nat.{ℕ, ◌+◌, ◌<◌, ◌≤◌}
use native.Mathlib.Omega.{arith}
use native.Mathlib.Nat.{zero-add}
use native.Mathlib.Numerals.{add-one}
use mathlib.Core.Path.{◌≡◌, refl, sym, ap, ◌∙◌}
use mathlib.Core.Bool.{Bool, true, false, cond, ◌&&◌}
use mathlib.Core.List.{List, [], ◌∷◌, ◌++◌, append-nil, append_assoc}
use lib.Dec.{eqb}
use lib.ListN.{length, get_or, take, drop, drop_of_length-le}
use lib.Seq.{take_all, take-suc, drop-cons}
use borrow.Author.Tests.{eqb-true, ne_eqb}
use Rattle.refusal.specs.declared.Refusal.TheVariants.{InvalidKey}
use Rattle.pattern.specs.Meaning.{Query, matches}
use Rattle.lines.specs.declared.run.Tally.{Tally}
use Rattle.lines.specs.Lines.{carriage_return, trimmed, closed_matches, matching, is_open}
use Rattle.lines.proofs.Trims.{trim-none, trim-line, trim-return, trim-other, open_more}
use Rattle.refusal.specs.Figures.{answered}
use Rattle.lines.specs.Answers.{run_of}
use Rattle.lines.specs.Promises.{AfterKey, CountsRun, closed_tally, tally_after}
use Rattle.lines.proofs.LineLaws.{matching-closed, matching-open}
use Rattle.lines.proofs.Reaching.{looked-up, reached-none, reached-more, reached-matches}
use Rattle.runs.specs.Keys.{member, line_key, is_line, line_end}
use Rattle.runs.proofs.KeyLaws.{key-test, line-more, line-without, member-at, member-more}
use Rattle.pattern.specs.declared.automaton.Tables.{Tables}
use Rattle.std.specs.Prelude.{Ok, Err}
use Rattle.std.specs.Int.{from_bool}
use Rattle.pattern.specs.Automata.{Automaton}
use Rattle.lines.specs.Moving.{has_accepting, reached, looked_up}

-- a line counts once, or not
pub once : (m : Bool) {x : ℕ} → x ≡ from_bool m → x ≡ cond m 1 0
once true e = e
once false e = e

pub at_most_one : (m : Bool) {x : ℕ} → x ≡ cond m 1 0 → x ≤ 1
at_most_one true e = omega arith
at_most_one false e = omega arith

-- One more key.
module _ {d : Tables} {a : Tally} {k : ℕ} where
  pub after-end : {x : ℕ} {m : Bool} → k ≡ line_end → m ≡ has_accepting d.accepting a.trimmed → x ≡ from_bool m → AfterKey d a k (closed_tally (a.lines + x))
  unfolding tally_after
  after-end {x} {m} e f g =
      record {
        small = omega (arith, at_most_one m (once m g));
        tallies = λ t h w l i j z. rw (e, once m g, f, reached-matches h a.trimmed (trimmed w) j (trim-line w l)) refl;
      }

  -- a key that goes on with the line, where x is what its keys less a final CR lead to
  after-key : {y x : ℕ} → k < 256 → (k ≡ line_end → ⊥) → y ≡ looked_up d.keys d.enter d.accepting a.set k
      → ((t : Query) (w : List ℕ) → a.set ≡ reached t w → y ≡ reached t (w ++ (k ∷ [])) → x ≡ reached t (trimmed (w ++ (k ∷ []))))
      → AfterKey d a k (record { set = y; trimmed = x; pending = true; lines = a.lines })
  unfolding tally_after
  after-key {y} {x} b n g f =
      record {
        small = omega arith;
        tallies = λ t h w l i j z.
            let no : eqb k line_end ≡ false = ne_eqb k line_end n in
            let key : line_key k ≡ true = sym (key-test k b z) ∙ rw no refl in
            let on : y ≡ reached t (w ++ (k ∷ [])) = g ∙ looked-up h a.set k key ∙ rw i (reached-more t h.few w k) in
            rw (no, f t w i on, on) refl;
      }

  pub after-return : {y : ℕ} → k < 256 → (k ≡ line_end → ⊥) → k ≡ carriage_return → y ≡ looked_up d.keys d.enter d.accepting a.set k
      → AfterKey d a k (record { set = y; trimmed = a.set; pending = true; lines = a.lines })
  after-return b n r g = after-key b n g (λ t w i on. i ∙ ap (reached t) (sym (ap (λ (c : ℕ). trimmed (w ++ (c ∷ []))) r ∙ trim-return w)))

  pub after-other : {y : ℕ} → k < 256 → (k ≡ line_end → ⊥) → (k ≡ carriage_return → ⊥) → y ≡ looked_up d.keys d.enter d.accepting a.set k
      → AfterKey d a k (record { set = y; trimmed = y; pending = true; lines = a.lines })
  after-other b n r g = after-key b n g (λ t w i on. on ∙ ap (reached t) (sym (trim-other w k (ne_eqb carriage_return k (λ e. r (sym e))))))

-- the run's lines are n, and those from the keys of `line` and from place `at` on
abbrev pub CountedTo : Query → List ℕ → ℕ → List ℕ → ℕ → Type 0
CountedTo t run at line n = n + matching t (line ++ drop at run) ≡ matching t run

-- the tally of the first `at` keys of a run
pub record Tallied (t : Query) (run : List ℕ) (at : ℕ) (a : Tally) : Type 0 where
  pub line : List ℕ
  pub clean : is_line line ≡ true
  pub leads : a.set ≡ reached t line
  pub closes : a.trimmed ≡ reached t (trimmed line)
  pub has_key : a.pending ≡ is_open line
  pub count : CountedTo t run at line a.lines

pub record RunSoFar (d : Tables) (run : List ℕ) (a : Tally) (at : ℕ) : Type 0 where
  pub inside : at ≤ length run
  pub small : a.lines + cond a.pending 1 0 ≤ at
  pub clean : member 0 (take at run) ≡ false
  pub tallied : (t : Query) → Automaton t d.keys d.enter d.accepting → Tallied t run at a

module _ {d : Tables} {run : List ℕ} where
  pub run-start : RunSoFar d run (closed_tally 0) 0
  run-start =
      record {
        inside = omega arith;
        small = omega arith;
        clean = refl;
        tallied = λ t h. record { line = []; clean = refl; leads = reached-none t; closes = reached-none t ∙ ap (reached t) (sym trim-none); has_key = refl; count = zero-add (matching t run) };
      }

  module _ {a : Tally} {at : ℕ} (s : RunSoFar d run a at) where
    pub run-refused : at < length run → get_or run at 0 ≡ 0 → CountsRun d run (Err InvalidKey)
    unfolding run_of CountsRun
    run-refused h e t i = rw (member-at 0 run at h e) refl

    pub run_on : {b : Tally} → at < length run → get_or run at 0 < 256 → (get_or run at 0 ≡ 0 → ⊥) → AfterKey d a (get_or run at 0) b → RunSoFar d run b (at + 1)
    unfolding tally_after
    run_on {b} h i n g =
        record {
          inside = omega arith;
          small = omega (arith, g.small, s.small);
          clean = rw (add-one at, take-suc run at 0 h) (member-more 0 (take at run) k s.clean (ne_eqb 0 k (λ e. n (sym e))));
          tallied = λ t j. go t j (s.tallied t j) (eqb k line_end) refl;
        }
      where
        k : ℕ
        k = get_or run at 0

        rest : drop at run ≡ k ∷ drop (at + 1) run
        rest = drop-cons run at 0 h ∙ ap (λ (m : ℕ). k ∷ drop m run) (sym (add-one at))

        closed : (t : Query) (w : List ℕ) → is_line w ≡ true → k ≡ line_end → b.lines ≡ a.lines + cond (closed_matches t w) 1 0 → CountedTo t run at w a.lines → CountedTo t run (at + 1) [] b.lines
        closed t w l e f r =
            omega
            (arith, ap (λ (v : List ℕ). matching t (w ++ v)) (rest ∙ ap (λ (x : ℕ). x ∷ drop (at + 1) run) e), matching-closed t w (drop (at + 1) run) (line-without w line_end refl l))

        longer : (t : Query) (w : List ℕ) → b.lines ≡ a.lines → CountedTo t run at w a.lines → CountedTo t run (at + 1) (w ++ (k ∷ [])) b.lines
        longer t w f r = rw (append_assoc, f, ← rest) r

        go : (t : Query) → Automaton t d.keys d.enter d.accepting → Tallied t run at a → (x : Bool) → eqb k line_end ≡ x → Tallied t run (at + 1) b
        go t j u true e =
            let w = u.line in
            let f : b ≡ closed_tally (a.lines + cond (closed_matches t w) 1 0) = rw e at (g.tallies t j w u.clean u.leads u.closes (ne_eqb k 0 n)) in
            record {
              line = [];
              clean = refl;
              leads = ap (λ (d : Tally). d.set) f ∙ reached-none t;
              closes = ap (λ (d : Tally). d.trimmed) f ∙ reached-none t ∙ ap (reached t) (sym trim-none);
              has_key = ap (λ (d : Tally). d.pending) f;
              count = closed t w u.clean (eqb-true k line_end e) (ap (λ (d : Tally). d.lines) f) u.count;
            }
        go t j u false e =
            let w = u.line in
            let f : b ≡ record { set = reached t (w ++ (k ∷ [])); trimmed = reached t (trimmed (w ++ (k ∷ []))); pending = true; lines = a.lines } = rw e at (g.tallies t j w u.clean u.leads u.closes (ne_eqb k 0 n)) in
            record {
              line = w ++ (k ∷ []);
              clean = line-more w k u.clean (sym (key-test k i (ne_eqb k 0 n)) ∙ rw e refl);
              leads = ap (λ (d : Tally). d.set) f;
              closes = ap (λ (d : Tally). d.trimmed) f;
              has_key = ap (λ (d : Tally). d.pending) f ∙ sym (open_more w k);
              count = longer t w (ap (λ (d : Tally). d.lines) f) u.count;
            }

    pub run-done : {m : Bool} {y : ℕ} → length run ≤ at → m ≡ has_accepting d.accepting a.set → y ≡ from_bool (a.pending && m) → CountsRun d run (Ok (a.lines + y))
    unfolding run_of CountsRun
    run-done {m} {y} h e g t i = rw none (ap answered total)
      where
        none : member 0 run ≡ false
        none = rw (take_all at run h) at s.clean

        total : a.lines + y ≡ matching t run
        total =
            let u = s.tallied t i in
            let w = u.line in
            let last : y ≡ cond (is_open w && matches t w) 1 0 = once (a.pending && m) g ∙ rw (u.has_key, e, reached-matches i a.set w u.leads u.clean) refl in
            omega
            (arith, u.count, ap (λ (v : List ℕ). matching t (w ++ v)) (drop_of_length-le run h), ap (matching t) (append-nil w), matching-open t w (line-without w line_end refl u.clean), last)
