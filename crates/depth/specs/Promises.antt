-- What private functions promise each other; no public contract cites these.
use Rattle.std.specs.Prelude.{ℕ, suc, ◌+◌, ◌*◌, ◌-◌, ◌^◌, ◌<◌, ◌≤◌, ◌≡◌, false, cond, List, [], ◌∷◌, ◌++◌, eqb, leb, length, get_or, take, drop, nat_abs, Result}
use Rattle.refusal.specs.declared.Refusal.{Refusal}
use Rattle.std.proofs.Math.IntN.{sub_ℕ}
use Rattle.runs.specs.Kept.{first_words}
use Rattle.book.specs.declared.item.Item.{Item}
use Rattle.book.specs.declared.item.Item.TheVariants.{Key, Call}
use Rattle.book.specs.Format.{Macro}
use Rattle.book.specs.Expansion.{expansion}
use Rattle.book.specs.Reading.{macros_in}
use Rattle.book.specs.Answer.{offsets_in}
use Rattle.depth.specs.declared.unmatched.Delimiters.{Delimiters}
use Rattle.depth.specs.declared.unmatched.Unmatched.{Unmatched}
use Rattle.depth.specs.declared.reporting.Depths.{Depths}
use Rattle.depth.specs.Depths.{occurrences, lowest_depth}
use Rattle.depth.specs.Answer.{longest, is_short, word, width, macro_words, filled, depths_of, outcome}

-- the closings that close no block of a run, and the openings of blocks that it leaves open: the depth falls to minus the first number, and
-- ends so far above that as the second says
abbrev pub closings_in : ℕ → ℕ → List ℕ → ℕ
closings_in opening closing w = nat_abs (lowest_depth opening closing w)

abbrev pub openings_in : ℕ → ℕ → List ℕ → ℕ
openings_in opening closing w = (occurrences opening w + closings_in opening closing w) - occurrences closing w

abbrev pub too_long : Unmatched
too_long = record { length = 2 ^ 64 - 1; closings = 0; openings = 0 }

abbrev pub counted : ℕ → ℕ → List ℕ → Unmatched
counted opening closing w = record { length = length w; closings = closings_in opening closing w; openings = openings_in opening closing w }

-- what is kept of a run
unfoldable pub unmatched_in : ℕ → ℕ → List ℕ → Unmatched
unmatched_in opening closing w = cond (is_short w) (counted opening closing w) too_long

-- neither number is larger than the length
pub record Sized (u : Unmatched) : Type 0 where
  pub closed : u.closings ≤ u.length
  pub opened : u.openings ≤ u.length

-- one run behind another: openings of the first meet closings of the second
abbrev pub matched : Unmatched → Unmatched → Unmatched
matched a b = record { length = a.length + b.length; closings = a.closings + (b.closings - a.openings); openings = b.openings + (a.openings - b.closings) }

unfoldable pub followed : Unmatched → Unmatched → Unmatched
followed a b = cond (leb (a.length + b.length) longest) (matched a b) too_long

-- a run n times: with each pass more the one sort becomes more by what it is over the other
abbrev pub repeatedly : ℕ → Unmatched → Unmatched
repeatedly n u =
    record {
      length = u.length * n;
      closings = u.closings + (u.closings - u.openings) * (n - 1);
      openings = u.openings + (u.openings - u.closings) * (n - 1);
    }

unfoldable pub times_unmatched : ℕ → Unmatched → Unmatched
times_unmatched n u = cond (leb (u.length * n) longest) (repeatedly n u) too_long

-- one key
unfoldable pub key_unmatched : ℕ → ℕ → ℕ → Unmatched
key_unmatched opening closing k = record { length = 1; closings = cond (eqb k closing) 1 0; openings = cond (eqb k opening) 1 0 }

-- what some words of the work space stand for: "run length, end depth, lowest depth"
abbrev pub loaded_at : List ℕ → ℕ → Unmatched
loaded_at work at =
    record {
      length = get_or work at 0;
      closings = word (sub_ℕ 0 (get_or work (at + 2) 0));
      openings = word (sub_ℕ (get_or work (at + 1) 0) (get_or work (at + 2) 0));
    }

-- and the words that are stored
abbrev pub words_of : Unmatched → List ℕ
words_of u = u.length ∷ word (sub_ℕ u.openings u.closings) ∷ word (sub_ℕ 0 u.closings) ∷ []

abbrev pub stored_at : List ℕ → ℕ → Unmatched → List ℕ
stored_at work at u = take at work ++ (words_of u ++ drop (at + width) work)

-- an item is a key, or a call of a macro whose words stand in the work space
unfoldable pub item_unmatched : Delimiters → List ℕ → Item → Unmatched
item_unmatched keys work (Key k) = key_unmatched keys.opening keys.closing k
item_unmatched keys work (Call j) = loaded_at work (j * width)

unfoldable pub InWords : List ℕ → Item → Type 0
InWords work (Key k) = Unit {0}
InWords work (Call j) = j * width + width ≤ length work

-- the words of the macros below macro i stand in front
pub record MacroAt (keys : Delimiters) (b offsets : List ℕ) (i : ℕ) (work : List ℕ) : Type 0 where
  pub table : offsets ≡ offsets_in b
  pub inside : i < length (macros_in b)
  pub apart : eqb keys.opening keys.closing ≡ false
  pub behind : List ℕ
  pub below : work ≡ first_words (macro_words keys.opening keys.closing (macros_in b)) i ++ behind

-- macro m of a book, with room for the words of macros 0 to m
pub record BookFits (keys : Delimiters) (b offsets : List ℕ) (m : ℕ) (work : List ℕ) : Type 0 where
  pub table : offsets ≡ offsets_in b
  pub inside : m < length (macros_in b)
  pub apart : eqb keys.opening keys.closing ≡ false
  pub room : suc m * width ≤ length work

-- the answer for macro m, where the work words suffice
abbrev pub MacroDepths : Delimiters → List Macro → ℕ → List ℕ → List ℕ → Result Depths Refusal → Type 0
MacroDepths keys ms m before after r = outcome r after ≡ depths_of keys.opening keys.closing (expansion ms m) (filled keys.opening keys.closing ms m before)
