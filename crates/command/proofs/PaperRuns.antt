-- Document 01, "Runs on both sides": the runs marked *, with the program's own example, in one table, and what document 02 says of case, of
-- line ends and of repeat counts; and that each is as the papers say.
use Prim.Native.Nat.{ℕ}
use mathlib.Core.Path.{◌≡◌, refl}
use mathlib.Core.Bool.{Bool, true, ◌&&◌, xor}
use mathlib.Core.List.{List, [], ◌∷◌}
use lib.Dec.{eqb}
use lib.ListN.{replicate}
use Rattle.refusal.specs.Figures.{Figures, answered, refused_for}
use Rattle.stateset.specs.Set.{any_below}
use Rattle.book.specs.Reading.{times_in, read_item, read_items, read_macro, read_macros, read_header, version_in, read_all, read_in, read_book}
use Rattle.book.specs.Format.{width}
use Rattle.book.specs.Expansion.{expand, unrolled, expand_to, expansion}
use Rattle.brackets.specs.Form.{class_names}
use Rattle.brackets.specs.Sets.{class_ranges, in_ranges, in_element, in_elements, named, set_of}
use Rattle.letters.specs.declared.Case.{Case}
use Rattle.letters.specs.declared.Case.TheVariants.{Sensitive, Ignored}
use Rattle.letters.specs.Letters.{folded, other_case}
use Rattle.pattern.specs.Meaning.{repeated, takes, matches_from, some_matches, matches}
use Rattle.pattern.specs.States.{nothing, first, last, follow, some_branch}
use Rattle.pattern.specs.States as positions
use Rattle.pattern.specs.Moves.{enters, target, move, leads}
use Rattle.pattern.specs.Reader.{Read, accepted, refused, read_repeat, read_expr, read_branch, read_branches, read_pattern}
use Rattle.brackets.specs.Brackets.{same_bytes, find_class, read_element, read_elements, read_bracket, read_atom}
use Rattle.lines.specs.Lines.{trimmed, lines, count_in, matching}
use Rattle.book.specs.Steps.{space_step}
use Rattle.counter.specs.Counting.{Outcome, item_steps, steps, count_result, book_result}
use Rattle.spans.specs.Pairs.{pairs}
use Rattle.lines.specs.Answers.{line_of, run_of, line_result, run_result}
use Rattle.command.specs.Input.{pattern_end, last_result, program_result, program_answer}
use Rattle.runs.specs.Counts.{count_below, sum_below}
use Rattle.pattern.specs.Form.{atoms, atom_count}
use Rattle.lines.specs.Parts.{first_part, later_parts, last_part}

-- What is asked, with case ignored or not. A pattern, a line, a run and a book are their bytes.
pub data Question : Type 0 where
  -- is the pattern accepted
  reads : List ℕ → Question
  -- does the pattern match the line
  tests : Case → List ℕ → List ℕ → Question
  -- how many lines of the run match the pattern
  counts : Case → List ℕ → List ℕ → Question
  -- how many lines of macro m's run match the pattern
  counts_book : Case → List ℕ → List ℕ → ℕ → Question
  -- what the program answers to its input, and its steps
  program : List ℕ → Question
  program_steps : List ℕ → Question

-- the refusal and the count of an outcome
abbrev pub figures_of : Outcome → Figures ℕ
figures_of o = record { refusal = o.refusal; value = o.lines }

abbrev pub read_figures : Read → Figures ℕ
read_figures (accepted t) = answered 0
read_figures (refused r) = refused_for r

-- The work words of a count here: enough for every row.
abbrev work : List ℕ
work = replicate 40 0

-- What is answered, by the definitions that the contracts cite.
pub answer_to : Question → Figures ℕ
answer_to (reads p) = read_figures (read_pattern p)
answer_to (tests c p w) = line_result c (read_pattern p) w
answer_to (counts c p w) = run_result c (read_pattern p) w
answer_to (counts_book c p b m) = figures_of (book_result c b p m work)
answer_to (program w) = record { refusal = (program_answer w).refusal; value = (program_answer w).lines }
answer_to (program_steps w) = answered (program_answer w).steps

-- A row: the question, and the refusal and the value that the paper gives (1 for a line that matches).
pub record Row : Type 0 where
  pub asked : Question
  pub refusal : ℕ
  pub value : ℕ

abbrev row : Question → ℕ → ℕ → Row
row q r v = record { asked = q; refusal = r; value = v }

-- "For `B`, LF and the book (hex) 4D 42 4B 01 00 02 00 02 00 42 00 0A 00 03 00 00 01 43 00 00 01"
abbrev pub example : List ℕ
example = 66 ∷ 10 ∷ 0x4D ∷ 0x42 ∷ 0x4B ∷ 1 ∷ 0 ∷ 2 ∷ 0 ∷ 2 ∷ 0 ∷ 0x42 ∷ 0 ∷ 0x0A ∷ 0 ∷ 3 ∷ 0 ∷ 0 ∷ 1 ∷ 0x43 ∷ 0 ∷ 0 ∷ 1 ∷ []

-- a book of a version and so many macros, and the bytes of the macros
abbrev pub book_of : ℕ → ℕ → List ℕ → List ℕ
book_of version count macros = 0x4D ∷ 0x42 ∷ 0x4B ∷ version ∷ 0 ∷ count ∷ 0 ∷ macros

-- version 2: macro 0 is `a` LF, and macro 1 calls it so often as two bytes say
abbrev pub chase : ℕ → ℕ → List ℕ
chase low high = book_of 2 2 (2 ∷ 0 ∷ 97 ∷ 0 ∷ 1 ∷ 0 ∷ 10 ∷ 0 ∷ 1 ∷ 0 ∷ 1 ∷ 0 ∷ 0 ∷ 1 ∷ low ∷ high ∷ [])

pub table : List Row
table =
    -- `^$`: run LF gives 1; run `a` gives 0
    row (counts Sensitive (94 ∷ 36 ∷ []) (10 ∷ [])) 0 1
    ∷ row (counts Sensitive (94 ∷ 36 ∷ []) (97 ∷ [])) 0 0
    -- `a*`: run LF gives 1
    ∷ row (counts Sensitive (97 ∷ 42 ∷ []) (10 ∷ [])) 0 1
    -- `a|b$`: `ax` and `xb` match; `bx` does not
    ∷ row (tests Sensitive (97 ∷ 124 ∷ 98 ∷ 36 ∷ []) (97 ∷ 120 ∷ [])) 0 1
    ∷ row (tests Sensitive (97 ∷ 124 ∷ 98 ∷ 36 ∷ []) (120 ∷ 98 ∷ [])) 0 1
    ∷ row (tests Sensitive (97 ∷ 124 ∷ 98 ∷ 36 ∷ []) (98 ∷ 120 ∷ [])) 0 0
    -- `^a|b`: `xb` matches
    ∷ row (tests Sensitive (94 ∷ 97 ∷ 124 ∷ 98 ∷ []) (120 ∷ 98 ∷ [])) 0 1
    -- `ab`: macro 0 is `a`, macro 1 calls 0 then `b`: 1
    ∷ row (counts_book Sensitive (97 ∷ 98 ∷ []) (0x4D ∷ 0x42 ∷ 0x4B ∷ 1 ∷ 0 ∷ 2 ∷ 0 ∷ 1 ∷ 0 ∷ 97 ∷ 0 ∷ 2 ∷ 0 ∷ 0 ∷ 1 ∷ 98 ∷ 0 ∷ []) 1) 0 1
    -- `ab`: run `a` LF `b`: 0
    ∷ row (counts Sensitive (97 ∷ 98 ∷ []) (97 ∷ 10 ∷ 98 ∷ [])) 0 0
    -- document 02, S-4: "Document 01's case `a$` on `a` CR LF becomes 1"
    ∷ row (counts Sensitive (97 ∷ 36 ∷ []) (97 ∷ 13 ∷ 10 ∷ [])) 0 1
    -- `[]a]` matches `]`; `[--/]` matches `.`
    ∷ row (tests Sensitive (91 ∷ 93 ∷ 97 ∷ 93 ∷ []) (93 ∷ [])) 0 1
    ∷ row (tests Sensitive (91 ∷ 45 ∷ 45 ∷ 47 ∷ 93 ∷ []) (46 ∷ [])) 0 1
    -- `a**`, `()`, `a||b`, `[z-a]`: 8
    ∷ row (reads (97 ∷ 42 ∷ 42 ∷ [])) 8 0
    ∷ row (reads (40 ∷ 41 ∷ [])) 8 0
    ∷ row (reads (97 ∷ 124 ∷ 124 ∷ 98 ∷ [])) 8 0
    ∷ row (reads (91 ∷ 122 ∷ 45 ∷ 97 ∷ 93 ∷ [])) 8 0
    -- the program's example: `lines 2 steps 17`
    ∷ row (program example) 0 2
    ∷ row (program_steps example) 0 17
    -- document 02, S-1: "Two programmers type GO and go as they please, and patterns should catch both"
    ∷ row (counts Ignored (103 ∷ 111 ∷ []) (71 ∷ 79 ∷ 10 ∷ 103 ∷ 111 ∷ 10 ∷ 71 ∷ 111 ∷ [])) 0 3
    ∷ row (counts Sensitive (103 ∷ 111 ∷ []) (71 ∷ 79 ∷ 10 ∷ 103 ∷ 111 ∷ 10 ∷ 71 ∷ 111 ∷ [])) 0 1
    -- "before a leading `^` turns the set round": `[^a]` does not match `A`, nor `[^[:lower:]]`; `[^a]` matches `b`
    ∷ row (tests Ignored (91 ∷ 94 ∷ 97 ∷ 93 ∷ []) (65 ∷ [])) 0 0
    ∷ row (tests Ignored (91 ∷ 94 ∷ 91 ∷ 58 ∷ 108 ∷ 111 ∷ 119 ∷ 101 ∷ 114 ∷ 58 ∷ 93 ∷ 93 ∷ []) (65 ∷ [])) 0 0
    ∷ row (tests Ignored (91 ∷ 94 ∷ 97 ∷ 93 ∷ []) (98 ∷ [])) 0 1
    ∷ row (tests Sensitive (91 ∷ 94 ∷ 97 ∷ 93 ∷ []) (65 ∷ [])) 0 1
    -- "a letter 65–90 and the letter 32 above it", and no other byte: `[@-[]` matches `a`, and neither `{` nor the byte 96
    ∷ row (tests Ignored (91 ∷ 64 ∷ 45 ∷ 91 ∷ 93 ∷ []) (97 ∷ [])) 0 1
    ∷ row (tests Ignored (91 ∷ 64 ∷ 45 ∷ 91 ∷ 93 ∷ []) (123 ∷ [])) 0 0
    ∷ row (tests Ignored (91 ∷ 64 ∷ 45 ∷ 91 ∷ 93 ∷ []) (96 ∷ [])) 0 0
    -- document 02, S-4: "CR LF alone is an empty line": `^$` counts it
    ∷ row (counts Sensitive (94 ∷ 36 ∷ []) (13 ∷ 10 ∷ [])) 0 1
    -- "A CR that no LF follows is a key as before, at the end of the run too": `a$` on `a` CR, and `ab$` on `a` CR `b` LF: 0; of two CRs before LF one stays
    ∷ row (counts Sensitive (97 ∷ 36 ∷ []) (97 ∷ 13 ∷ [])) 0 0
    ∷ row (counts Sensitive (97 ∷ 98 ∷ 36 ∷ []) (97 ∷ 13 ∷ 98 ∷ 10 ∷ [])) 0 0
    ∷ row (counts Sensitive (97 ∷ 36 ∷ []) (97 ∷ 13 ∷ 13 ∷ 10 ∷ [])) 0 0
    -- "also where the CR closes one macro and the LF opens the next, or the CR is alone in its macro"
    ∷ row (counts_book Sensitive (97 ∷ 36 ∷ []) (0x4D ∷ 0x42 ∷ 0x4B ∷ 1 ∷ 0 ∷ 3 ∷ 0 ∷ 2 ∷ 0 ∷ 97 ∷ 0 ∷ 13 ∷ 0 ∷ 1 ∷ 0 ∷ 10 ∷ 0 ∷ 2 ∷ 0 ∷ 0 ∷ 1 ∷ 1 ∷ 1 ∷ []) 2) 0 1
    ∷ row (counts_book Sensitive (97 ∷ 36 ∷ []) (0x4D ∷ 0x42 ∷ 0x4B ∷ 1 ∷ 0 ∷ 4 ∷ 0 ∷ 1 ∷ 0 ∷ 13 ∷ 0 ∷ 2 ∷ 0 ∷ 97 ∷ 0 ∷ 0 ∷ 1 ∷ 1 ∷ 0 ∷ 10 ∷ 0 ∷ 2 ∷ 0 ∷ 1 ∷ 1 ∷ 2 ∷ 1 ∷ []) 3) 0 1
    -- `GO$` finds it
    ∷ row (counts Sensitive (71 ∷ 79 ∷ 36 ∷ []) (71 ∷ 79 ∷ 13 ∷ 10 ∷ [])) 0 1
    -- document 01's "Version 2 with an empty pattern: 2" "moves to version 3" (document 02, S-8); in version 2 it is 7
    ∷ row (counts_book Sensitive [] (book_of 3 1 (1 ∷ 0 ∷ 97 ∷ 0 ∷ 1 ∷ 0 ∷ [])) 0) 2 0
    ∷ row (counts_book Sensitive [] (book_of 2 1 (1 ∷ 0 ∷ 97 ∷ 0 ∷ 1 ∷ 0 ∷ [])) 0) 7 0
    -- S-8: "Chases are one macro called 400 times": `a` on `a` LF 400 times
    ∷ row (counts_book Sensitive (97 ∷ []) (chase 144 1) 1) 0 400
    -- "The run has the item that many times": `ba` matches across the seam of two passes of `a` `b`, and not where there is one
    ∷ row (counts_book Sensitive (98 ∷ 97 ∷ []) (book_of 2 2 (2 ∷ 0 ∷ 97 ∷ 0 ∷ 1 ∷ 0 ∷ 98 ∷ 0 ∷ 1 ∷ 0 ∷ 1 ∷ 0 ∷ 0 ∷ 1 ∷ 2 ∷ 0 ∷ [])) 1) 0 1
    ∷ row (counts_book Sensitive (98 ∷ 97 ∷ []) (book_of 2 2 (2 ∷ 0 ∷ 97 ∷ 0 ∷ 1 ∷ 0 ∷ 98 ∷ 0 ∷ 1 ∷ 0 ∷ 1 ∷ 0 ∷ 0 ∷ 1 ∷ 1 ∷ 0 ∷ [])) 1) 0 0
    -- a pass that begins with LF and ends in CR, three times: `^$` counts three lines, as the last CR is a key
    ∷ row (counts_book Sensitive (94 ∷ 36 ∷ []) (book_of 2 2 (2 ∷ 0 ∷ 10 ∷ 0 ∷ 1 ∷ 0 ∷ 13 ∷ 0 ∷ 1 ∷ 0 ∷ 1 ∷ 0 ∷ 0 ∷ 1 ∷ 3 ∷ 0 ∷ [])) 1) 0 3
    -- "for version 2 the answer's steps are 0"
    ∷ row (program_steps (97 ∷ 10 ∷ chase 2 0)) 0 0
    ∷ row (program (97 ∷ 10 ∷ chase 2 0)) 0 2
    -- "20 a repeat count of 0, tested after 5 and 6 for the same item"
    ∷ row (counts_book Sensitive (97 ∷ []) (chase 0 0) 1) 20 0
    ∷ row (counts_book Sensitive (97 ∷ []) (book_of 2 1 (1 ∷ 0 ∷ 0 ∷ 0 ∷ 0 ∷ 0 ∷ [])) 0) 5 0
    ∷ row (counts_book Sensitive (97 ∷ []) (book_of 2 1 (1 ∷ 0 ∷ 0 ∷ 1 ∷ 0 ∷ 0 ∷ [])) 0) 6 0
    -- "an item with fewer than its four bytes left is 4, before all three"
    ∷ row (counts_book Sensitive (97 ∷ []) (book_of 2 1 (1 ∷ 0 ∷ 0 ∷ 0 ∷ 0 ∷ [])) 0) 4 0
    ∷ []

-- The test of a row, and of them all.
abbrev holds : Row → Bool
holds r = eqb (answer_to r.asked).refusal r.refusal && eqb (answer_to r.asked).value r.value

pub all_hold : List Row → Bool
all_hold [] = true
all_hold (r ∷ rs) = holds r && all_hold rs

-- every row is as the papers say
pub paper-runs : all_hold table ≡ true
unfolding table all_hold answer_to class_names atoms atom_count same_bytes find_class read_element read_elements read_bracket read_atom read_repeat read_expr read_branch read_branches read_pattern class_ranges in_ranges in_element in_elements named set_of folded other_case repeated takes matches_from some_matches matches trimmed lines count_in matching read_item read_items read_macro read_macros read_header version_in read_all read_in read_book times_in width expand unrolled expand_to expansion line_of run_of line_result run_result space_step count_result first_part later_parts last_part sum_below pairs item_steps steps any_below count_below nothing first last follow some_branch positions.holds enters target move leads pattern_end last_result program_result program_answer xor
paper-runs = refl

-- the program's example, whole
pub example-told : program_answer example ≡ record { refusal = 0; lines = 2; steps = 17 }
unfolding class_names atoms atom_count same_bytes find_class read_element read_elements read_bracket read_atom read_repeat read_expr read_branch read_branches read_pattern class_ranges in_ranges in_element in_elements named set_of folded other_case repeated takes matches_from some_matches matches trimmed lines count_in matching read_item read_items read_macro read_macros read_header version_in read_all read_in read_book times_in width expand unrolled expand_to expansion line_of run_of line_result run_result space_step count_result first_part later_parts last_part sum_below pairs item_steps steps any_below count_below nothing first last follow some_branch positions.holds enters target move leads pattern_end last_result program_result program_answer xor
example-told = refl
