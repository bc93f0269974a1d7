-- Worked examples of the lines that the command prints, computed: document 01's example, and what document 02, S-3, says of k, of line ends and
-- of the keys that are shown.
use Prim.Native.Nat.{ℕ}
use mathlib.Core.Path.{◌≡◌, refl}
use mathlib.Core.Bool.{xor}
use mathlib.Core.List.{List, [], ◌∷◌}
use Rattle.stateset.specs.Set.{any_below}
use Rattle.book.specs.Reading.{times_in, read_item, read_items, read_macro, read_macros, read_header, version_in, read_all, read_in, read_book}
use Rattle.book.specs.Format.{width}
use Rattle.book.specs.Expansion.{expand, unrolled, expand_to, expansion}
use Rattle.book.specs.Steps.{space_step}
use Rattle.brackets.specs.Form.{class_names}
use Rattle.brackets.specs.Sets.{class_ranges, in_ranges, in_element, in_elements, named, set_of}
use Rattle.brackets.specs.Brackets.{same_bytes, find_class, read_element, read_elements, read_bracket, read_atom}
use Rattle.letters.specs.declared.Case.TheVariants.{Sensitive}
use Rattle.letters.specs.Letters.{folded, other_case}
use Rattle.pattern.specs.Form.{atoms, atom_count}
use Rattle.pattern.specs.Meaning.{repeated, takes, matches_from, some_matches, matches}
use Rattle.pattern.specs.Reader.{read_repeat, read_expr, read_branch, read_branches, read_pattern}
use Rattle.lines.specs.Parts.{first_part, later_parts, last_part}
use Rattle.lines.specs.Lines.{trimmed, lines}
use Rattle.decimals.specs.Decimals.{numeral_to, numeral}
use Rattle.decimals.specs.Texts.{ascii}
use Rattle.find.specs.Lines.{kth_in, kth_line}
use Rattle.command.proofs.PaperRuns.{book_of, chase}
use Rattle.display.specs.Asked.{told_of, line_result, line_answer}
use Rattle.display.specs.Shown.{hex_digit, shown_key, shown_keys}
use Rattle.display.specs.Lines.{line_text}

-- A row: a book, a pattern, a macro's number and k, and what is printed.
pub record Row : Type 0 where
  pub book : List ℕ
  pub pattern : List ℕ
  pub m : ℕ
  pub k : ℕ
  pub text : List ℕ

abbrev row : List ℕ → List ℕ → ℕ → ℕ → List ℕ → Row
row b p m k t = record { book = b; pattern = p; m = m; k = k; text = t }

-- document 01's example: its macro 1 is `B` LF `C` `B` LF
abbrev example : List ℕ
example = book_of 1 2 (2 ∷ 0 ∷ 66 ∷ 0 ∷ 10 ∷ 0 ∷ 3 ∷ 0 ∷ 0 ∷ 1 ∷ 67 ∷ 0 ∷ 0 ∷ 1 ∷ [])

-- macro 0 is LF `a` CR, macro 1 is LF `a` CR, and macro 2 calls both
abbrev ends : List ℕ
ends = book_of 1 3 (3 ∷ 0 ∷ 10 ∷ 0 ∷ 97 ∷ 0 ∷ 13 ∷ 0 ∷ 3 ∷ 0 ∷ 10 ∷ 0 ∷ 97 ∷ 0 ∷ 13 ∷ 0 ∷ 2 ∷ 0 ∷ 0 ∷ 1 ∷ 1 ∷ 1 ∷ [])

pub table : List Row
table =
    row example (66 ∷ []) 1 1 (ascii "1:B\n")
    ∷ row example (66 ∷ []) 1 2 (ascii "2:CB\n")
    ∷ row example (67 ∷ []) 1 1 (ascii "2:CB\n")
    -- "15 fewer than k matching lines, or k is 0"
    ∷ row example (66 ∷ []) 1 3 (ascii "refused 15\n")
    ∷ row example (66 ∷ []) 1 0 (ascii "refused 15\n")
    ∷ row example (66 ∷ []) 2 0 (ascii "refused 10\n")
    -- S-8's chase: the last of 400 passes, and one more
    ∷ row (chase 144 1) (97 ∷ []) 1 400 (ascii "400:a\n")
    ∷ row (chase 144 1) (97 ∷ []) 1 401 (ascii "refused 15\n")
    -- S-4's lines under `^`: LF is an empty line; a CR that closes a macro before the LF that opens the next is no key, and the last one is
    ∷ row ends (94 ∷ []) 2 1 (ascii "1:\n")
    ∷ row ends (94 ∷ []) 2 2 (ascii "2:a\n")
    ∷ row ends (94 ∷ []) 2 3 (ascii "3:a\\x0d\n")
    ∷ row ends (94 ∷ []) 2 4 (ascii "refused 15\n")
    ∷ []

abbrev printed : List Row → List (List ℕ)
printed [] = []
printed (r ∷ rs) = line_text (line_answer Sensitive r.book r.pattern r.m r.k) ∷ printed rs

abbrev texts : List Row → List (List ℕ)
texts [] = []
texts (r ∷ rs) = r.text ∷ texts rs

-- every row is printed so
pub paper-lines : printed table ≡ texts table
unfolding table class_names atoms atom_count same_bytes find_class read_element read_elements read_bracket read_atom read_repeat read_expr read_branch read_branches read_pattern class_ranges in_ranges in_element in_elements named set_of folded other_case repeated takes matches_from some_matches matches trimmed lines read_item read_items read_macro read_macros read_header version_in read_all read_in read_book times_in width expand unrolled expand_to expansion space_step first_part later_parts last_part any_below xor numeral numeral_to kth_in kth_line told_of line_result hex_digit shown_key shown_keys line_text
paper-lines = refl

-- backslash, TAB, CR, ESC, blank, tilde, 127, 128, 255
pub keys-shown : shown_keys (92 ∷ 9 ∷ 13 ∷ 27 ∷ 32 ∷ 126 ∷ 127 ∷ 128 ∷ 255 ∷ []) ≡ ascii "\\\\\\x09\\x0d\\x1b ~\\x7f\\x80\\xff"
unfolding hex_digit shown_key shown_keys
keys-shown = refl
