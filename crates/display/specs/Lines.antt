-- The line that the command prints for an answer.
use Rattle.std.specs.Prelude.{ℕ, List, ◌++◌}
use Rattle.decimals.specs.Decimals.{numeral}
use Rattle.decimals.specs.Texts.{ascii}
use Rattle.output.specs.Lines.{ending, refused_text}
use Rattle.display.specs.Asked.{Told, shown, long, refused}
use Rattle.display.specs.Shown.{shown_keys}

-- the number and the text of the line, as `grep -n` has them
abbrev pub shown_text : ℕ → List ℕ → List ℕ
shown_text n keys = numeral n ++ ascii ":" ++ shown_keys keys ++ ending

-- of a line that is longer than the buffer, its number and its length
abbrev pub long_text : ℕ → ℕ → List ℕ
long_text n l = numeral n ++ ascii " length " ++ numeral l ++ ending

unfoldable pub line_text : Told → List ℕ
line_text (shown n i keys) = shown_text n keys
line_text (long n l) = long_text n l
line_text (refused r) = refused_text r
