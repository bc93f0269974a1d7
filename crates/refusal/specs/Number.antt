-- Document 01, "Refused", and document 02: the number of each refusal.
use Rattle.std.specs.Prelude.{ℕ}
use Rattle.refusal.specs.declared.Refusal.{Refusal}
use Rattle.refusal.specs.declared.Refusal.TheVariants.{BadMagic, UnsupportedVersion, BadMacroCount, MalformedBody, InvalidKey, ForwardReference, PatternLength, PatternSyntax, TooManyAtoms, NoSuchMacro, InsufficientSpace, CountOverflow, ReportMismatch, InputTooLong, NoSuchLine, LineNumberOverflow, BufferTooShort, InvalidDelimiters, RunTooLong, ZeroRepeatCount}

-- the column "No" of the table
abbrev pub number : Refusal → ℕ
number BadMagic = 1
number UnsupportedVersion = 2
number BadMacroCount = 3
number MalformedBody = 4
number InvalidKey = 5
number ForwardReference = 6
number PatternLength = 7
number PatternSyntax = 8
number TooManyAtoms = 9
number NoSuchMacro = 10
number InsufficientSpace = 11
number CountOverflow = 12
number ReportMismatch = 13
number InputTooLong = 14
-- document 02, S-3: "15 fewer than k matching lines, or k is 0; 16 the line number passes 2^64 − 1; 17 the buffer is shorter than the line"
number NoSuchLine = 15
number LineNumberOverflow = 16
number BufferTooShort = 17
-- S-6: "18 the two keys are equal, or one is 0 or 10; 19 the macro's run is longer than 2^62 keys"
number InvalidDelimiters = 18
number RunTooLong = 19
-- S-8: "20 a repeat count of 0"
number ZeroRepeatCount = 20
