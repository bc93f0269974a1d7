-- Document 02, S-3, for the command: keys shown so that a terminal is safe (`docs/DECISIONS.md`, 120).
use Rattle.std.specs.Prelude.{ℕ, ◌+◌, ◌/◌, ◌%◌, cond, ◌||◌, List, [], ◌∷◌, ◌++◌, eqb, ltb}

-- 0 to 9, a to f
unfoldable pub hex_digit : ℕ → ℕ
hex_digit d = cond (ltb d 10) (48 + d) (87 + d)

-- a backslash, `x` and the key's two hexadecimal digits
abbrev pub code_text : ℕ → List ℕ
code_text k = 92 ∷ 120 ∷ hex_digit (k / 16) ∷ hex_digit (k % 16) ∷ []

-- a backslash is two of them; the other keys from 32 to 126 are as they are
unfoldable pub shown_key : ℕ → List ℕ
shown_key k = cond (eqb k 92) (92 ∷ 92 ∷ []) (cond (ltb k 32 || ltb 126 k) (code_text k) (k ∷ []))

unfoldable pub shown_keys : List ℕ → List ℕ
shown_keys [] = []
shown_keys (k ∷ w) = shown_key k ++ shown_keys w
