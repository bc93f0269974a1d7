-- What is written over the front of a list; what is kept for each macro of a book, in words one after another; and a run repeated.
use Rattle.std.specs.Prelude.{ℕ, zero, suc, ◌*◌, List, [], ◌++◌, length, drop}

-- some numbers over the front of a list, and what stood behind them
abbrev pub over : List ℕ → List ℕ → List ℕ
over front list = front ++ drop (length front) list

-- the words of the first n macros, where W gives those of one
unfoldable pub first_words : (ℕ → List ℕ) → ℕ → List ℕ
first_words W zero = []
first_words W (suc n) = first_words W n ++ W n

-- the words of the first n macros, each of k words, stored over the front of some words
abbrev pub words_over : (ℕ → List ℕ) → ℕ → ℕ → List ℕ → List ℕ
words_over W k n before = first_words W n ++ drop (n * k) before

-- a run n times
unfoldable pub times : ℕ → List ℕ → List ℕ
times zero w = []
times (suc n) w = w ++ times n w
