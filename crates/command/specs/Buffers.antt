-- What was read of an input that may be longer than what is read.
use Rattle.std.specs.Prelude.{ℕ, ◌≡◌, List, take}

-- An input of which this was read, where no more bytes are read than the limit: it begins as that does, so far, and where that has fewer
-- bytes, it is just that (`read-less`).
abbrev pub ReadFrom : ℕ → List ℕ → List ℕ → Type 0
ReadFrom limit part input = take limit part ≡ take limit input
