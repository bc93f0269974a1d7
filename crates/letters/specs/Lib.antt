-- The other case of a letter, a set with case ignored, and lines that differ only in the case of letters.
pub mod Letters
