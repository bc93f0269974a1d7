-- How far a run goes, by meaning; numbers that stop at a limit; the operations of the code on any numbers; the four work words.
pub mod Capped
pub mod Extents
pub mod Operations
pub mod Words
