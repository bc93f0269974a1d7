-- Atoms and brackets: their form and bytes, their sets of keys, their reader, what the atom reader answers, and what private functions promise.
pub mod Form
pub mod Sets
pub mod Brackets
pub mod Answers
pub mod Promises
