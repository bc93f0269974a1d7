-- The patterns of document 01: form, meaning, reader, states, moves and tables; and what private functions promise each other.
pub mod Form
pub mod Meaning
pub mod Reader
pub mod States
pub mod Moves
pub mod Tables
pub mod Cycle
pub mod Branches
pub mod Summaries
pub mod Automata
