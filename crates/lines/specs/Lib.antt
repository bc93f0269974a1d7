-- The lines of a run, how many match, the parts between line ends, moves of a set of states, and what the operations answer.
pub mod Parts
pub mod Lines
pub mod Moving
pub mod Answers
pub mod Promises
