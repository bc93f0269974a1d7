-- The k-th matching line of a run, what is answered and what the work words and the buffer hold afterwards, and what private functions promise
-- each other.
pub mod Lines
pub mod Answer
pub mod Promises
