-- The reach list: the macros that a run enters and the list of them, the places where it enters them, what is answered, and what
-- private functions promise each other.
pub mod Entries
pub mod Places
pub mod Answer
pub mod Promises
