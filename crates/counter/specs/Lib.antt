-- The count over a book: what is refused before any work, steps, work words, what it answers, and what private functions promise
-- each other.
pub mod Front
pub mod Counting
pub mod Answers
pub mod Promises
