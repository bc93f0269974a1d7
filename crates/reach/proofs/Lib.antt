-- Laws of first occurrences, of the places and the order in which a run enters macros, of the reach list, of the walk that lists it and of
-- what is answered.
pub mod Firsts
pub mod Places
pub mod Arrivals
pub mod Entries
pub mod Order
pub mod Walks
pub mod AnswerLaws
pub mod Examples
