-- The span of a run and its closed lines, joining, what a span's ends count, and the pairs of states that it shows.
pub mod Spans
pub mod Joining
pub mod Pairs
