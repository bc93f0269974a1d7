-- The depth of blocks along a run: the depths, what is answered and what the work words hold, and what private functions promise each
-- other.
pub mod Depths
pub mod Answer
pub mod Promises
