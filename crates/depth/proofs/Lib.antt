-- Laws of the depths.
pub mod Differences
pub mod DepthLaws
pub mod UnmatchedLaws
pub mod CodeLaws
pub mod BookLaws
pub mod AnswerLaws
pub mod Theorems
pub mod Examples
