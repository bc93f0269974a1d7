-- Laws of capped numbers, of extents, and of their words.
pub mod CappedLaws
pub mod WordLaws
pub mod ExtentLaws
