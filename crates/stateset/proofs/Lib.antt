-- Laws of sets as numbers, over any width.
pub mod Sets
pub mod Some
pub mod Lowest
pub mod Images
pub mod Counts
pub mod Common
pub mod Tabled
pub mod Gathering
