-- Laws of the book's definitions. Other crates cite LayoutLaws, StepLaws, MacroItems, Requiring, Expansion, WellFormed, Reach,
-- Coding, Sizes, Prefix and Refusals.
pub mod Readings
pub mod ItemLaws
pub mod Walks
pub mod Header
pub mod Offsets
pub mod Expansion
pub mod WellFormed
pub mod Coding
pub mod Laid
pub mod LayoutLaws
pub mod StepLaws
pub mod Bodies
pub mod MacroItems
pub mod Requiring
pub mod Reach
pub mod Sizes
pub mod Prefix
pub mod Refusals
