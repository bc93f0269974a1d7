-- The macro book of documents 01 and 02: its format, its reading, where its macros stand, their items, the written-out run of a macro, what a
-- macro reaches, what the operations answer, the steps that come before any work, and what private functions promise each other.
pub mod Format
pub mod Reading
pub mod Offset
pub mod MacroItems
pub mod Expansion
pub mod Reach
pub mod Answer
pub mod Steps
pub mod Promises
