-- Numbers in decimal digits, read and written, and texts in a buffer.
pub mod Decimals
pub mod Texts
pub mod Drafts
