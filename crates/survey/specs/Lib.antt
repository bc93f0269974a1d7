-- What the command says about a book.
pub mod Facts
pub mod Reached
pub mod Depths
