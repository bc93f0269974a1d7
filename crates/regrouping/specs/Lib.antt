-- The regrouping of a book.
pub mod Regrouping
