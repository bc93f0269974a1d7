-- Laws of the count over a book, and demand 3 (`Demands`).
pub mod FrontLaws
pub mod ItemLaws
pub mod FillLaws
pub mod BookLaws
pub mod Demands
