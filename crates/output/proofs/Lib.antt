-- Laws of the lines that the programs print.
pub mod LineLaws
pub mod WholeLaws
pub mod Examples
