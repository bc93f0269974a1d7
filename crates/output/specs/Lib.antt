-- What the programs print.
pub mod Lines
