-- Laws of lines, of the parts of a run and of the moves of a set of states, one law for each way through the functions; demand 2, and what the
-- tables are.
pub mod Trims
pub mod PartLaws
pub mod LineLaws
pub mod Reaching
pub mod Testing
pub mod Tallying
pub mod Answering
pub mod Demands
pub mod CaseLaws
pub mod Tables
