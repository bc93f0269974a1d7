-- Laws of the definitions, which the proofs of functions cite.
pub mod AskedLaws
pub mod InputLaws
pub mod ReadLaws
pub mod Demands
pub mod PaperRuns
