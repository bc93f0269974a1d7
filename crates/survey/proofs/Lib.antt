-- Laws of the definitions, which the proofs of functions cite.
pub mod FactLaws
pub mod ReachLaws
pub mod DepthLaws
