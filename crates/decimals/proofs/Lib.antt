-- Laws of the definitions, which the proofs of functions and other crates cite.
pub mod NumberLaws
pub mod NumeralLaws
pub mod TextLaws
pub mod DraftLaws
pub mod WholeLaws
pub mod WideLaws
