-- Laws.
pub mod RowLaws
pub mod EdgeLaws
pub mod SpanLaws
pub mod Made
pub mod EdgesMade
pub mod JoinLaw
pub mod KeyLaw
pub mod EndLaws
pub mod PairLaws
pub mod PlainLaws
