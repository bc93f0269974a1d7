-- Laws, which the other crates cite.
pub mod Tests
pub mod KeyLaws
pub mod CountLaws
pub mod KeptLaws
pub mod CopyLaws
