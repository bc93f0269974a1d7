-- Laws.
pub mod TotalLaws
pub mod Made
pub mod ReportLaws
pub mod RepetitionLaws
pub mod FlatLaws
pub mod WordLaws
pub mod StoredLaws
pub mod EffectLaws
pub mod JoiningLaw
pub mod Examples
