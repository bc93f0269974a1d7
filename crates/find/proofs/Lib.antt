-- Laws of lines, of passes before a line, of the walk down, of writing, of readings, of what is answered; and the theorems of S-3 (`Theorems`,
-- `Refusals`, `Locating`).
pub mod FillLaws
pub mod PassLaws
pub mod LineLaws
pub mod DescentLaws
pub mod LocateLaws
pub mod WriteLaws
pub mod KeysLaws
pub mod Readings
pub mod SoundLaws
pub mod FindLaws
pub mod AnswerLaws
pub mod Theorems
pub mod Refusals
pub mod Locating
