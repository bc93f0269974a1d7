-- Laws of what is told of a line and of what is shown, what the command is refused for, and worked examples.
pub mod AskedLaws
pub mod ShownLaws
pub mod TextLaws
pub mod Refusals
pub mod Examples
