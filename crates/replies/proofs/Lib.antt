-- Laws of what a program prints.
pub mod ReplyLaws
