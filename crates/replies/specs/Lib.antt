-- What a program prints for what was read.
pub mod Replies
