-- What the command tells of a line, keys shown so that a terminal is safe, and the lines that are printed.
pub mod Asked
pub mod Shown
pub mod Lines
pub mod Replies
