-- The numbers of document 01's table of refusals, and the figures of an answer.
pub mod Number
pub mod Figures
