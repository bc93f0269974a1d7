-- Sets of small numbers as the digits of one number; tables that a rule gives.
pub mod Set
pub mod Tabled
