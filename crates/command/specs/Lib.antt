-- What the programs answer to their input.
pub mod Buffers
pub mod Input
pub mod Asked
pub mod Reads
