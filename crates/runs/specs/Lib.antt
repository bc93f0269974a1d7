-- What the crates share: keys, runs and lines; counts and sums below a bound; runs repeated; words of n macros one after another.
pub mod Keys
pub mod Counts
pub mod Kept
