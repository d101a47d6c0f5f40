-- What contracts of the office cite.
pub mod Answers
pub mod Tallies
pub mod Runs
pub mod Rans
pub mod Ends
pub mod Sizes
