pub mod Faults
pub mod Inspected
pub mod Journals
pub mod Loads
pub mod Mistakes
pub mod Runs
