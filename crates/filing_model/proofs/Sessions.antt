-- Things and limits.
pub mod Things
pub mod Limits
