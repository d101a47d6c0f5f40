pub mod MapChanges
pub mod Spans
pub mod Heads
pub mod NameKeys
