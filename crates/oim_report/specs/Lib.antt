-- ---- cited by the contracts of public calls, and by models
pub mod Parts
pub mod Borrowed
pub mod Readable
pub mod Faults
pub mod Appended
pub mod Entries
-- ---- the laws of reading back, and their premises
pub mod ReadBack
pub mod Nesting
pub mod ReadableFact
pub mod JsonValues
-- ---- the laws of an info in which a value was set
pub mod SetValues
-- ---- cited within the crate alone, but for `same`
pub mod Readings
pub mod Lines
pub mod Pieces
