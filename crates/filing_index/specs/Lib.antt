pub mod Index
pub mod KeyOrder
-- ---- indexes
pub mod IndexKinds
pub mod ChangedIndexes
-- ---- what is looked for, and what an index shows of it
pub mod Found
pub mod HashRanges
pub mod Wanted
pub mod Cells
pub mod CellSums
