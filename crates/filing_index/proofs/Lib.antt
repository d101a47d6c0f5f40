-- ---- indexes: what stands under a hash, and how an index is built and changed
pub mod Keys
pub mod AskedHashes
pub mod DistinctKeys
pub mod FoundAfter
pub mod ChangedFacts
pub mod PushedFactChanges
pub mod IndexesOfLists
pub mod KeptOrders
-- ---- what an index shows, and the cells that are not allowed
pub mod KeptElements
pub mod WantedHashes
pub mod FoundEntries
pub mod ToldSums
pub mod ToldClasses
pub mod CrowdedCells
