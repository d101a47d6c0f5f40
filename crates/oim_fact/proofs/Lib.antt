-- ---- sorted texts and searches
pub mod SortedTexts
pub mod SearchedEntries
-- ---- dimension sets, numeric tables and names
pub mod ComparedDims
pub mod SortedDims
pub mod NumericRows
pub mod NamedRows
-- ---- duplicates
pub mod CommonNumbers
pub mod ValuePairs
pub mod Tallying
pub mod JoinedTallies
