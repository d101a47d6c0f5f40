-- Numbers, dimension sets, facts, duplicates and cells.
pub mod Trimming
pub mod Numerals
pub mod Bounds
pub mod Intervals
pub mod DimensionSets
pub mod NumericTables
pub mod FitAgain
pub mod EveryPair
pub mod ByPairs
pub mod AllowedClasses
pub mod DisallowedCells
pub mod LeastDims
pub mod MixedFacts
