-- Numbers, dimension sets, facts, duplicates and reports, as the Open Information Model has them.
pub mod Dimensions
pub mod Numerals
pub mod Intervals
pub mod Facts
pub mod Duplicates
pub mod ByPairs
pub mod Prefixes
pub mod Tables
pub mod Reports
