-- Worked examples: the definitions compute to what the standards and the project's own rules say of them.
pub mod Numerals
pub mod Intervals
pub mod Dimensions
pub mod Facts
pub mod Duplicates
pub mod Things
pub mod Tables
pub mod ReadFact
pub mod ReadReport
pub mod Writing
pub mod DeclaredValue
pub mod Setting
pub mod Histories
pub mod Ranges
pub mod Stamps
pub mod DeclaringSessions
pub mod Solo
