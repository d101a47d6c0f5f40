-- ---- numerals
pub mod Running
pub mod Sizes
pub mod Readings
-- ---- intervals
pub mod Widths
pub mod CommonParts
