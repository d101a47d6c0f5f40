-- ---- cited by the contracts of public calls, and by models
pub mod Texts
pub mod Dims
pub mod Tables
pub mod Names
pub mod Facts
pub mod PeriodFilterRef
pub mod SharedFacts
pub mod Tallies
