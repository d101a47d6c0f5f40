-- ---- every fault of a report, and what was read apart from them
pub mod EachFault
-- ---- the cells of more than one fact
pub mod Cells
pub mod Runs
pub mod Crowds
-- ---- the whole
pub mod Inspections
pub mod Heads
pub mod Found
-- ---- what is warned of
pub mod MemberNames
pub mod KeptFacts
pub mod Warnings
-- ---- the laws
pub mod FaultLaws
-- ---- its lines
pub mod Lines
