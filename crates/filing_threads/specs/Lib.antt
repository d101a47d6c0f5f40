-- ---- lines before their steps are taken
pub mod Lines
pub mod Batches
-- ---- replies once the steps are taken
pub mod Telling
pub mod ScriptRuns
pub mod UnderWay
-- ---- what is written
pub mod Writing
-- ---- offices that begin with a history
pub mod FoundHistories
pub mod Replaying
pub mod Tasks
-- ---- journals
pub mod KeptEntries
pub mod DeepLines
pub mod KeptThreads
