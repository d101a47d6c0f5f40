-- ---- open sessions
pub mod SessionsAfter
pub mod FoundSessions
pub mod Replying
pub mod ChangedReports
-- ---- loads and commits
pub mod RefusedReports
pub mod CommitsByVersion
-- ---- what is kept
pub mod KeptAfter
pub mod Preparing
pub mod EngineSteps
pub mod CoreSteps
-- ---- entries of others
pub mod Following
pub mod TakenOver
