-- What a run over a script leaves, and one over a history.
pub mod ScriptRun
pub mod StepsTaken
pub mod Observed
pub mod HistoryRun
pub mod Following
pub mod Viewed
pub mod Resumed
pub mod Serial
-- What a journal has, and what a run over a script leaves in one.
pub mod Room
pub mod Entered
pub mod Recorded
pub mod Journaled
pub mod JournaledRun
pub mod Guarded
pub mod Reopened
