-- ---- runs
pub mod CarriedRuns
pub mod RunsWithin
-- ---- lines of scripts
pub mod ToldSteps
pub mod MachineAnswers
-- ---- whole scripts
pub mod Scripts
pub mod ObservedRuns
pub mod SerialScripts
-- ---- histories
pub mod PlainEntries
pub mod TakenCalls
pub mod FollowedLines
pub mod JudgedLines
pub mod HistoryRuns
pub mod WrittenEntries
-- ---- journals
pub mod Entering
pub mod Recordings
pub mod Guarding
pub mod JournaledRuns
pub mod JournaledScripts
pub mod Reopenings
pub mod JournalsReadBack
