mod ScriptRuns
mod NotedMistakes
mod HistoryRuns
mod ThreadRuns
mod LoadedReports
mod RefusedJournals
