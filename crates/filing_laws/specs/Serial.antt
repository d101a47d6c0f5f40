-- What each session is told, as if it ran alone.
pub mod WholeRuns
pub mod Untouched
