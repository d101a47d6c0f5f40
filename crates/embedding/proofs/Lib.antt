pub mod Departures
pub mod LoneRuns
