-- What contracts of the core cite.
pub mod States
pub mod Standing
pub mod OpenSessions
pub mod Outcomes
pub mod Prepared
pub mod Kept
pub mod Engines
pub mod EngineAnswers
pub mod Answers
pub mod Verdicts
