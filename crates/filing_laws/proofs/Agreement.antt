-- Repositories that agree on what a session reads.
pub mod AgreeOnThings
pub mod PagesAlike
pub mod AnswerCases
pub mod AnsweredAlike
pub mod RunsAlike
