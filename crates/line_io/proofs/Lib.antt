-- ---- the first line feed of a text
mod FirstByte
-- ---- devices, and the lines and replies that pass through them
pub mod DeviceSteps
pub mod CutLines
pub mod LinesInTurn
pub mod SentReplies
pub mod KeptAnswers
pub mod TakenLines
pub mod WrittenOut
pub mod RunByReads
pub mod ReadsOfBytes
pub mod PlainRuns
-- ---- machines whose replies are a function
pub mod AnsweringMachines
-- ---- lines of small texts
pub mod Examples
