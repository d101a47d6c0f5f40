-- ---- lines, and their parts
pub mod Verbs
pub mod ScriptLines
pub mod LineView
-- ---- replies
pub mod ReplyText
-- ---- the output of a script
pub mod Script
-- ---- a load as its line was read
pub mod Loads
-- ---- the step that a line asks for
pub mod AskedStep
-- ---- what a line comes to before its step is taken
pub mod LineOutcomes
-- ---- the parts of a line as it was read
pub mod ReadParts
