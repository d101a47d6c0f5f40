-- ---- replies
mod ToldReplies
mod WrittenReplies
-- ---- scripts, batch by batch
mod ClassifiedLines
mod ClassifiedBatches
mod UnderWay
mod ScriptTasks
-- ---- offices that begin with a history
mod CountedDesks
mod Replayed
mod BegunHistories
-- ---- journals
mod KeptLines
