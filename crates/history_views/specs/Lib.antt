-- Which version of a history is meant.
pub mod Versions
-- What is carried from line to line of a history that is viewed.
-- What is shown of a version.
pub mod Shown
pub mod Listing
-- What the marks of a journal tell of a history.
pub mod Batches
-- What is told of the sessions of a history.
pub mod Log
-- What is kept of them on the way.
pub mod LogKept
-- What is told of one fact.
pub mod FactLog
-- The names of reports that are kept on the way through a history.
pub mod Names
-- The places where two versions may differ, kept on the way through a history.
pub mod Placed
-- What differs between two versions of a history.
pub mod Differing
