-- ---- facts as indexes hold them, and the hashes by which look-ups find them
pub mod Hashes
pub mod ConceptPeriods
-- ---- changes of facts
pub mod FactChanges
pub mod Records
