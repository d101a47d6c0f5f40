-- ---- the words of refusals
pub mod RefusalWords
pub mod RefusalTexts
-- ---- of which facts is told
pub mod FoundMembers
pub mod KeptFacts
