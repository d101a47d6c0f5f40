-- ---- which lines were refused
pub mod Refusals
-- ---- what is told of them
pub mod ReasonText
pub mod ToldFacts
pub mod Explained
-- ---- the law
pub mod RefusalLaws
