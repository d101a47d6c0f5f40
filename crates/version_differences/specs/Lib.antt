-- What differs between two repositories, as lines
pub mod Differences
pub mod LineText
-- Those lines laid over a repository
pub mod Laid
-- Where two repositories may differ
pub mod Places
