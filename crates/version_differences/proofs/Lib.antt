-- ---- what is made of keys
pub mod KeysAlike
-- ---- the lines of places
pub mod Covered
pub mod PushedLines
-- ---- a difference that is laid over a repository
pub mod ToldLines
pub mod LaidLines
