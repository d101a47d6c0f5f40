-- The repository, and what a session asks of it, reads and changes.
pub mod Repository
pub mod Calls
pub mod Queries
pub mod Things
pub mod Replies
pub mod Changes
pub mod Sessions
