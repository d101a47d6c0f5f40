pub mod Common
pub mod Oim
pub mod Reading
pub mod Sessions
pub mod Histories
pub mod OnLiterals
pub mod Examples
