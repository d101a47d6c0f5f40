pub mod Serial
pub mod Histories
pub mod Stamping
pub mod Updating
