pub mod HashKeys
pub mod States
pub mod Effects
pub mod Runs
pub mod OpenSession
