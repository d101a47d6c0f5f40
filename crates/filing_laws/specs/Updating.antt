-- What each commit makes of the repository, and what its duplicates allow.
pub mod Versions
pub mod Obeying
pub mod NetChange
pub mod Updates
