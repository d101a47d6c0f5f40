-- The numbers of versions, and which one touched what.
pub mod Numbers
pub mod Marks
pub mod StampedVersions
