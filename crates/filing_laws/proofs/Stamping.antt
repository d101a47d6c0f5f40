-- Versions, their numbers, and stamps.
pub mod VersionChain
pub mod RisingNumbers
pub mod CountedVersions
pub mod NewestNumbers
pub mod Stamps
pub mod TouchedRanges
pub mod MarkStamps
pub mod StampedVersions
