pub mod NextVersions
pub mod StampedReports
pub mod TakenReports
pub mod LaidInTurn
