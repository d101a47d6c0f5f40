pub mod Puts
pub mod Found
pub mod StampedReports
