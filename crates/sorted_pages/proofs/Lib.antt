pub mod Edges
pub mod Keys
pub mod Peaks
pub mod Flats
pub mod Sums
pub mod Orders
pub mod Parts
pub mod Steps
pub mod Shorts
mod Sizes
pub mod Stretches
pub mod Ranging
pub mod Adjacent
pub mod Tiers
pub mod InPlace
