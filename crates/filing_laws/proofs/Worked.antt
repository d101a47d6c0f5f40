-- The laws at worked histories and reports.
pub mod Instances
pub mod NumberInstances
pub mod MarkInstances
pub mod WholeRunInstances
pub mod NetChangeInstances
pub mod DeclaringInstances
pub mod ReadingOrderInstances
pub mod StampedVersionInstances
