-- What the types of steps, calls and replies are seen as.
pub mod PeriodFilter
pub mod Steps
pub mod Ordered
