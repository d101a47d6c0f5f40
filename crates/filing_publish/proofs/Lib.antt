pub mod Beginnings
pub mod Chains
pub mod Longer
pub mod Adding
pub mod Showing
