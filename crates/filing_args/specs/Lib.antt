pub mod Arguments
pub mod Words
