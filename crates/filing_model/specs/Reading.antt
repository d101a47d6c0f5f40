-- What is read from a text, and what is written as one.
pub mod JsonText
pub mod ReadFact
pub mod ReadReport
pub mod DeclaredValue
pub mod Fitted
pub mod Writing
