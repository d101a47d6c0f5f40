-- Lists, things, and repositories in which one fact was put or removed.
pub mod EachElement
pub mod EqualThings
pub mod FilteredFacts
pub mod WithOneFact
pub mod WithOneValue
