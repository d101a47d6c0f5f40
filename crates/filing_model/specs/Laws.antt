-- What the laws of this crate say.
pub mod ReadingLaws
pub mod ThingLaws
