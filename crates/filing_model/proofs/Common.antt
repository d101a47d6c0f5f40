-- Tests, texts, and maps from texts.
pub mod Tests
pub mod Texts
pub mod TextMaps
pub mod MapsOfLists
pub mod FilteredEntries
pub mod KeyedMaps
pub mod KeyedRemovals
