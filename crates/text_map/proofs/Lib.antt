pub mod NamedLists
pub mod MapsOfChanges
pub mod ComparedHeads
pub mod TakenEntries
pub mod ComparedKeys
