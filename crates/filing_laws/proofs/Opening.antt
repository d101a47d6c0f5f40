-- Sessions: not opened yet, and their replies as at their opening.
pub mod NotYetOpened
pub mod OwnReplies
