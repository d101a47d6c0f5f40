-- Which entry may follow, and how a history is read in order.
pub mod NextReply
pub mod Played
pub mod SameReplies
pub mod ReadingOrder
