-- One next reply, histories that are played, and histories that are read in order.
pub mod LawfulNextReply
pub mod UntouchedIsSerial
pub mod PlayedHistories
pub mod SameReplies
pub mod ReadingOrders
