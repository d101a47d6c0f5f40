-- The one next reply.
pub mod NextReply
