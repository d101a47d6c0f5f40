-- Worked examples: the definitions compute to what the formats say.
pub mod ReplyText
pub mod Scripts
