pub mod Stamps
pub mod StampSpans
pub mod Layers
pub mod LastStamps
-- ---- laws that orders carry
pub mod Lexicographic
pub mod StampOrders
pub mod StampKeys
