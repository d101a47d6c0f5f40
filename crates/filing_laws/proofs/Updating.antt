-- Net changes, and the new facts that decide a refusal.
pub mod AllowedCells
pub mod LaidOver
pub mod NetChanges
pub mod FirstFound
pub mod NewFacts
pub mod UpdatesInTurn
