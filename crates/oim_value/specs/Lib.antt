-- ---- cited by the contracts of public calls
pub mod Reading
pub mod Accuracies
-- also the limits by which no sum leaves 128 bits
pub mod Numbers
-- ---- cited within the crate alone
pub mod Padding
