-- Histories, what each entry touches, and which histories are lawful.
pub mod History
pub mod Touches
pub mod Stamps
pub mod Lawful
pub mod Versions
