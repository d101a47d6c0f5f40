-- JSON texts, and what is read and written item by item.
pub mod JsonTexts
pub mod Tries
pub mod ReadValues
pub mod WrittenValues
pub mod DeclaredValues
