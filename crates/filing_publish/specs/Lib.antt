-- What contracts of editions cite.
pub mod Lists
pub mod Rules
