-- Texts, maps from texts, and what definitions share.
pub mod Text
pub mod TextMap
pub mod Keyed
pub mod Try
pub mod Faults
