-- What an entry changes, and what no entry touched.
pub mod EntryCases
pub mod QuietEntries
pub mod ReportsStay
pub mod ChangedPlaces
pub mod UntouchedThingsStand
