-- What is told of a session.
pub mod Told
-- The versions that a picture shows.
pub mod Columns
-- The picture.
pub mod Picture
