-- ---- the versions along
pub mod Places
-- ---- the sessions that are shown
pub mod ShownSessions
