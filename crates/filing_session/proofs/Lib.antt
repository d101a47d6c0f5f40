-- ---- one call
pub mod CallEffects
pub mod PagesSoFar
pub mod PutsStaged
pub mod ThingsEntered
pub mod PendingChanges
-- ---- whole runs
pub mod RunStates
pub mod StagedChanges
pub mod PrunedChanges
-- ---- examples that compute
pub mod Examples
