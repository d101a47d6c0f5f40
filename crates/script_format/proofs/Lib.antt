-- ---- the lines of a script
pub mod ToldFaults
pub mod AskedSteps
pub mod AskedParts
pub mod LinesByWord
pub mod NoArrays
pub mod ReportOfLoad
pub mod AskedOfLine
pub mod ReadValues
pub mod ReadParts
pub mod ReadLoads
pub mod LineOutcomes
-- ---- examples that compute
pub mod Examples
