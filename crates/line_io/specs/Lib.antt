-- ---- what contracts of public functions cite
pub mod Text
pub mod Devices
pub mod Lines
pub mod Run
pub mod Conduct
pub mod KeptRun
-- ---- what a run has in hand between two reads
pub mod Pieces
