-- The file: its records, one after another
pub mod Files
-- The tally: one message more, its sums, what it says
pub mod Sums
pub mod Tallies
-- The running tally
pub mod Runs
-- The report
pub mod Reports
-- Cases, computed
pub mod CaptureCases
