pub mod Built
-- Internals
pub mod Found
