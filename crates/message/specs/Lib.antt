-- What the public contracts rest on
pub mod Fields
pub mod Part
pub mod Active
pub mod Scan
pub mod Items
pub mod Judging
-- Internals
pub mod Walk
pub mod Walking
