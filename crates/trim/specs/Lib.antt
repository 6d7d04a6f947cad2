-- What the public contracts rest on
pub mod Plain
-- Internals
pub mod Ending
