-- Internals
pub mod Filling
