pub mod Plain
pub mod Grouped
