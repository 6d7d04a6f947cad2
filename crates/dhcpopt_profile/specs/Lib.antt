pub mod Plain
pub mod Judging
