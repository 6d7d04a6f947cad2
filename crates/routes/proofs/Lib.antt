pub mod Clearing
pub mod Places
pub mod Reader
