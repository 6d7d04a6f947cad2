pub mod Plain
pub mod Relay
