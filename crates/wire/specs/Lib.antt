pub mod Walk
pub mod Ahead
