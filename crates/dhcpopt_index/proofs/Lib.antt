pub mod Kept
pub mod Used
mod Through
mod Told
