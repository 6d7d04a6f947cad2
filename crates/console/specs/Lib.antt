pub mod Sum
pub mod Filled
pub mod Heads
