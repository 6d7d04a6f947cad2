pub mod Steps
pub mod Looked
pub mod Entries
pub mod Heads
pub mod Built
