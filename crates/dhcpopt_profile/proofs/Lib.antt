mod Looks
mod Rows
mod Entries
mod Numbers
pub mod Kept
mod Calls
