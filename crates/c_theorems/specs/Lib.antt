-- What the demands say of the calls that C links
pub mod Refusals
pub mod RelayRefusals
pub mod Answers
pub mod Sheets
pub mod Routes
