pub mod Ruled
pub mod Judging
pub mod Putting
pub mod Outcomes
pub mod Cases
