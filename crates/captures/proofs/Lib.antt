pub mod Closing
pub mod Stages
pub mod Keeping
pub mod Runs
pub mod Beginning
pub mod States
pub mod Cases
