pub mod Filling
pub mod Quick
pub mod First
pub mod Plans
pub mod Parts
pub mod Used
pub mod Cases
