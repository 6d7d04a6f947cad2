pub mod Laws
pub mod Times
pub mod Counting
pub mod Noting
