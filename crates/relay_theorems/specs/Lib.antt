-- Cases worked by hand
pub mod Cases
pub mod Rowless
pub mod OneWalk
