pub mod Bits
pub mod One
pub mod Measuring
pub mod Laying
pub mod Outcomes
