pub mod Rests
pub mod Laying
pub mod Listed
pub mod VendorOutcomes
pub mod RelayOutcomes
pub mod Walking
pub mod Identified
pub mod Cases
