-- Demand 1
pub mod Fills
pub mod Calls
pub mod RelayRefused
-- Demand 2
pub mod Shown
-- Demands 2 and 3, of what is written
pub mod Written
-- The reply profile
pub mod Profiled
-- Classless routes
pub mod Routed
