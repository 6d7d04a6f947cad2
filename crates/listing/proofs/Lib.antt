pub mod Lines
-- The listing of a message
pub mod Room
pub mod Whole
