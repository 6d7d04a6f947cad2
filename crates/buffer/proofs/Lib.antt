pub mod Laws
-- For callers
pub mod Copied
pub mod Writing
