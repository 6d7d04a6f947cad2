-- What the public contracts rest on, here and in callers
pub mod Check
pub mod Parts
