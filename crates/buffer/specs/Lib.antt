-- What the public contracts rest on, here and in callers
pub mod Copy
pub mod Written
