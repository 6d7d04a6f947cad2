pub mod Counting
pub mod Sizes
pub mod Trying
pub mod Numbers
